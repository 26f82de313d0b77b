use Rattle.std.proofs.Common.{arith}
use Rattle.ft12.proofs.Writing.{closed_marks}
use Rattle.ft12.proofs.frames.Frame.mark_count.Goals as goal

pub returns-in-Fixed : goal.returns-in-Fixed
returns-in-Fixed c = rw c.in-Fixed.is (omega (arith, closed_marks c.args.self.now.octets.now))

pub returns-in-Variable : goal.returns-in-Variable
returns-in-Variable c = rw c.in-Variable.is (omega (arith, closed_marks c.args.self.now.octets.now))
