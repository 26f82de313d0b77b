use Rattle.std.proofs.Common.{arith, zero-le}
use Rattle.formats.proofs.Putting.{put_join}
use Rattle.ft12.proofs.Writing.{closed_marks}
use Rattle.ft12.proofs.frames.Frame.put.Goals as goal

pub put_closed-requires : goal.put_closed-requires
put_closed-requires c = omega (arith, closed_marks c.args.self.now.octets.now, rw c.in-Fixed.is at c.mark_count.ensures, c.put_characters-next.ensures.behind)

pub put_closed-requires-in-Variable : goal.put_closed-requires-in-Variable
put_closed-requires-in-Variable c = omega (arith, closed_marks c.args.self.now.octets.now, rw c.in-Variable.is at c.mark_count.ensures, c.put_characters-next-in-Variable.ensures.behind)

pub returns-in-Fixed : goal.returns-in-Fixed
returns-in-Fixed c =
    let put = put_join zero-le c.put_characters-next.ensures c.put_closed.ensures in
    (omega (arith, put.behind, rw c.in-Fixed.is at c.mark_count.ensures), rw c.in-Fixed.is put)

pub returns-in-Variable : goal.returns-in-Variable
returns-in-Variable c =
    let put = put_join zero-le c.put_characters-next-in-Variable.ensures c.put_closed-in-Variable.ensures in
    (omega (arith, put.behind, rw c.in-Variable.is at c.mark_count.ensures), rw c.in-Variable.is put)
