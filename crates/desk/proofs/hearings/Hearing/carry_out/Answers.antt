use Rattle.std.proofs.Common.{refl}
use Rattle.desk.proofs.hearings.Hearing.carry_out.Goals as goal

pub returns-in-Ft12 : goal.returns-in-Ft12
returns-in-Ft12 g c = rw c.in-Ft12.is (c.carry_out.new.receiver, refl, c.carry_out.ensures)

pub returns-in-Ft2 : goal.returns-in-Ft2
returns-in-Ft2 g c = rw c.in-Ft2.is (c.carry_out-in-Ft2.new.receiver, refl, c.carry_out-in-Ft2.ensures)
