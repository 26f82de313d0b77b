use Rattle.ft2_laws.proofs.Worked.{worked}
use Rattle.ft2.proofs.format.Ft2.new.Goals as goal

pub returns-in_err-new-clause-worked : goal.returns-in_err-new-clause-worked
returns-in_err-new-clause-worked c = worked

pub returns-clause-worked : goal.returns-clause-worked
returns-clause-worked c = worked
