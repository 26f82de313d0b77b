use Rattle.std.proofs.Common.{refl}
use Rattle.ft12_laws.proofs.Worked.{worked}
use Rattle.ft12.proofs.worked.worked_frames.Goals as goal

pub returns : goal.returns
returns c = record { count = refl; hold = worked }
