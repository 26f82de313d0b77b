use Rattle.hearing.proofs.Promised.{promised}
use Rattle.receiver.proofs.Ties.{tied}
use Rattle.receiver.specs.Places.{At, model_of, standing_of}
use Rattle.receiver.proofs.promise.never_deaf_and_never_deceived.Goals as goal

-- the promise over the relations of the calls, from the format's laws
pub returns-clause-promise : goal.returns-clause-promise
returns-clause-promise g c =
    promised g.F.Fault.Fault.cause (At g.F.ReadFormat.model g.F.ReadFormat.stands) (model_of g.F.ReadFormat.model) standing_of g.L.Line.pending (tied g.F.ReadFormat.model g.F.ReadFormat.stands) (λ r. g.met.F.ReadFormat.lawful r.format)
