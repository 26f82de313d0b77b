-- What a receiver shows of each hearer that it is at.
use Rattle.std.proofs.Common.{◌≡◌, ℕ, List, refl, ap, ◌∙◌}
use Rattle.lines.specs.declared.mark.Mark.{Mark}
use Rattle.formats.specs.Laws.{Model}
use Rattle.hearing.proofs.Traces.{Tied}
use Rattle.hearing.specs.Rules.{Hearer, holding, ready, state_of, waiting, within}
use Rattle.hearing.specs.Rules as rules
use Rattle.receiver.specs.Places.{At, standing_of}
use Rattle.receiver.specs.Stages.{kept, state_kept}
use Rattle.receiver.specs.declared.receiver.Receiver.{Receiver}

pub same_state : (m : Model) (s : rules.Stage) → state_kept (kept m s) ≡ state_of s
same_state m waiting = refl
same_state m ready = refl
same_state m (within list) = refl
same_state m (holding kind octets) = refl

pub tied : {F : Type 0} (model : F → Model) (stands : F → List Mark → Type 0) (r : Receiver F) (buffer : List ℕ) (a : Hearer) → At model stands r buffer a → Tied (model r.format) (standing_of r) buffer a
tied model stands r buffer a p =
    record { state_tied = ap state_kept p.stage_kept ∙ same_state (model r.format) a.stage; run_tied = p.run_kept; buffer_tied = p.buffer_kept; sound = p.sound }
