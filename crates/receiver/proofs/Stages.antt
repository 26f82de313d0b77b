-- A receiver at a stage.
use Rattle.std.proofs.Common.{◌≡◌, ℕ, Bool, true, false, cond, ltb, List, [], ◌≢◌}
use Rattle.lines.specs.declared.mark.Mark.{Mark}
use Rattle.formats.specs.Laws.{Model}
use Rattle.hearing.specs.Rules.{Sound, holding, ready, waiting, within}
use Rattle.hearing.specs.Rules as rules
use Rattle.hearing.specs.declared.answer.State.TheVariants as state
use Rattle.receiver.specs.Stages.{kept, list_at, state_kept}
use Rattle.receiver.specs.declared.stage.Stage.{Stage}
use Rattle.receiver.specs.declared.stage.Stage.TheVariants as stage

-- the receiver is at a stage of the rules: it keeps that stage, and its format stands for the list there
pub record Stands {F : Type 0} (model : F → Model) (stands : F → List Mark → Type 0) (format : F) (s : Stage) (a : rules.Stage) : Type 0 where
  pub stage_kept : s ≡ kept (model format) a
  pub list_stands : stands format (list_at a)
  pub sound : Sound (model format) a

module _ {F : Type 0} (model : F → Model) (stands : F → List Mark → Type 0) (f : F) where
  -- in no list and without a frame
  pub stands_resting : (s : Stage) (gap run : ℕ) → s ≡ kept (model f) (rules.resting gap run) → stands f [] → Stands model stands f s (rules.resting gap run)
  stands_resting s gap run e p = record { stage_kept = e; list_stands = list (ltb run gap); sound = sound (ltb run gap) }
    where
      list : (b : Bool) → stands f (list_at (cond b waiting ready))
      list true = p
      list false = p

      sound : (b : Bool) → Sound (model f) (cond b waiting ready)
      sound true = tt
      sound false = tt

-- a held frame's octets, or none
abbrev pub Holds : Stage → ℕ → Type 0
Holds s octets = (kind : ℕ) × (s ≡ stage.Holding kind octets)

abbrev pub Free : Stage → Type 0
Free s = state_kept s ≢ state.Holding

pub held_at : (m : Model) (a : rules.Stage) (s : Stage) (octets : ℕ) → s ≡ kept m a → Holds s octets → (kind : ℕ) × (a ≡ holding kind octets)
held_at m waiting s octets e h = let e' = h.1 in cc
held_at m ready s octets e h = let e' = h.1 in cc
held_at m (within list) s octets e h = let e' = h.1 in cc
held_at m (holding kind count) s octets e h = let e' = h.1 in (kind, cc)
