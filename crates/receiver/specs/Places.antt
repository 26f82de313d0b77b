-- Where a receiver is, in the words of the rules.
use Rattle.std.specs.Prelude.{◌≡◌, ℕ, List}
use Rattle.lines.specs.declared.mark.Mark.{Mark}
use Rattle.formats.specs.Laws.{Model}
use Rattle.hearing.specs.Rules.{Hearer, Sound}
use Rattle.hearing.specs.declared.answer.Standing.{Standing}
use Rattle.receiver.specs.declared.receiver.Receiver.{Receiver}
pub use Rattle.receiver.specs.Stages.{kept, list_at, state_kept}

abbrev pub standing_of : {F : Type 0} → Receiver F → Standing
standing_of r = record { state = state_kept r.stage; run = r.run }

abbrev pub model_of : {F : Type 0} → (F → Model) → Receiver F → Model
model_of model r = model r.format

-- a receiver with its frame buffer is at a hearer: it keeps its stage and run, the buffer is the same, and the format stands for the list
pub record At {F : Type 0} (model : F → Model) (stands : F → List Mark → Type 0) (r : Receiver F) (buffer : List ℕ) (a : Hearer) : Type 0 where
  pub stage_kept : r.stage ≡ kept (model r.format) a.stage
  pub run_kept : r.run ≡ a.run
  pub buffer_kept : a.buffer ≡ buffer
  pub list_stands : stands r.format (list_at a.stage)
  pub sound : Sound (model r.format) a.stage
