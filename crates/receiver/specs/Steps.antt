-- What one mark does to a receiver.
use Rattle.std.specs.Prelude.{◌≡◌, ℕ, List, [], ◌∷◌, ◌++◌, Some, None, Option}
use Rattle.lines.specs.declared.mark.Mark.{Mark}
use Rattle.formats.specs.Laws.{Model}
use Rattle.formats.specs.Marks.{Begins}
use Rattle.formats.specs.Verdicts.{Cause, OpenAlong}
use Rattle.hearing.specs.Calls.{Ends}
use Rattle.hearing.specs.Rules.{Event, Hearer, hears, judged, nothing}
use Rattle.hearing.specs.declared.answer.Ending.{Ending}
use Rattle.hearing.specs.declared.answer.Ending.TheVariants as ending
use Rattle.hearing.specs.declared.fault.ReceiverFault.{ReceiverFault}
use Rattle.receiver.specs.Places.{At}
use Rattle.receiver.specs.Stages.{list_kept}
use Rattle.receiver.specs.declared.receiver.Receiver.{Receiver}
use Rattle.receiver.specs.declared.stage.OpenList.{OpenList}

-- a mark ends the listen, or does not
abbrev pub EndedBy : {E : Type 0} → (E → Cause) → Event → Option (Ending (ReceiverFault E)) → Type 0
EndedBy cause event None = event ≡ nothing
EndedBy cause event (Some end) = Ends cause event end

-- what a mark ends a listen with is a frame or a fault
abbrev pub Loud : {E : Type 0} → Option (Ending E) → Type 0
Loud None = Unit {0}
Loud (Some (ending.Frame kind octets)) = Unit {0}
Loud (Some (ending.Fault why)) = Unit {0}
Loud (Some ending.Spent) = ⊥
Loud (Some ending.Empty) = ⊥

module _ {F E : Type 0} (cause : E → Cause) (model : F → Model) (stands : F → List Mark → Type 0) where
  -- One mark more in an open list of which so much is kept: for each such list that the format stands for, the receiver is
  -- where the rules have it, and the answer is what the mark brought.
  pub record Judges (mark : Mark) (so_far : OpenList) (r r' : Receiver F) (buffer buffer' : List ℕ) (answer : Option (Ending (ReceiverFault E))) : Type 0 where
    pub same_format : model r'.format ≡ model r.format
    pub each : (list : List Mark) → stands r.format list → OpenAlong (model r.format).verdict [] list → Begins (list ++ (mark ∷ [])) → so_far ≡ list_kept (model r.format) list
        → At model stands r' buffer' (judged (model r.format) list r.run buffer mark).hearer × EndedBy cause (judged (model r.format) list r.run buffer mark).event answer

  -- One mark taken: the same for each hearer that the receiver is at.
  pub record Takes (mark : Mark) (r r' : Receiver F) (buffer buffer' : List ℕ) (answer : Option (Ending (ReceiverFault E))) : Type 0 where
    pub same_format : model r'.format ≡ model r.format
    pub each : (a : Hearer) → At model stands r buffer a → At model stands r' buffer' (hears (model r.format) a mark).hearer × EndedBy cause (hears (model r.format) a mark).event answer
