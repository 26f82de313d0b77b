-- How the desk answers what the library's calls answer.
use Rattle.std.specs.Prelude.{ℕ, Ok, Err, Result}
use Rattle.formats.specs.Numbers.{settings_refusal_number, write_refusal_number}
use Rattle.formats.specs.Verdicts.{Cause}
use Rattle.hearing.specs.Numbers.{receiver_refusal_number}
use Rattle.hearing.specs.Told.{told}
use Rattle.hearing.specs.declared.answer.Heard.{Heard}
use Rattle.hearing.specs.declared.fault.ReceiverFault.{ReceiverFault}
use Rattle.desk.specs.declared.answer.DeskAnswer.{DeskAnswer}
use Rattle.desk.specs.declared.answer.DeskAnswer.TheVariants as answer
use Rattle.desk.specs.declared.answer.DeskRefusal.{DeskRefusal}
use Rattle.desk.specs.declared.answer.DeskRefusal.TheVariants as refusal
use Rattle.desk.specs.declared.answer.Undone.{Undone}
use Rattle.desk.specs.declared.answer.Undone.TheVariants.{Refused}

-- a refusal keeps its number
abbrev pub refusal_number : DeskRefusal → ℕ
refusal_number (refusal.Settings e) = settings_refusal_number e
refusal_number (refusal.Receiver e) = receiver_refusal_number e
refusal_number (refusal.Write e) = write_refusal_number e

-- what a call of the library's answered, in the desk's words
abbrev pub answered : {A E : Type 0} → (A → DeskAnswer) → (E → DeskRefusal) → Result A E → Result DeskAnswer Undone
answered shown refused (Ok x) = Ok (shown x)
answered shown refused (Err e) = Err (Refused (refused e))

-- the answer to a listen: the fault is told by its cause and place
abbrev pub heard : {E : Type 0} → (E → Cause) → Heard (ReceiverFault E) → DeskAnswer
heard cause h = answer.Heard (record { taken = h.taken; ending = told cause h.ending })
