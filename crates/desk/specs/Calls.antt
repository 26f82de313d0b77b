-- What the calls to a receiver do, with their answers in the desk's words. F is the type of the format, which means `model` and
-- stands for lists of marks.
use Rattle.std.specs.Prelude.{◌≡◌, ℕ, List, length, Ok, Result, vec_items}
use Rattle.lines.specs.declared.mark.Mark.{Mark}
use Rattle.formats.specs.Answers.{GapWritten, Written}
use Rattle.formats.specs.Laws.{Model}
use Rattle.formats.specs.Verdicts.{Cause}
use Rattle.formats.specs.declared.refusal.WriteRefusal.{WriteRefusal}
use Rattle.hearing.specs.Calls.{Begun, Listened, Looked, Released}
use Rattle.hearing.specs.declared.answer.Heard.{Heard}
use Rattle.hearing.specs.declared.fault.ReceiverFault.{ReceiverFault}
use Rattle.hearing.specs.declared.refusal.ReceiverRefusal.{ReceiverRefusal}
use Rattle.receiver.specs.Places.{At, model_of, standing_of}
use Rattle.receiver.specs.declared.receiver.Receiver.{Receiver}
use Rattle.desk.specs.Answers.{answered, heard}
use Rattle.desk.specs.declared.answer.DeskAnswer.{DeskAnswer}
use Rattle.desk.specs.declared.answer.DeskAnswer.TheVariants as answer
use Rattle.desk.specs.declared.answer.DeskRefusal.TheVariants as refusal
use Rattle.desk.specs.declared.answer.Undone.{Undone}
use Rattle.desk.specs.declared.hearings.Buffers.{Buffers}
use Rattle.desk.specs.declared.hearings.Call.{Call}
use Rattle.desk.specs.declared.hearings.Call.TheVariants as call

module _ {F : Type 0} (model : F → Model) (stands : F → List Mark → Type 0) where
  -- a new receiver
  abbrev pub New : Model → Receiver F → Type 0
  New m r = Begun (At model stands) standing_of r × (model_of model r ≡ m)

  -- A call, and what was there before and after it: the receiver, the line and the buffers. What the receiver's or the format's
  -- own call answered is answered.
  abbrev pub CarriedOut : {E L : Type 0} → (E → Cause) → (L → List Mark) → Call → Receiver F → Receiver F → L → L → Buffers → Buffers → Result DeskAnswer Undone → Type 0
  CarriedOut cause pending call.New r r' l l' b b' a =
      (a ≡ Ok answer.NewReceiver) × New (model_of model r) r' × (l' ≡ l) × (b' ≡ b)
  CarriedOut cause pending (call.Write kind octets) r r' l l' b b' a =
      ((w : Result ℕ WriteRefusal) × Written (model_of model r) kind (vec_items octets) (vec_items b.marks) w (vec_items b'.marks) × (a ≡ answered answer.Wrote refusal.Write w))
      × (r' ≡ r) × (l' ≡ l) × (b'.frame ≡ b.frame)
  CarriedOut cause pending call.Gap r r' l l' b b' a =
      ((w : Result ℕ WriteRefusal) × GapWritten (model_of model r) (vec_items b.marks) w (vec_items b'.marks) × (a ≡ answered answer.Wrote refusal.Write w))
      × (r' ≡ r) × (l' ≡ l) × (b'.frame ≡ b.frame)
  CarriedOut {E} cause pending (call.Listen budget) r r' l l' b b' a =
      ((w : Result (Heard (ReceiverFault E)) ReceiverRefusal) × Listened cause (At model stands) (model_of model) standing_of pending budget r r' l l' (vec_items b.frame) (vec_items b'.frame) w × (a ≡ answered (heard cause) refusal.Receiver w))
      × (b'.marks ≡ b.marks)
  CarriedOut cause pending call.Look r r' l l' b b' a =
      ((w : Result (List ℕ) ReceiverRefusal) × Looked (At model stands) standing_of r (vec_items b.frame) w × (a ≡ answered (λ octets. answer.Looked (length octets)) refusal.Receiver w))
      × (r' ≡ r) × (l' ≡ l) × (b' ≡ b)
  CarriedOut cause pending call.Release r r' l l' b b' a =
      ((w : Result (Unit {0}) ReceiverRefusal) × Released (At model stands) (model_of model) standing_of r r' w × (a ≡ answered (λ _. answer.Released) refusal.Receiver w))
      × (l' ≡ l) × (b' ≡ b)
  CarriedOut cause pending call.State r r' l l' b b' a =
      (a ≡ Ok (answer.Stands (standing_of r))) × (r' ≡ r) × (l' ≡ l) × (b' ≡ b)
