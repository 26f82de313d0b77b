-- What is printed of states, standings and refusals.
use Rattle.std.specs.Prelude.{ℕ, List, ◌++◌, codes}
use Rattle.std.specs.Fmt.{decimal}
use Rattle.hearing.specs.declared.answer.Standing.{Standing}
use Rattle.hearing.specs.declared.answer.State.{State}
use Rattle.hearing.specs.declared.answer.State.TheVariants as state
use Rattle.hearing.specs.declared.refusal.ReceiverRefusal.{ReceiverRefusal}
use Rattle.hearing.specs.declared.refusal.ReceiverRefusal.TheVariants.{ShortBuffer, Holding, NotHolding}

abbrev pub state_text : State → List ℕ
state_text state.Waiting = codes "waiting"
state_text state.Ready = codes "ready"
state_text state.Open = codes "open"
state_text state.Holding = codes "holding"

-- the state and the run
abbrev pub standing_text : Standing → List ℕ
standing_text s = state_text s.state ++ (codes ", run " ++ decimal s.run)

abbrev pub receiver_refusal_text : ReceiverRefusal → List ℕ
receiver_refusal_text ShortBuffer = codes "frame buffer has fewer than 255 octets"
receiver_refusal_text Holding = codes "a frame is held"
receiver_refusal_text NotHolding = codes "no frame is held"
