-- The number of each refusal.
use Rattle.std.specs.Prelude.{ℕ}
use Rattle.hearing.specs.declared.refusal.ReceiverRefusal.{ReceiverRefusal}
use Rattle.hearing.specs.declared.refusal.ReceiverRefusal.TheVariants.{ShortBuffer, Holding, NotHolding}

abbrev pub receiver_refusal_number : ReceiverRefusal → ℕ
receiver_refusal_number ShortBuffer = 3
receiver_refusal_number Holding = 4
receiver_refusal_number NotHolding = 5
