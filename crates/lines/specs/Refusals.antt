-- The number of each refusal.
use Rattle.std.specs.Prelude.{ℕ}
use Rattle.lines.specs.declared.refusal.RecordRefusal.{RecordRefusal}
use Rattle.lines.specs.declared.refusal.RecordRefusal.TheVariants.{OddOctetCount}

abbrev pub record_refusal_number : RecordRefusal → ℕ
record_refusal_number OddOctetCount = 2
