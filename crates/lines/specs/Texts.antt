-- What is printed of a mark and of a refusal.
use Rattle.std.specs.Prelude.{ℕ, List, codes}
use Rattle.lines.specs.declared.mark.Mark.{Mark}
use Rattle.lines.specs.declared.mark.Mark.TheVariants.{Zero, One, Bad}
use Rattle.lines.specs.declared.refusal.RecordRefusal.{RecordRefusal}
use Rattle.lines.specs.declared.refusal.RecordRefusal.TheVariants.{OddOctetCount}

-- one symbol
abbrev pub mark_text : Mark → List ℕ
mark_text Zero = codes "0"
mark_text One = codes "1"
mark_text Bad = codes "x"

abbrev pub record_refusal_text : RecordRefusal → List ℕ
record_refusal_text OddOctetCount = codes "odd number of octets"
