-- In how many places the marks of bits differ.
use Rattle.std.proofs.Common.{◌≡◌, Bool, true, false, List, [], ◌∷◌, map, length, refl, arith}
use Rattle.checks.specs.Bits.{differ, differences}
use Rattle.lines.specs.Characters.{mark_if}
use Rattle.formats.specs.Marks.{change, changes}

change_bit : (a b : Bool) → change (mark_if a) (mark_if b) ≡ differ a b
change_bit true true = refl
change_bit true false = refl
change_bit false true = refl
change_bit false false = refl

-- good marks are altered where their bits differ
pub changes_bits : (u v : List Bool) → length u ≡ length v → changes (map mark_if u) (map mark_if v) ≡ differences u v
changes_bits [] [] l = refl
changes_bits [] (b ∷ v) l = absurd (omega arith)
changes_bits (a ∷ u) [] l = absurd (omega arith)
changes_bits (a ∷ u) (b ∷ v) l = let here = change_bit a b in let rest = changes_bits u v (omega arith) in omega arith
