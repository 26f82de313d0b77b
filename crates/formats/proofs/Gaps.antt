-- A quiet gap in a mark buffer.
use Rattle.std.proofs.Common.{◌≡◌, ℕ, zero, suc, List, ◌∷◌, ◌++◌, map, drop, replicate, refl, ap, ap₂}
use Rattle.std.proofs.lemmas.List.{length-replicate}
use Rattle.lines.specs.Records.{mark_octet}
use Rattle.lines.specs.declared.mark.Mark.TheVariants.{One}
use Rattle.formats.specs.Answers.{filled}
use Rattle.formats.specs.Marks.{ones}

ones_octets : (n : ℕ) → map mark_octet (ones n) ≡ replicate n 1
ones_octets zero = refl
ones_octets (suc n) = ap (λ os. 1 ∷ os) (ones_octets n)

-- so many octets 01, and behind them what the buffer held
pub gap_filled : (n : ℕ) (before : List ℕ) → filled (ones n) before ≡ replicate n 1 ++ drop n before
gap_filled n before = ap₂ (λ xs k. xs ++ drop k before) (ones_octets n) (length-replicate n One)
