-- The places of a character.
use Rattle.std.proofs.Common.{◌≡◌, ℕ, zero, suc, ◌<◌, Some, refl, arith}
use Rattle.lines.specs.Characters.{at_place, bit, framed, mark_if}
use Rattle.lines.specs.declared.mark.Mark.{Mark}

-- behind the start mark stand the bits, lowest first
pub data_at : (p s : Mark) (o k : ℕ) → k < 8 → at_place (framed p s o) (suc k) ≡ Some (mark_if (bit o k))
data_at p s o zero h = refl
data_at p s o (suc zero) h = refl
data_at p s o (suc (suc zero)) h = refl
data_at p s o (suc (suc (suc zero))) h = refl
data_at p s o (suc (suc (suc (suc zero)))) h = refl
data_at p s o (suc (suc (suc (suc (suc zero))))) h = refl
data_at p s o (suc (suc (suc (suc (suc (suc zero)))))) h = refl
data_at p s o (suc (suc (suc (suc (suc (suc (suc zero))))))) h = refl
data_at p s o (suc (suc (suc (suc (suc (suc (suc (suc k)))))))) h = absurd (omega arith)
