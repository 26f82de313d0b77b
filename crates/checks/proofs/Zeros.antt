-- A block with its check is never ones only, and its zeros are even in number.
use Rattle.std.proofs.Common.{◌≡◌, ℕ, zero, suc, ◌+◌, ◌*◌, ◌%◌, ◌<◌, ◌≤◌, Bool, true, false, not, ◌&&◌, T, List, [], ◌∷◌, ◌++◌, map, length, sym, refl, ap, ◌∙◌, arith}
use Rattle.checks.specs.Bits.{block_bits, value, ones, zeros}
use Rattle.checks.specs.Division.{step, remainder_from}
use Rattle.checks.specs.Check.{generator, remainder_bits, parity_bit, check_bits}
use Rattle.checks.specs.Distance.{ZerosLaw, ZerosAttained}
use Rattle.checks.proofs.Weights.{nonzero, not_zero, t_left, t_right}
use Rattle.checks.proofs.Words.{length_block, ones_append, zeros_append, zeros_not, zeros_ones}
use Rattle.checks.proofs.Octets.{plain_check, even_plain, remainder_value}

-- the register is at 0 after none of the next n ones
abbrev ones_good : ℕ → ℕ → Bool
ones_good zero r = true
ones_good (suc n) r = nonzero (step 7 generator r true) && ones_good n (step 7 generator r true)

ones_sound : (u : List Bool) (n r : ℕ) → zeros u ≡ 0 → 0 < length u → length u ≤ n → T (ones_good n r) → remainder_from 7 generator r u ≡ 0 → ⊥
ones_sound [] n r none some l t e = absurd (omega (arith, some))
ones_sound (b ∷ u) zero r none some l t e = absurd (omega (arith, l))
ones_sound (false ∷ u) (suc n) r none some l t e = absurd (omega (arith, none))
ones_sound (true ∷ []) (suc n) r none some l t e = not_zero (step 7 generator r true) (t_left (nonzero (step 7 generator r true)) (ones_good n (step 7 generator r true)) t) e
ones_sound (true ∷ (c ∷ u)) (suc n) r none some l t e =
    ones_sound (c ∷ u) n (step 7 generator r true) none (omega arith) (omega (arith, l)) (t_right (nonzero (step 7 generator r true)) (ones_good n (step 7 generator r true)) t) e

value_none : (u : List Bool) → ones u ≡ 0 → value u ≡ 0
value_none [] e = refl
value_none (true ∷ u) e = absurd (omega (arith, e))
value_none (false ∷ u) e = omega (arith, value_none u e)

-- zeros in block and check: the block's, and where the check is inverted its ones
pub zeros_checked : (u : List Bool) → zeros (u ++ check_bits u) ≡ zeros u + ones (plain_check u)
unfolding check_bits
zeros_checked u = zeros_append u (map not (plain_check u)) ∙ ap (λ n. zeros u + n) (zeros_not (plain_check u))

pub zeros_some : (u : List Bool) → 0 < length u → length u ≤ 120 → 0 < zeros (u ++ check_bits u)
zeros_some u some l =
    let shows : zeros (u ++ check_bits u) ≡ 0 → ⊥ =
    λ none.
    let seven : ones (remainder_bits u) ≡ 0 = omega (arith, none, zeros_checked u, ones_append (remainder_bits u) (parity_bit u ∷ [])) in
    ones_sound u 120 0 (omega (arith, none, zeros_checked u)) some l tt (sym (remainder_value u) ∙ value_none (remainder_bits u) seven) in
    omega (arith, shows)

pub zeros_even : (u : List Bool) → length u % 2 ≡ 0 → zeros (u ++ check_bits u) % 2 ≡ 0
zeros_even u e = omega (arith, e, zeros_checked u, zeros_ones u, ones_append u (plain_check u), even_plain u)

pub zeros_law : ZerosLaw 2
zeros_law block some l =
    let u : List Bool = block_bits block in
    let long : length u ≡ 8 * length block = length_block block in
    let even : zeros (u ++ check_bits u) % 2 ≡ 0 = zeros_even u (omega (arith, long)) in
    (omega (arith, even, zeros_some u (omega (arith, long)) (omega (arith, long))), even)

pub zeros_attained : ZerosAttained 2
unfolding check_bits remainder_bits
zeros_attained = (0xFF, refl)
