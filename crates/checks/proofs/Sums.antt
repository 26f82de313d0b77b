-- Sums of polynomials modulo 2, as numbers under exclusive or.
use Rattle.std.proofs.Common.{◌≡◌, ℕ, suc, ◌*◌, ◌/◌, ◌^◌, ◌<◌, ◌≤◌, sym, ap, ◌∙◌, add-zero, div-lt_iff_lt-mul, pow-suc, le-div_iff_mul-le, arith, pow_pos}
use native.Mathlib.Nat.{div-eq_of_lt}
use lib.Bits.{bit_xor, xor_assoc, xor_comm, xor_self, xor_zero_r, xor_block}

-- a sum moved up n powers
pub xor_up : (n a b : ℕ) → bit_xor a b * 2 ^ n ≡ bit_xor (a * 2 ^ n) (b * 2 ^ n)
xor_up n a b = sym (simp add-zero at (xor_block n a b 0 0 (pow_pos n) (pow_pos n)))

pub xor_swap : (a b c d : ℕ) → bit_xor (bit_xor a b) (bit_xor c d) ≡ bit_xor (bit_xor a c) (bit_xor b d)
xor_swap a b c d =
    xor_assoc a b (bit_xor c d)
    ∙ ap (bit_xor a) (sym (xor_assoc b c d) ∙ ap (λ x. bit_xor x d) (xor_comm b c) ∙ xor_assoc c b d)
    ∙ sym (xor_assoc a c (bit_xor b d))

pub xor_twice : (a b : ℕ) → bit_xor a (bit_xor a b) ≡ b
xor_twice a b = sym (xor_assoc a a b) ∙ ap (λ x. bit_xor x b) (xor_self a)

-- what is equal to 0 under a sum is equal
pub xor_zero : (a b : ℕ) → bit_xor a b ≡ 0 → a ≡ b
xor_zero a b e = sym (xor_zero_r a) ∙ ap (bit_xor a) (sym e) ∙ xor_twice a b

-- below degree k or not, by the coefficient of x^k
module _ (k : ℕ) where
  pub top_zero : (t : ℕ) → t < 2 ^ k → t / 2 ^ k ≡ 0
  top_zero t h = div-eq_of_lt h

  pub top_one : (t : ℕ) → 2 ^ k ≤ t → t < 2 ^ suc k → t / 2 ^ k ≡ 1
  top_one t h l =
      let e : 2 ^ suc k ≡ 2 ^ k * 2 = pow-suc 2 k in
      let low : 1 ≤ t / 2 ^ k = (le-div_iff_mul-le (pow_pos k)).1 (omega arith) in
      let high : t / 2 ^ k < 2 = (div-lt_iff_lt-mul (pow_pos k)).1 (omega arith) in
      omega arith

  pub from_zero : (t : ℕ) → t / 2 ^ k ≡ 0 → t < 2 ^ k
  from_zero t e = let h : t < 1 * 2 ^ k = (div-lt_iff_lt-mul (pow_pos k)).0 (omega arith) in omega arith

  pub from_one : (t : ℕ) → t / 2 ^ k ≡ 1 → 2 ^ k ≤ t
  from_one t e = let h : 1 * 2 ^ k ≤ t = (le-div_iff_mul-le (pow_pos k)).0 (omega arith) in omega arith
