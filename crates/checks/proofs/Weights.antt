-- Words that the divisor divides: a word is a block with its remainder bits after it, and few ones are too few for one.
use Rattle.std.proofs.Common.{◌≡◌, ℕ, zero, suc, ◌+◌, ◌*◌, ◌/◌, ◌%◌, ◌^◌, ◌<◌, ◌≤◌, Bool, true, false, not, ◌&&◌, T, eqb, ◌⊎◌, List, [], ◌∷◌, ◌++◌, length, sym, ap, ◌∙◌, subst, ap₂, inl, inr, add-zero, mod-lt, mod-eq_of_lt, mul_assoc, add-mul, suc-add, pow-suc, mul-one, one-add, arith, T_not, pow_pos, pow-add, shl_lt}
use native.Mathlib.Nat.{mod-one}
use lib.Bits.{bit_xor, xor_self, xor_zero_r, xor_block}
use lib.Pow.{mod-pow-add}
use Rattle.std.proofs.lemmas.Bool.{cases_lt}
use Rattle.checks.specs.Bits.{bit, bits, ones}
use Rattle.checks.specs.Division.{times_bit, OfDegree, reduced, step, remainder_from, remainder}
use Rattle.checks.proofs.Sums.{xor_zero}
use Rattle.checks.proofs.Folding.{reduced_below, reduced_above, remainder_append, remainder_lt}

pub times_digit : (c p : ℕ) → c < 2 → times_bit (eqb c 1) p ≡ c * p
times_digit zero p h = omega arith
times_digit (suc zero) p h = omega arith
times_digit (suc (suc c)) p h = absurd (omega arith)

module _ (k P : ℕ) where
  -- a bit that equals the register's top coefficient takes that away, and nothing is reduced
  own_top : (c l : ℕ) → c < 2 → l < 2 ^ k → reduced k P (bit_xor (c * 2 ^ k + l) (times_bit (eqb c 1) (2 ^ k))) ≡ l
  own_top c l h below =
      let z : 0 * 2 ^ k + l ≡ l = omega arith in
      ap (λ x. reduced k P (bit_xor (c * 2 ^ k + l) x)) (times_digit c (2 ^ k) h ∙ sym (add-zero (c * 2 ^ k)))
      ∙ ap (reduced k P) (xor_block k c c l 0 below (pow_pos k) ∙ ap₂ (λ x y. x * 2 ^ k + y) (xor_self c) (xor_zero_r l) ∙ z)
      ∙ reduced_below k P l below

  own_step : (n m s : ℕ) → suc n + m ≡ k → step k P (s % 2 ^ suc n * 2 ^ m) (bit s n) ≡ s % 2 ^ n * 2 ^ suc m
  own_step n m s e =
      let c : ℕ = s / 2 ^ n % 2 in
      let l : ℕ = s % 2 ^ n in
      let cut : s % 2 ^ suc n ≡ c * 2 ^ n + l = ap (λ x. s % 2 ^ x) (sym (one-add n)) ∙ mod-pow-add s 1 n in
      let whole : 2 ^ k ≡ 2 ^ n * 2 ^ m * 2 = ap (λ x. 2 ^ x) (sym e ∙ suc-add n m) ∙ pow-suc 2 (n + m) ∙ ap (λ x. x * 2) (pow-add 2 n m) in
      let up : 2 ^ suc m ≡ 2 ^ m * 2 = pow-suc 2 m in
      let parts : (c * 2 ^ n + l) * 2 ^ m * 2 ≡ c * (2 ^ n * 2 ^ m * 2) + l * (2 ^ m * 2) = simp (add-mul, mul_assoc) in
      let sum : s % 2 ^ suc n * 2 ^ m * 2 ≡ c * 2 ^ k + l * 2 ^ suc m =
      ap (λ x. x * 2 ^ m * 2) cut ∙ parts ∙ sym (ap₂ (λ x y. c * x + l * y) whole up) in
      let room : n + suc m ≡ k = omega (arith, e) in
      let below : l * 2 ^ suc m < 2 ^ k = subst (λ x. l * 2 ^ suc m < 2 ^ x) room (shl_lt n (suc m) (mod-lt s (pow_pos n))) in
      ap (λ x. reduced k P (bit_xor x (times_bit (eqb c 1) (2 ^ k)))) sum ∙ own_top c (l * 2 ^ suc m) (mod-lt (s / 2 ^ n) (omega arith)) below

  -- the register's own bits take it to 0
  own_bits_from : (n m s : ℕ) → n + m ≡ k → remainder_from k P (s % 2 ^ n * 2 ^ m) (bits n s) ≡ 0
  own_bits_from zero m s e = let z : s % 1 ≡ 0 = mod-one s in ap (λ x. x * 2 ^ m) z ∙ omega arith
  own_bits_from (suc n) m s e =
      ap (λ x. remainder_from k P x (bits n s)) (own_step n m s e) ∙ own_bits_from n (suc m) s (omega (arith, e))

  pub own_bits : (r : ℕ) → r < 2 ^ k → remainder_from k P r (bits k r) ≡ 0
  own_bits r h =
      ap (λ x. remainder_from k P x (bits k r)) (sym (mul-one (r % 2 ^ k) ∙ mod-eq_of_lt h)) ∙ own_bits_from k 0 r (add-zero k)

  -- a block with its remainder bits after it leaves no remainder
  pub word_zero : OfDegree k P → (u : List Bool) → remainder k P (u ++ bits k (remainder k P u)) ≡ 0
  word_zero degree u =
      remainder_append k P u (bits k (remainder k P u)) 0 ∙ own_bits (remainder k P u) (remainder_lt k P degree u)

abbrev pub nonzero : ℕ → Bool
nonzero r = not (eqb r 0)

-- the register r does not end at 0, with at most n bits to come and at most w ones among them
abbrev pub good : ℕ → ℕ → ℕ → ℕ → ℕ → Bool
good k P zero w r = nonzero r
good k P (suc n) zero r = nonzero r
good k P (suc n) (suc w) r = nonzero r && (good k P n (suc w) (step k P r false) && good k P n w (step k P r true))

pub not_zero : (r : ℕ) → T (nonzero r) → r ≡ 0 → ⊥
not_zero r t e = T_not (eqb r 0) t (subst (λ x. T (eqb x 0)) (sym e) tt)

pub t_left : (a b : Bool) → T (a && b) → T a
t_left true b t = tt
t_left false b t = t

pub t_right : (a b : Bool) → T (a && b) → T b
t_right true b t = t
t_right false b t = absurd t

module _ (k P : ℕ) (odd : P % 2 ≡ 1) where
  -- zeros alone take no register to 0
  step_zero : (r : ℕ) → step k P r false ≡ 0 → r ≡ 0
  step_zero r e = go (cases_lt (r * 2) (2 ^ k))
    where
      plain : step k P r false ≡ reduced k P (r * 2)
      plain = ap (reduced k P) (xor_zero_r (r * 2))

      go : (r * 2 < 2 ^ k) ⊎ (2 ^ k ≤ r * 2) → r ≡ 0
      go (inl h) = let z : r * 2 ≡ 0 = sym (plain ∙ reduced_below k P (r * 2) h) ∙ e in omega arith
      go (inr h) = let z : r * 2 ≡ P = xor_zero (r * 2) P (sym (plain ∙ reduced_above k P (r * 2) h) ∙ e) in omega (arith, odd)

  zeros_keep : (d : List Bool) (r : ℕ) → ones d ≡ 0 → (r ≡ 0 → ⊥) → remainder_from k P r d ≡ 0 → ⊥
  zeros_keep [] r none h e = h e
  zeros_keep (true ∷ d) r none h e = absurd (omega (arith, none))
  zeros_keep (false ∷ d) r none h e = zeros_keep d (step k P r false) none (λ z. h (step_zero r z)) e

  good_nonzero : (n w r : ℕ) → T (good k P n w r) → r ≡ 0 → ⊥
  good_nonzero zero w r t e = not_zero r t e
  good_nonzero (suc n) zero r t e = not_zero r t e
  good_nonzero (suc n) (suc w) r t e = not_zero r (t_left (nonzero r) _ t) e

  good_sound : (d : List Bool) (n w r : ℕ) → length d ≤ n → ones d ≤ w → T (good k P n w r) → remainder_from k P r d ≡ 0 → ⊥
  good_sound [] n w r l h t e = good_nonzero n w r t e
  good_sound (b ∷ d) zero w r l h t e = absurd (omega (arith, l))
  good_sound (true ∷ d) (suc n) zero r l h t e = absurd (omega (arith, h))
  good_sound (false ∷ d) (suc n) zero r l h t e = zeros_keep (false ∷ d) r (omega (arith, h)) (not_zero r t) e
  good_sound (true ∷ d) (suc n) (suc w) r l h t e =
      good_sound d n w (step k P r true) (omega arith) (omega (arith, h)) (t_right (good k P n (suc w) (step k P r false)) _ (t_right (nonzero r) _ t)) e
  good_sound (false ∷ d) (suc n) (suc w) r l h t e =
      good_sound d n (suc w) (step k P r false) (omega arith) h (t_left (good k P n (suc w) (step k P r false)) _ (t_right (nonzero r) _ t)) e

  -- from the first one on: a word of at most n + 1 bits with 1 to w + 1 ones leaves a remainder
  pub few_ones_show : (n w : ℕ) → T (good k P n w (step k P 0 true)) → (d : List Bool) → length d ≤ suc n → ones d ≤ suc w → 0 < ones d → remainder k P d ≡ 0 → ⊥
  few_ones_show n w t [] l h some e = absurd (omega (arith, some))
  few_ones_show n w t (true ∷ d) l h some e = good_sound d n w (step k P 0 true) (omega arith) (omega (arith, h)) t e
  few_ones_show n w t (false ∷ d) l h some e =
      few_ones_show n w t d (omega arith) h some
      (ap (λ x. remainder_from k P x d) (sym (reduced_below k P 0 (pow_pos k))) ∙ e)
