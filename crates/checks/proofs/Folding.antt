-- The register of the division: what one bit more does to it, and to a sum of two registers.
use Rattle.std.proofs.Common.{◌≡◌, ℕ, suc, ◌*◌, ◌^◌, ◌<◌, ◌≤◌, Bool, true, false, not, ltb, ◌⊎◌, List, [], ◌∷◌, ◌++◌, length, sym, refl, ap, ◌∙◌, subst, ap₂, inl, inr, pow-suc, arith, pow_pos}
use lib.Bits.{bit_xor, xor_assoc, xor_comm, xor_self, xor_zero_r, xor_lt, xor_shr}
use Rattle.std.proofs.lemmas.Bool.{cases_lt, cond-true, cond-false, lt-ltb, le-ltb}
use Rattle.checks.specs.Division.{times_bit, OfDegree, reduced, step, remainder_from, remainder}
use Rattle.checks.proofs.Sums.{xor_up, xor_swap, top_zero, top_one, from_zero, from_one}

-- two bits added
abbrev pub plus : Bool → Bool → Bool
plus true b = not b
plus false b = b

pub times_plus : (b c : Bool) (p : ℕ) → times_bit (plus b c) p ≡ bit_xor (times_bit b p) (times_bit c p)
times_plus true true p = sym (xor_self p)
times_plus true false p = sym (xor_zero_r p)
times_plus false c p = refl

pub times_lt : (b : Bool) (p m : ℕ) → p < m → times_bit b p < m
times_lt true p m h = h
times_lt false p m h = omega arith

module _ (k P : ℕ) where
  pub reduced_below : (t : ℕ) → t < 2 ^ k → reduced k P t ≡ t
  reduced_below t h = cond-true (ltb t (2 ^ k)) t (bit_xor t P) (lt-ltb t (2 ^ k) h)

  pub reduced_above : (t : ℕ) → 2 ^ k ≤ t → reduced k P t ≡ bit_xor t P
  reduced_above t h = cond-false (ltb t (2 ^ k)) t (bit_xor t P) (le-ltb t (2 ^ k) h)

-- what a register and a bit make before the reduction
abbrev pub taken : ℕ → ℕ → Bool → ℕ
taken k r b = bit_xor (r * 2) (times_bit b (2 ^ k))

pub taken_lt : (k r : ℕ) (b : Bool) → r < 2 ^ k → taken k r b < 2 ^ suc k
taken_lt k r b h =
    let e : 2 ^ suc k ≡ 2 ^ k * 2 = pow-suc 2 k in
    let p : 0 < 2 ^ k = pow_pos k in
    xor_lt (suc k) (r * 2) (times_bit b (2 ^ k)) (omega arith) (times_lt b (2 ^ k) (2 ^ suc k) (omega arith))

pub taken_plus : (k r s : ℕ) (b c : Bool) → taken k (bit_xor r s) (plus b c) ≡ bit_xor (taken k r b) (taken k s c)
taken_plus k r s b c =
    ap₂ bit_xor (xor_up 1 r s) (times_plus b c (2 ^ k)) ∙ xor_swap (r * 2) (s * 2) (times_bit b (2 ^ k)) (times_bit c (2 ^ k))

-- a sum reaches degree k where one of its two parts does
module _ (k s t : ℕ) where
  pub high_high : 2 ^ k ≤ s → s < 2 ^ suc k → 2 ^ k ≤ t → t < 2 ^ suc k → bit_xor s t < 2 ^ k
  high_high hs ls ht lt = from_zero k (bit_xor s t) (xor_shr s t k ∙ ap₂ bit_xor (top_one k s hs ls) (top_one k t ht lt))

  pub low_high : s < 2 ^ k → 2 ^ k ≤ t → t < 2 ^ suc k → 2 ^ k ≤ bit_xor s t
  low_high hs ht lt = from_one k (bit_xor s t) (xor_shr s t k ∙ ap₂ bit_xor (top_zero k s hs) (top_one k t ht lt))

  pub high_low : 2 ^ k ≤ s → s < 2 ^ suc k → t < 2 ^ k → 2 ^ k ≤ bit_xor s t
  high_low hs ls ht = from_one k (bit_xor s t) (xor_shr s t k ∙ ap₂ bit_xor (top_one k s hs ls) (top_zero k t ht))

module _ (k P : ℕ) (degree : OfDegree k P) where
  pub reduced_lt : (t : ℕ) → t < 2 ^ suc k → reduced k P t < 2 ^ k
  reduced_lt t l = go (cases_lt t (2 ^ k))
    where
      go : (t < 2 ^ k) ⊎ (2 ^ k ≤ t) → reduced k P t < 2 ^ k
      go (inl h) = subst (λ x. x < 2 ^ k) (sym (reduced_below k P t h)) h
      go (inr h) = subst (λ x. x < 2 ^ k) (sym (reduced_above k P t h)) (high_high k t P h l degree.0 degree.1)

  pub step_lt : (r : ℕ) (b : Bool) → r < 2 ^ k → step k P r b < 2 ^ k
  step_lt r b h = reduced_lt (taken k r b) (taken_lt k r b h)

  -- reduction of a sum is the sum of the reductions
  pub reduced_plus : (s t : ℕ) → s < 2 ^ suc k → t < 2 ^ suc k → reduced k P (bit_xor s t) ≡ bit_xor (reduced k P s) (reduced k P t)
  reduced_plus s t ls lt = go (cases_lt s (2 ^ k)) (cases_lt t (2 ^ k))
    where
      go : (s < 2 ^ k) ⊎ (2 ^ k ≤ s) → (t < 2 ^ k) ⊎ (2 ^ k ≤ t) → reduced k P (bit_xor s t) ≡ bit_xor (reduced k P s) (reduced k P t)
      go (inl hs) (inl ht) =
          reduced_below k P (bit_xor s t) (xor_lt k s t hs ht)
          ∙ sym (ap₂ bit_xor (reduced_below k P s hs) (reduced_below k P t ht))
      go (inl hs) (inr ht) =
          reduced_above k P (bit_xor s t) (low_high k s t hs ht lt) ∙ xor_assoc s t P
          ∙ sym (ap₂ bit_xor (reduced_below k P s hs) (reduced_above k P t ht))
      go (inr hs) (inl ht) =
          reduced_above k P (bit_xor s t) (high_low k s t hs ls ht)
          ∙ xor_assoc s t P ∙ ap (bit_xor s) (xor_comm t P) ∙ sym (xor_assoc s P t)
          ∙ sym (ap₂ bit_xor (reduced_above k P s hs) (reduced_below k P t ht))
      go (inr hs) (inr ht) =
          reduced_below k P (bit_xor s t) (high_high k s t hs ls ht lt)
          ∙ sym (ap₂ bit_xor (reduced_above k P s hs) (reduced_above k P t ht)
          ∙ xor_swap s P t P ∙ ap (bit_xor (bit_xor s t)) (xor_self P) ∙ xor_zero_r (bit_xor s t))

  pub step_plus : (r s : ℕ) (b c : Bool) → r < 2 ^ k → s < 2 ^ k → step k P (bit_xor r s) (plus b c) ≡ bit_xor (step k P r b) (step k P s c)
  step_plus r s b c hr hs =
      ap (reduced k P) (taken_plus k r s b c) ∙ reduced_plus (taken k r b) (taken k s c) (taken_lt k r b hr) (taken_lt k s c hs)

  pub remainder_from_lt : (u : List Bool) (r : ℕ) → r < 2 ^ k → remainder_from k P r u < 2 ^ k
  remainder_from_lt [] r h = h
  remainder_from_lt (b ∷ u) r h = remainder_from_lt u (step k P r b) (step_lt r b h)

  pub remainder_lt : (u : List Bool) → remainder k P u < 2 ^ k
  remainder_lt u = remainder_from_lt u 0 (pow_pos k)

-- two lists of bits added place by place, as far as both go
abbrev pub added : List Bool → List Bool → List Bool
added [] v = []
added (b ∷ u) [] = []
added (b ∷ u) (c ∷ v) = plus b c ∷ added u v

module _ (k P : ℕ) (degree : OfDegree k P) where
  -- the register of a sum is the sum of the registers
  pub remainder_from_plus : (u v : List Bool) (r s : ℕ) → length u ≡ length v → r < 2 ^ k → s < 2 ^ k → remainder_from k P (bit_xor r s) (added u v) ≡ bit_xor (remainder_from k P r u) (remainder_from k P s v)
  remainder_from_plus [] [] r s e hr hs = refl
  remainder_from_plus [] (c ∷ v) r s e hr hs = absurd (omega (arith, e))
  remainder_from_plus (b ∷ u) [] r s e hr hs = absurd (omega (arith, e))
  remainder_from_plus (b ∷ u) (c ∷ v) r s e hr hs =
      ap (λ x. remainder_from k P x (added u v)) (step_plus k P degree r s b c hr hs)
      ∙ remainder_from_plus u v (step k P r b) (step k P s c) (omega arith) (step_lt k P degree r b hr) (step_lt k P degree s c hs)

  pub remainder_plus : (u v : List Bool) → length u ≡ length v → remainder k P (added u v) ≡ bit_xor (remainder k P u) (remainder k P v)
  remainder_plus u v e = remainder_from_plus u v 0 0 e (pow_pos k) (pow_pos k)

pub remainder_append : (k P : ℕ) (u v : List Bool) (r : ℕ) → remainder_from k P r (u ++ v) ≡ remainder_from k P (remainder_from k P r u) v
remainder_append k P [] v r = refl
remainder_append k P (b ∷ u) v r = remainder_append k P u v (step k P r b)
