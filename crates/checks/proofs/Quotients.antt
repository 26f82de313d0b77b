-- The bits taken in one by one give the remainder, and there is only one.
use Rattle.std.proofs.Common.{◌≡◌, ℕ, zero, suc, ◌+◌, ◌*◌, ◌^◌, ◌<◌, ◌≤◌, Bool, true, false, ◌⊎◌, List, [], ◌∷◌, ◌++◌, length, replicate, sym, refl, ap, ◌∙◌, subst, ap₂, inl, inr, le_trans, add-zero, add-suc, mul-le-mul_right, mul_assoc, mul_comm, suc-add, pow-suc, mul-one, arith, length-append, pow_pos, pow_mono, pow-add, shl_lt}
use lib.Bits.{bit_xor, xor_assoc, xor_comm, xor_self, xor_zero_r, xor_lt}
use lib.ListN.{length-replicate}
use Rattle.std.proofs.lemmas.Bool.{cases_lt}
use Rattle.checks.specs.Division.{times_bit, product, RemainderOf, OfDegree, reduced, step, remainder_from, remainder, DivisionLaw}
use Rattle.checks.proofs.Sums.{xor_up, xor_swap, xor_twice, xor_zero}
use Rattle.checks.proofs.Folding.{plus, times_plus, times_lt, taken, added, reduced_below, reduced_above, high_low, remainder_lt}
use Rattle.checks.proofs.Words.{length_added}

times_up : (b : Bool) (p m : ℕ) → times_bit b p * m ≡ times_bit b (p * m)
times_up true p m = refl
times_up false p m = omega arith

-- what is taken away at a reduction: P or nothing
reduced_by : (k P t : ℕ) → (c : Bool) × (reduced k P t ≡ bit_xor t (times_bit c P))
reduced_by k P t = go (cases_lt t (2 ^ k))
  where
    go : (t < 2 ^ k) ⊎ (2 ^ k ≤ t) → (c : Bool) × (reduced k P t ≡ bit_xor t (times_bit c P))
    go (inl h) = (false, reduced_below k P t h ∙ sym (xor_zero_r t))
    go (inr h) = (true, reduced_above k P t h)

xor_left : (a b c : ℕ) → bit_xor a (bit_xor b c) ≡ bit_xor b (bit_xor a c)
xor_left a b c = sym (xor_assoc a b c) ∙ ap (λ x. bit_xor x c) (xor_comm a b) ∙ xor_assoc b a c

-- the sums of one step, in another order
moved : (A B C U Q R : ℕ) → bit_xor U (bit_xor (bit_xor A B) C) ≡ bit_xor Q R → bit_xor (bit_xor B U) A ≡ bit_xor (bit_xor C Q) R
moved A B C U Q R e =
    ap (λ x. bit_xor x A) (xor_comm B U) ∙ xor_assoc U B A ∙ ap (bit_xor U) (xor_comm B A)
    ∙ sym (xor_twice C (bit_xor U (bit_xor A B)))
    ∙ ap (bit_xor C) (xor_left C U (bit_xor A B) ∙ ap (bit_xor U) (xor_comm C (bit_xor A B)) ∙ e)
    ∙ sym (xor_assoc C Q R)

module _ (k P : ℕ) where
  -- one bit more: the register moves up, and what is taken away at the reduction is the quotient's next coefficient
  stepped : (r : ℕ) (b c : Bool) (n m : ℕ) → reduced k P (taken k r b) ≡ bit_xor (taken k r b) (times_bit c P) → m ≡ n → step k P r b * 2 ^ n ≡ bit_xor (bit_xor (r * 2 ^ suc n) (times_bit b (2 ^ k * 2 ^ n))) (times_bit c (P * 2 ^ m))
  stepped r b c n m by same =
      let up : r * 2 * 2 ^ n ≡ r * 2 ^ suc n = mul_assoc r 2 (2 ^ n) ∙ ap (λ x. r * x) (mul_comm 2 (2 ^ n) ∙ sym (pow-suc 2 n)) in
      let bit_up : times_bit c P * 2 ^ n ≡ times_bit c (P * 2 ^ m) = times_up c P (2 ^ n) ∙ ap (λ x. times_bit c (P * 2 ^ x)) (sym same) in
      ap (λ x. x * 2 ^ n) by ∙ xor_up n (taken k r b) (times_bit c P)
      ∙ ap₂ bit_xor (xor_up n (r * 2) (times_bit b (2 ^ k)) ∙ ap₂ bit_xor up (times_up b (2 ^ k) (2 ^ n))) bit_up

  -- the quotient grows by one coefficient with each bit
  divided : (u : List Bool) (r : ℕ) → (q : List Bool) × (length q ≡ length u) × (bit_xor (product u (2 ^ k)) (r * 2 ^ length u) ≡ bit_xor (product q P) (remainder_from k P r u))
  divided [] r = ([], refl, mul-one r)
  divided (b ∷ u) r =
      let (c, by) = reduced_by k P (taken k r b) in
      let (q, long, ih) = divided u (step k P r b) in
      let n : ℕ = length u in (
        c ∷ q,
        ap suc long,
        moved (r * 2 ^ suc n) (times_bit b (2 ^ k * 2 ^ n)) (times_bit c (P * 2 ^ length q)) (product u (2 ^ k)) (product q P) (remainder_from k P (step k P r b) u)
            (ap (bit_xor (product u (2 ^ k))) (sym (stepped r b c n (length q) by long)) ∙ ih),
      )

  product_added : (p q : List Bool) → length p ≡ length q → product (added p q) P ≡ bit_xor (product p P) (product q P)
  product_added [] [] e = refl
  product_added [] (c ∷ q) e = absurd (omega (arith, e))
  product_added (b ∷ p) [] e = absurd (omega (arith, e))
  product_added (b ∷ p) (c ∷ q) e =
      let same : length p ≡ length q = omega arith in
      ap₂ bit_xor
      (ap (λ x. times_bit (plus b c) (P * 2 ^ x)) (length_added p q same) ∙ times_plus b c (P * 2 ^ length p)
      ∙ ap (λ x. bit_xor (times_bit b (P * 2 ^ length p)) (times_bit c (P * 2 ^ x))) same)
      (product_added p q same)
      ∙ xor_swap (times_bit b (P * 2 ^ length p)) (times_bit c (P * 2 ^ length q)) (product p P) (product q P)

  -- coefficients 0 above the highest change nothing
  product_padded : (n : ℕ) (q : List Bool) → product (replicate n false ++ q) P ≡ product q P
  product_padded zero q = refl
  product_padded (suc n) q = product_padded n q

  -- a sum of multiples of P is one
  multiple : (p q : List Bool) → (d : List Bool) × (product d P ≡ bit_xor (product p P) (product q P))
  multiple p q =
      let long : (a b : List Bool) → length (replicate (length a) false ++ b) ≡ length a + length b =
      λ a b. length-append (replicate (length a) false) b ∙ ap (λ n. n + length b) (length-replicate (length a) false) in
      let same : length (replicate (length q) false ++ p) ≡ length (replicate (length p) false ++ q) = omega (arith, long q p, long p q) in (
        added (replicate (length q) false ++ p) (replicate (length p) false ++ q),
        product_added (replicate (length q) false ++ p) (replicate (length p) false ++ q) same
            ∙ ap₂ bit_xor (product_padded (length q) p) (product_padded (length p) q),
      )

  module _ (degree : OfDegree k P) where
    product_lt : (q : List Bool) → product q P < 2 ^ (k + length q)
    product_lt [] = subst (λ x. 0 < 2 ^ x) (sym (add-zero k)) (pow_pos k)
    product_lt (b ∷ q) =
        let n : ℕ = length q in
        let more : 2 ^ (k + n) ≤ 2 ^ (k + suc n) = pow_mono (omega arith) in
        let top : P * 2 ^ n < 2 ^ (k + suc n) = subst (λ x. P * 2 ^ n < 2 ^ x) (suc-add k n ∙ sym (add-suc k n)) (shl_lt (suc k) n degree.1) in
        let rest : product q P < 2 ^ (k + n) = product_lt q in
        xor_lt (k + suc n) (times_bit b (P * 2 ^ n)) (product q P) (times_lt b (P * 2 ^ n) (2 ^ (k + suc n)) top) (omega arith)

    -- a multiple of P is 0 or reaches degree k
    product_high : (q : List Bool) → (product q P ≡ 0) ⊎ (2 ^ k ≤ product q P)
    product_high [] = inl refl
    product_high (false ∷ q) = product_high q
    product_high (true ∷ q) =
        let n : ℕ = length q in
        let low : 2 ^ (k + n) ≤ P * 2 ^ n = subst (λ x. x ≤ P * 2 ^ n) (sym (pow-add 2 k n)) (mul-le-mul_right (2 ^ n) degree.0) in
        let high : P * 2 ^ n < 2 ^ suc (k + n) = subst (λ x. P * 2 ^ n < 2 ^ x) (suc-add k n) (shl_lt (suc k) n degree.1) in
        let less : 2 ^ k ≤ 2 ^ (k + n) = pow_mono (omega arith) in
        inr (le_trans less (high_low (k + n) (P * 2 ^ n) (product q P) low high (product_lt q)))

    pub only_one : (u : List Bool) (r s : ℕ) → RemainderOf k P u r → RemainderOf k P u s → r ≡ s
    only_one u r s (lr, (p, er)) (ls, (q, es)) = go (product_high d)
      where
        X : ℕ
        X = product u (2 ^ k)

        d : List Bool
        d = (multiple p q).0

        sum : product d P ≡ bit_xor r s
        sum =
            (multiple p q).1
            ∙ sym (ap₂ bit_xor (sym (xor_twice (product p P) r) ∙ ap (bit_xor (product p P)) (sym er)) (sym (xor_twice (product q P) s) ∙ ap (bit_xor (product q P)) (sym es))
            ∙ xor_swap (product p P) X (product q P) X ∙ ap (bit_xor (bit_xor (product p P) (product q P))) (xor_self X) ∙ xor_zero_r (bit_xor (product p P) (product q P)))

        go : (product d P ≡ 0) ⊎ (2 ^ k ≤ product d P) → r ≡ s
        go (inl none) = xor_zero r s (sym sum ∙ none)
        go (inr high) = absurd (omega (arith, high, sum, xor_lt k r s lr ls))

    pub remainder_divides : (u : List Bool) → RemainderOf k P u (remainder k P u)
    remainder_divides u =
        let (q, _, e) = divided u 0 in
        let none : 0 * 2 ^ length u ≡ 0 = omega arith in
        (remainder_lt k P degree u, (q, sym (ap (bit_xor (product u (2 ^ k))) none ∙ xor_zero_r (product u (2 ^ k))) ∙ e))

pub division_law : DivisionLaw
division_law k P degree u =
    (remainder_divides k P degree u, λ r h. only_one k P degree u r (remainder k P u) h (remainder_divides k P degree u))
