-- A rule for every octet, by one computed test.
use Rattle.std.proofs.Common.{◌≡◌, ℕ, zero, suc, ◌%◌, ◌<◌, Bool, true, false, eqb, sym, refl, subst, inl, inr, le_of_suc-le-suc, not-suc-le-zero, eq-or-lt_of_le}
use lib.Count.{ones}
use Rattle.lines.specs.Characters.{data_marks, odd_ones}

abbrev pub both : Bool → Bool → Bool
both true b = b
both false b = false

pub both_left : (a b : Bool) → both a b ≡ true → a ≡ true
both_left true b e = refl
both_left false b e = e

pub both_right : (a b : Bool) → both a b ≡ true → b ≡ true
both_right true b e = e
both_right false true e = refl
both_right false false e = e

-- whether a test holds of every number below n
abbrev pub every : ℕ → (ℕ → Bool) → Bool
every zero p = true
every (suc n) p = both (p n) (every n p)

pub every_below : (n : ℕ) (p : ℕ → Bool) → every n p ≡ true → (k : ℕ) → k < n → p k ≡ true
every_below zero p e k h = absurd (not-suc-le-zero h)
every_below (suc n) p e k h =
    elim (eq-or-lt_of_le (le_of_suc-le-suc h)) [
      | inr less ↦ every_below n p (both_right (p n) (every n p) e) k less
      | inl here ↦ subst (λ j. p j ≡ true) (sym here) (both_left (p n) (every n p) e)
    ]

abbrev pub same : Bool → Bool → Bool
same true b = b
same false true = false
same false false = true

pub same_means : (a b : Bool) → same a b ≡ true → a ≡ b
same_means true b e = sym e
same_means false true e = e
same_means false false e = refl

-- counting an octet's ones and running along its data marks tell the same parity
parity_test : ℕ → Bool
parity_test o = same (eqb (ones o % 2) 1) (odd_ones (data_marks o))

parity_tests : every 256 parity_test ≡ true
unfolding parity_test ones
parity_tests = refl

pub parity_of : (o : ℕ) → o < 256 → eqb (ones o % 2) 1 ≡ odd_ones (data_marks o)
unfolding parity_test
parity_of o h = same_means _ _ (every_below 256 parity_test parity_tests o h)
