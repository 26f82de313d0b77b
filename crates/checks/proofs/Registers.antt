-- The register's octet operations against the rule.
use Rattle.std.proofs.Common.{◌≡◌, ℕ, zero, suc, ◌-◌, ◌*◌, ◌%◌, ◌<◌, ◌≤◌, Bool, true, false, not, ◌&&◌, T, eqb, ◌⊎◌, List, [], ◌∷◌, ◌++◌, map, sym, refl, ap, ◌∙◌, subst, ap₂, inl, inr, append_assoc, mod-eq_of_lt, arith, eqb→eq}
use mathlib.Core.Bool.{beq}
use lib.Bits.{bit_xor, bit_or}
use lib.Count.{ones_in}
use lib.Count as count
use mir.Val.{bool_byte}
use Rattle.std.proofs.lemmas.Bool.{cases_eq}
use Rattle.checks.specs.Bits.{bits, octet_bits, block_bits, value, odd_ones}
use Rattle.checks.specs.Division.{reduced, step, remainder}
use Rattle.checks.specs.Check.{generator, remainder_bits, check_bits, check_octet}
use Rattle.checks.proofs.Folding.{plus, taken, reduced_below, reduced_above, remainder_append}
use Rattle.checks.proofs.Weights.{t_left, t_right}
use Rattle.checks.proofs.Words.{odd_append}

-- ---- one bit more

entering : (r x : ℕ) (b : Bool) → r < 128 → x ≡ bool_byte b → bit_xor (r * 2 % 256) (x * 128 % 256) ≡ taken 7 r b
entering r x true h e = ap₂ bit_xor (mod-eq_of_lt (omega arith)) (ap (λ y. y * 128 % 256) e)
entering r x false h e = ap₂ bit_xor (mod-eq_of_lt (omega arith)) (ap (λ y. y * 128 % 256) e)

-- the two ways of the reduction
pub step_below : (r x : ℕ) (b : Bool) → r < 128 → x ≡ bool_byte b → bit_xor (r * 2 % 256) (x * 128 % 256) < 128 → bit_xor (r * 2 % 256) (x * 128 % 256) ≡ step 7 generator r b
step_below r x b h e below =
    sym (reduced_below 7 generator (bit_xor (r * 2 % 256) (x * 128 % 256)) below) ∙ ap (reduced 7 generator) (entering r x b h e)

pub step_above : (r x : ℕ) (b : Bool) → r < 128 → x ≡ bool_byte b → 128 ≤ bit_xor (r * 2 % 256) (x * 128 % 256) → bit_xor (bit_xor (r * 2 % 256) (x * 128 % 256)) generator ≡ step 7 generator r b
step_above r x b h e above =
    sym (reduced_above 7 generator (bit_xor (r * 2 % 256) (x * 128 % 256)) above) ∙ ap (reduced 7 generator) (entering r x b h e)

pub rest_push : (r s : ℕ) (b : Bool) (u : List Bool) → s ≡ step 7 generator r b → r ≡ remainder 7 generator u → s ≡ remainder 7 generator (u ++ (b ∷ []))
rest_push r s b u e is = e ∙ ap (λ x. step 7 generator x b) is ∙ sym (remainder_append 7 generator u (b ∷ []) 0)

unequal : (a b : Bool) → not (beq a b) ≡ plus a (odd_ones (b ∷ []))
unequal true true = refl
unequal true false = refl
unequal false true = refl
unequal false false = refl

pub odd_push : (o b : Bool) (u : List Bool) → o ≡ odd_ones u → not (beq o b) ≡ odd_ones (u ++ (b ∷ []))
odd_push o b u is = unequal o b ∙ ap (λ x. plus x (odd_ones (b ∷ []))) is ∙ sym (odd_append u (b ∷ []))

-- ---- the check octet

-- the rule, over what a register holds
abbrev ruled : ℕ → Bool → ℕ
ruled r odd = value (map not (bits 7 r ++ (plus odd (odd_ones (bits 7 r)) ∷ [])))

check_ruled : (u : List Bool) → check_octet u ≡ ruled (remainder 7 generator u) (odd_ones u)
unfolding check_octet check_bits remainder_bits
check_ruled u = ap (λ p. value (map not (bits 7 (remainder 7 generator u) ++ (p ∷ [])))) (odd_append u (bits 7 (remainder 7 generator u)))

-- the octet that the code puts together
abbrev pub coded : ℕ → Bool → ℕ
coded r odd = 255 - bit_or (r * 2 % 256) (bool_byte (not (beq odd (eqb (count.ones r % 2) 1))))

test : ℕ → Bool
unfolding count.ones ones_in
test r = eqb (coded r true) (ruled r true) && eqb (coded r false) (ruled r false)

tests : ℕ → Bool
tests zero = true
tests (suc n) = test n && tests n

tested : (n r : ℕ) → T (tests n) → r < n → T (test r)
unfolding tests
tested zero r t h = absurd (omega (arith, h))
tested (suc n) r t h = go (cases_eq r n) (tested n r (t_right (test n) (tests n) t))
  where
    go : (r ≡ n) ⊎ (r ≡ n → ⊥) → (r < n → T (test r)) → T (test r)
    go (inl e) below = subst (λ x. T (test x)) (sym e) (t_left (test n) (tests n) t)
    go (inr ne) below = below (omega (arith, h, ne))

tried : T (tests 128)
unfolding tests test
tried = tt

coded_ruled : (r : ℕ) (odd : Bool) → r < 128 → coded r odd ≡ ruled r odd
unfolding test
coded_ruled r true h = eqb→eq (coded r true) (ruled r true) (t_left (eqb (coded r true) (ruled r true)) (eqb (coded r false) (ruled r false)) (tested 128 r tried h))
coded_ruled r false h = eqb→eq (coded r false) (ruled r false) (t_right (eqb (coded r true) (ruled r true)) (eqb (coded r false) (ruled r false)) (tested 128 r tried h))

pub coded_check : (r : ℕ) (odd : Bool) (u : List Bool) → r < 128 → r ≡ remainder 7 generator u → odd ≡ odd_ones u → coded r odd ≡ check_octet u
coded_check r odd u h er eo = coded_ruled r odd h ∙ ap₂ ruled er eo ∙ sym (check_ruled u)

-- ---- a block

pub block_push : (octets : List ℕ) (o : ℕ) → block_bits (octets ++ (o ∷ [])) ≡ block_bits octets ++ octet_bits o
block_push [] o = refl
block_push (p ∷ octets) o = ap (λ v. octet_bits p ++ v) (block_push octets o) ∙ sym (append_assoc (octet_bits p) (block_bits octets) (octet_bits o))
