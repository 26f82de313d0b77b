-- Octets and their bits, the check octet and its rule.
use Rattle.std.proofs.Common.{◌≡◌, ℕ, zero, suc, ◌+◌, ◌-◌, ◌*◌, ◌/◌, ◌%◌, ◌^◌, ◌<◌, Bool, true, false, cond, not, eqb, List, [], ◌∷◌, ◌++◌, map, length, get_or, sym, refl, ap, ◌∙◌, subst, ap₂, append_assoc, mod-lt, mod-eq_of_lt, pow-suc, add-one, one-add, arith, length-append}
use native.Mathlib.Nat.{mod-one}
use lib.Bits.{bit_and, and_mask}
use lib.ListN.{length-map}
use lib.Pow.{mod-pow-add}
use Rattle.std.proofs.lemmas.List.FromFn.{fill_by_all}
use Rattle.checks.specs.Bits.{bit, bits, octet_bits, value, ones, odd_ones}
use Rattle.checks.specs.Division.{RemainderOf, remainder}
use Rattle.checks.specs.Check.{generator, remainder_bits, parity_bit, check_bits, check_octet, Rule, Worked}
use Rattle.checks.proofs.Folding.{plus, remainder_lt}
use Rattle.checks.proofs.Weights.{times_digit}
use Rattle.checks.proofs.Words.{length_bits, odd_append, ones_odd}
use Rattle.checks.proofs.Distances.{degree, length_check}
use Rattle.checks.proofs.Quotients.{division_law}

-- a bit as the code takes it
bit_coded : (o k : ℕ) → eqb (bit_and (o / 2 ^ k) 1) 1 ≡ bit o k
bit_coded o k = ap (λ x. eqb x 1) (and_mask (o / 2 ^ k) 1)

pub octet_coded : (o : ℕ) (bs : List Bool) → length bs ≡ 8 → get_or bs 0 false ≡ eqb (bit_and (o / 2 ^ 7) 1) 1 → get_or bs 1 false ≡ eqb (bit_and (o / 2 ^ 6) 1) 1 → get_or bs 2 false ≡ eqb (bit_and (o / 2 ^ 5) 1) 1 → get_or bs 3 false ≡ eqb (bit_and (o / 2 ^ 4) 1) 1 → get_or bs 4 false ≡ eqb (bit_and (o / 2 ^ 3) 1) 1 → get_or bs 5 false ≡ eqb (bit_and (o / 2 ^ 2) 1) 1 → get_or bs 6 false ≡ eqb (bit_and (o / 2 ^ 1) 1) 1 → get_or bs 7 false ≡ eqb (bit_and (o / 2 ^ 0) 1) 1 → bs ≡ octet_bits o
octet_coded o bs l a b c d e f g h =
    let whole : bs ≡ get_or bs 0 false ∷ (get_or bs 1 false ∷ (get_or bs 2 false ∷ (get_or bs 3 false ∷ (get_or bs 4 false ∷ (get_or bs 5 false ∷ (get_or bs 6 false ∷ (get_or bs 7 false ∷ []))))))) = fill_by_all (λ k. get_or bs k false) bs 8 false l (λ k h. refl) in
    cc (bit_coded o 7, bit_coded o 6, bit_coded o 5, bit_coded o 4, bit_coded o 3, bit_coded o 2, bit_coded o 1, bit_coded o 0)

pub value_lt : (u : List Bool) → value u < 2 ^ length u
value_lt [] = omega arith
value_lt (true ∷ u) = omega (arith, value_lt u, pow-suc 2 (length u))
value_lt (false ∷ u) = omega (arith, value_lt u, pow-suc 2 (length u))

pub value_bits : (k n : ℕ) → value (bits k n) ≡ n % 2 ^ k
value_bits zero n = sym (mod-one n)
value_bits (suc k) n =
    ap₂ (λ m v. cond (bit n k) (2 ^ m) 0 + v) (length_bits k n) (value_bits k n)
    ∙ ap (λ x. x + n % 2 ^ k) (times_digit (n / 2 ^ k % 2) (2 ^ k) (mod-lt (n / 2 ^ k) (omega arith)))
    ∙ sym (ap (λ x. n % 2 ^ x) (sym (one-add k)) ∙ mod-pow-add n 1 k)

-- lists of one length with one value are the same list
pub value_same : (u v : List Bool) → length u ≡ length v → value u ≡ value v → u ≡ v
value_same [] [] l e = refl
value_same [] (b ∷ v) l e = absurd (omega (arith, l))
value_same (a ∷ u) [] l e = absurd (omega (arith, l))
value_same (true ∷ u) (true ∷ v) l e =
    let same : length u ≡ length v = omega (arith, l) in
    ap (λ x. true ∷ x) (value_same u v same (omega (arith, e, ap (λ n. 2 ^ n) same)))
value_same (true ∷ u) (false ∷ v) l e =
    let same : length u ≡ length v = omega (arith, l) in
    absurd (omega (arith, e, ap (λ n. 2 ^ n) same, value_lt v))
value_same (false ∷ u) (true ∷ v) l e =
    let same : length u ≡ length v = omega (arith, l) in
    absurd (omega (arith, e, ap (λ n. 2 ^ n) same, value_lt u))
value_same (false ∷ u) (false ∷ v) l e =
    let same : length u ≡ length v = omega (arith, l) in
    ap (λ x. false ∷ x) (value_same u v same (omega (arith, e)))

pub bits_value : (u : List Bool) → bits (length u) (value u) ≡ u
bits_value u =
    value_same (bits (length u) (value u)) u (length_bits (length u) (value u)) (value_bits (length u) (value u) ∙ mod-eq_of_lt (value_lt u))

-- eight bits are the bits of their octet
pub octet_of_eight : (u : List Bool) → length u ≡ 8 → octet_bits (value u) ≡ u
octet_of_eight u e = ap (λ n. bits n (value u)) (sym e) ∙ bits_value u

pub value_octet : (a : ℕ) → a < 256 → value (octet_bits a) ≡ a
value_octet a h = value_bits 8 a ∙ mod-eq_of_lt h

-- an octet's bits, highest first, determine the octet
pub octet_bits_injective : (a b : ℕ) → a < 256 → b < 256 → octet_bits a ≡ octet_bits b → a ≡ b
octet_bits_injective a b ha hb e = sym (value_octet a ha) ∙ ap value e ∙ value_octet b hb

pub check_octet_lt : (u : List Bool) → check_octet u < 256
unfolding check_octet
check_octet_lt u = subst (λ n. value (check_bits u) < 2 ^ n) (length_check u) (value_lt (check_bits u))

pub check_octet_bits : (u : List Bool) → octet_bits (check_octet u) ≡ check_bits u
unfolding check_octet
check_octet_bits u = octet_of_eight (check_bits u) (length_check u)

-- eight bits are the check where their octet is the check octet
pub check_by_octet : (u : List Bool) (c : List Bool) → length c ≡ 8 → value c ≡ check_octet u → c ≡ check_bits u
unfolding check_octet
check_by_octet u c l e = value_same c (check_bits u) (l ∙ sym (length_check u)) e

-- a number and its inverse make ones only
pub value_not : (u : List Bool) → suc (value (map not u) + value u) ≡ 2 ^ length u
value_not [] = refl
value_not (true ∷ u) = omega (arith, value_not u, pow-suc 2 (length u))
value_not (false ∷ u) = omega (arith, value_not u, pow-suc 2 (length u), ap (λ n. 2 ^ n) (length-map u not))

pub value_push : (u : List Bool) (b : Bool) → value (u ++ (b ∷ [])) ≡ value u * 2 + cond b 1 0
value_push [] true = refl
value_push [] false = refl
value_push (true ∷ u) b = omega (arith, value_push u b, ap (λ n. 2 ^ n) (length-append u (b ∷ []) ∙ add-one (length u)), pow-suc 2 (length u))
value_push (false ∷ u) b = omega (arith, value_push u b)

-- the check bits before they are inverted
abbrev pub plain_check : List Bool → List Bool
plain_check u = remainder_bits u ++ (parity_bit u ∷ [])

pub length_plain : (u : List Bool) → length (plain_check u) ≡ 8
unfolding remainder_bits
length_plain u = refl

pub plain_value : (u : List Bool) → value (plain_check u) ≡ 255 - check_octet u
unfolding check_octet check_bits
plain_value u = omega (arith, value_not (plain_check u), ap (λ n. 2 ^ n) (length_plain u))

pub remainder_value : (u : List Bool) → value (remainder_bits u) ≡ remainder 7 generator u
unfolding remainder_bits
remainder_value u = value_bits 7 (remainder 7 generator u) ∙ mod-eq_of_lt (remainder_lt 7 generator degree u)

pub plain_half : (u : List Bool) → (255 - check_octet u) / 2 ≡ remainder 7 generator u
plain_half u = half (parity_bit u) (sym (plain_value u) ∙ value_push (remainder_bits u) (parity_bit u))
  where
    half : (b : Bool) → 255 - check_octet u ≡ value (remainder_bits u) * 2 + cond b 1 0 → (255 - check_octet u) / 2 ≡ remainder 7 generator u
    half true e = omega (arith, e, remainder_value u)
    half false e = omega (arith, e, remainder_value u)

plus_self : (b : Bool) → plus b (odd_ones (b ∷ [])) ≡ false
plus_self true = refl
plus_self false = refl

-- the ones in block and check, before it is inverted, are even in number
pub even_plain : (u : List Bool) → ones (u ++ plain_check u) % 2 ≡ 0
even_plain u =
    ones_odd (u ++ plain_check u)
    ∙ ap (λ b. cond b 1 0)
    (ap odd_ones (sym (append_assoc u (remainder_bits u) (parity_bit u ∷ [])))
    ∙ odd_append (u ++ remainder_bits u) (parity_bit u ∷ []) ∙ plus_self (parity_bit u))

pub check_rule : (u : List Bool) → Rule u (check_octet u)
check_rule u = record {
  divided = subst (RemainderOf 7 generator u) (sym (plain_half u)) (division_law 7 generator degree u).0;
  only = λ r h. (division_law 7 generator degree u).1 r h ∙ sym (plain_half u);
  even = ap (λ v. ones (u ++ v) % 2) (ap octet_bits (sym (plain_value u)) ∙ octet_of_eight (plain_check u) (length_plain u)) ∙ even_plain u;
}

pub worked : Worked
unfolding check_octet check_bits remainder_bits
worked = record { block_00 = refl; block_01 = refl; block_80 = refl; block_FF = refl; fifteen_FF = refl }
