-- Fewer than four altered places in a block and its check show.
use Rattle.std.proofs.Common.{◌≡◌, ℕ, ◌+◌, ◌%◌, ◌<◌, ◌≤◌, Bool, not, List, [], ◌∷◌, ◌++◌, map, length, sym, refl, ap, ◌∙◌, ap₂, arith, lit<, lit≤, length-append}
use lib.Bits.{bit_xor}
use Rattle.checks.specs.Bits.{ones, differences}
use Rattle.checks.specs.Division.{OfDegree, remainder}
use Rattle.checks.specs.Check.{generator, remainder_bits, parity_bit, check_bits}
use Rattle.checks.specs.Distance.{AlteredShows, Attained}
use Rattle.checks.proofs.Folding.{added, remainder_plus}
use Rattle.checks.proofs.Weights.{word_zero, few_ones_show}
use Rattle.checks.proofs.Words.{length_added, differences_append, differences_not, ones_added, differ_odd}

pub degree : OfDegree 7 generator
degree = (lit≤ tt, lit< tt)

-- no word of at most 127 bits with one or two ones is divided: the powers of x up to the 126th differ, and none is 0
pub few_show : (d : List Bool) → length d ≤ 127 → ones d ≤ 2 → 0 < ones d → remainder 7 generator d ≡ 0 → ⊥
few_show = few_ones_show 7 generator refl 126 1 tt

-- a block with its remainder bits
abbrev pub word : List Bool → List Bool
word u = u ++ remainder_bits u

pub length_remainder : (u : List Bool) → length (remainder_bits u) ≡ 7
unfolding remainder_bits
length_remainder u = refl

pub length_word : (u : List Bool) → length (word u) ≡ length u + 7
length_word u = length-append u (remainder_bits u) ∙ ap (λ n. length u + n) (length_remainder u)

pub word_divided : (u : List Bool) → remainder 7 generator (word u) ≡ 0
unfolding remainder_bits
word_divided u = word_zero 7 generator degree u

-- two words of one length differ nowhere or in three places at least
pub word_differences : (u v : List Bool) → length u ≤ 120 → length u ≡ length v → 0 < differences (word u) (word v) → 3 ≤ differences (word u) (word v)
word_differences u v l e some =
    let same : length (word u) ≡ length (word v) = length_word u ∙ ap (λ n. n + 7) e ∙ sym (length_word v) in
    let d : List Bool = added (word u) (word v) in
    let long : length d ≤ 127 = omega (arith, length_added (word u) (word v) same, length_word u) in
    let count : ones d ≡ differences (word u) (word v) = ones_added (word u) (word v) same in
    let none : remainder 7 generator d ≡ 0 = remainder_plus 7 generator degree (word u) (word v) same ∙ ap₂ bit_xor (word_divided u) (word_divided v) in
    let shows : ones d ≤ 2 → ⊥ = λ h. few_show d long h (omega (arith, count)) none in
    omega (arith, count, shows)

pub length_check : (u : List Bool) → length (check_bits u) ≡ 8
unfolding check_bits remainder_bits
length_check u = refl

-- the check's places follow the word's: the parity bit makes the differences even in number
pub check_differences : (u v : List Bool) → length u ≡ length v → differences (u ++ check_bits u) (v ++ check_bits v) ≡ differences (word u) (word v) + differences (word u) (word v) % 2
unfolding check_bits
check_differences u v e =
    let s : List Bool = remainder_bits u in
    let t : List Bool = remainder_bits v in
    let p : Bool = parity_bit u in
    let q : Bool = parity_bit v in
    let seven : length s ≡ length t = length_remainder u ∙ sym (length_remainder v) in
    let eight : length (s ++ (p ∷ [])) ≡ length (t ++ (q ∷ [])) = length-append s (p ∷ []) ∙ ap (λ n. n + 1) seven ∙ sym (length-append t (q ∷ [])) in
    let same : length (word u) ≡ length (word v) = length_word u ∙ ap (λ n. n + 7) e ∙ sym (length_word v) in
    omega (
      arith,
      differences_append u v (map not (s ++ (p ∷ []))) (map not (t ++ (q ∷ []))) e,
      differences_not (s ++ (p ∷ [])) (t ++ (q ∷ [])) eight,
      differences_append s t (p ∷ []) (q ∷ []) seven,
      differences_append u v s t e,
      differ_odd (word u) (word v) same,
    )

pub altered_shows : AlteredShows 4
altered_shows u v c l e eight some few is =
    let n : ℕ = differences (u ++ check_bits u) (v ++ check_bits v) in
    let same : differences (u ++ check_bits u) (v ++ c) ≡ n = ap (λ x. differences (u ++ check_bits u) (v ++ x)) is in
    let even : n ≡ differences (word u) (word v) + differences (word u) (word v) % 2 = check_differences u v (sym e) in
    let three : 0 < differences (word u) (word v) → 3 ≤ differences (word u) (word v) = word_differences u v l (sym e) in
    omega (arith, same, even, three)

pub attained : Attained 4
unfolding check_bits remainder_bits
attained = (0x00, 0x80, refl)
