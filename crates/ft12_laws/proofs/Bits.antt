-- Eight data marks and their octet.
use Rattle.std.proofs.Common.{◌≡◌, ℕ, zero, suc, ◌+◌, ◌*◌, ◌<◌, ◌≤◌, Bool, true, false, eqb, ltb, leb, List, [], ◌∷◌, map, length, sym, refl, ap, arith}
use Rattle.std.proofs.lemmas.Bool.{eqb-true, ltb-true, leb-true}
use Rattle.std.proofs.lemmas.Slice.Eq.{slice_eq-Decides}
use Rattle.std.specs.Bool.{Decides}
use Rattle.std.specs.Cmp.Lexicographic.{pointwise}
use Rattle.lines.proofs.Octets.{every, every_below, both, both_left, both_right, same}
use Rattle.lines.specs.Characters.{bit, character, data_marks, mark_if, odd_ones}
use Rattle.lines.specs.declared.mark.Mark.{Mark}
use Rattle.lines.specs.declared.mark.Mark.TheVariants.{Zero, One, Bad}
use Rattle.formats.specs.Marks.{changes, ones}
use Rattle.ft12_laws.specs.Machine.{moved_in}
use Rattle.ft12_laws.specs.Reading.{octet_of, value}

-- data marks moved in one after the other
abbrev pub moved : ℕ → List Mark → ℕ
moved o [] = o
moved o (m ∷ ms) = moved (moved_in o m) ms

-- whether a test holds of every eight bits
abbrev all_bits : ℕ → (List Bool → Bool) → Bool
all_bits zero p = p []
all_bits (suc n) p = both (all_bits n (λ bs. p (true ∷ bs))) (all_bits n (λ bs. p (false ∷ bs)))

all_means : (n : ℕ) (p : List Bool → Bool) → all_bits n p ≡ true → (bs : List Bool) → length bs ≡ n → p bs ≡ true
all_means zero p e [] l = e
all_means zero p e (b ∷ bs) l = absurd (omega arith)
all_means (suc n) p e [] l = absurd (omega arith)
all_means (suc n) p e (true ∷ bs) l = all_means n (λ cs. p (true ∷ cs)) (both_left (all_bits n (λ cs. p (true ∷ cs))) (all_bits n (λ cs. p (false ∷ cs))) e) bs (omega arith)
all_means (suc n) p e (false ∷ bs) l = all_means n (λ cs. p (false ∷ cs)) (both_right (all_bits n (λ cs. p (true ∷ cs))) (all_bits n (λ cs. p (false ∷ cs))) e) bs (omega arith)

same_decides : (a b : Bool) → Decides (same a b) (a ≡ b)
same_decides true b = (sym, sym)
same_decides false true = (λ e. e, λ e. e)
same_decides false false = (λ _. refl, λ _. refl)

-- the bits of an octet, lowest first
abbrev bits : ℕ → List Bool
bits o = bit o 0 ∷ (bit o 1 ∷ (bit o 2 ∷ (bit o 3 ∷ (bit o 4 ∷ (bit o 5 ∷ (bit o 6 ∷ (bit o 7 ∷ [])))))))

-- the octet of eight bits
abbrev octet_by : List Bool → ℕ
octet_by [] = 0
octet_by (b ∷ bs) = value (mark_if b) + 2 * octet_by bs

bits_test : List Bool → Bool
bits_test bs =
    let o = moved 0 (map mark_if bs) in
    both (ltb o 256) (both (eqb o (octet_by bs)) (pointwise same (bits o) bs))

bits_tests : all_bits 8 bits_test ≡ true
unfolding bits_test
bits_tests = refl

-- eight bits moved in are an octet, and its data marks are they
module _ (bs : List Bool) (eight : length bs ≡ 8) where
  tested : bits_test bs ≡ true
  tested = all_means 8 bits_test bits_tests bs eight

  pub moved_below : moved 0 (map mark_if bs) < 256
  unfolding bits_test
  moved_below = ltb-true _ _ (both_left (ltb (moved 0 (map mark_if bs)) 256) _ tested)

  pub moved_by : moved 0 (map mark_if bs) ≡ octet_by bs
  unfolding bits_test
  moved_by = eqb-true _ _ (both_left (eqb (moved 0 (map mark_if bs)) (octet_by bs)) _ (both_right (ltb (moved 0 (map mark_if bs)) 256) _ tested))

  pub moved_marks : data_marks (moved 0 (map mark_if bs)) ≡ map mark_if bs
  unfolding bits_test
  moved_marks = ap (map mark_if) ((slice_eq-Decides same_decides (bits (moved 0 (map mark_if bs))) bs _ refl).0 (both_right (eqb (moved 0 (map mark_if bs)) (octet_by bs)) _ (both_right (ltb (moved 0 (map mark_if bs)) 256) _ tested)))

-- a bad mark counts as no one
is_one : Mark → Bool
is_one Zero = false
is_one One = true
is_one Bad = false

value_bit : (m : Mark) → value m ≡ value (mark_if (is_one m))
unfolding is_one
value_bit Zero = refl
value_bit One = refl
value_bit Bad = refl

-- eight marks moved in are their octet
pub moved_is : (a b c d e f g h : Mark) → moved 0 (a ∷ (b ∷ (c ∷ (d ∷ (e ∷ (f ∷ (g ∷ (h ∷ [])))))))) ≡ octet_of a b c d e f g h
moved_is a b c d e f g h =
    let bits = is_one a ∷ (is_one b ∷ (is_one c ∷ (is_one d ∷ (is_one e ∷ (is_one f ∷ (is_one g ∷ (is_one h ∷ []))))))) in
    rw (value_bit a, value_bit b, value_bit c, value_bit d, value_bit e, value_bit f, value_bit g, value_bit h)
    (let t = moved_by bits refl in omega arith)

-- what holds of each octet's character: it moves in as itself, ones are odd in number with the stop mark, and it has
-- two marks that are no 1
octet_test : ℕ → Bool
octet_test o = both (eqb (moved 0 (data_marks o)) o) (both (odd_ones (character o)) (leb 2 (changes (character o) (ones 11))))

octet_tests : every 256 octet_test ≡ true
unfolding octet_test
octet_tests = refl

module _ (o : ℕ) (fits : o < 256) where
  passed : octet_test o ≡ true
  passed = every_below 256 octet_test octet_tests o fits

  pub moves_in : moved 0 (data_marks o) ≡ o
  unfolding octet_test
  moves_in = eqb-true _ _ (both_left (eqb (moved 0 (data_marks o)) o) _ passed)

  pub odd_character : odd_ones (character o) ≡ true
  unfolding octet_test
  odd_character = both_left (odd_ones (character o)) _ (both_right (eqb (moved 0 (data_marks o)) o) _ passed)

  pub two_zeros : 2 ≤ changes (character o) (ones 11)
  unfolding octet_test
  two_zeros = leb-true _ _ (both_right (odd_ones (character o)) _ (both_right (eqb (moved 0 (data_marks o)) o) _ passed))
