-- In how many marks characters differ.
use Rattle.std.proofs.Common.{◌≡◌, ℕ, ◌<◌, ◌≤◌, Bool, true, false, not, List, [], ◌∷◌, map, length, take, drop, sym, refl, ap, ◌∙◌, arith}
use Rattle.std.proofs.lemmas.Bool.{both_ways}
use Rattle.lines.specs.Characters.{bit, character, data_marks, mark_if, odd_ones}
use Rattle.formats.specs.Marks.{changes}
use Rattle.formats.proofs.Changes.{none_changed}
use Rattle.ft12_laws.proofs.Bits.{moved, moves_in, odd_character}

not_not : (b : Bool) → b ≡ not (not b)
not_not true = refl
not_not false = refl

-- one good mark changed for another good one turns the parity
one_changed : (bs cs : List Bool) → length (map mark_if cs) ≡ length (map mark_if bs) → changes (map mark_if bs) (map mark_if cs) ≡ 1 → odd_ones (map mark_if bs) ≡ not (odd_ones (map mark_if cs))
one_changed [] [] l e = absurd (omega arith)
one_changed [] (c ∷ cs) l e = absurd (omega arith)
one_changed (b ∷ bs) [] l e = absurd (omega arith)
one_changed (true ∷ bs) (true ∷ cs) l e = ap not (one_changed bs cs (omega arith) (omega arith))
one_changed (true ∷ bs) (false ∷ cs) l e = ap (λ ms. not (odd_ones ms)) (none_changed (map mark_if bs) (map mark_if cs) (omega arith) (omega arith))
one_changed (false ∷ bs) (true ∷ cs) l e = ap odd_ones (none_changed (map mark_if bs) (map mark_if cs) (omega arith) (omega arith)) ∙ not_not _
one_changed (false ∷ bs) (false ∷ cs) l e = one_changed bs cs (omega arith) (omega arith)

-- the bits of a character
abbrev bits_of : ℕ → List Bool
bits_of o = false ∷ (bit o 0 ∷ (bit o 1 ∷ (bit o 2 ∷ (bit o 3 ∷ (bit o 4 ∷ (bit o 5 ∷ (bit o 6 ∷ (bit o 7 ∷ (odd_ones (data_marks o) ∷ (true ∷ []))))))))))

-- the characters of two octets differ in two marks or more
module _ (o x : ℕ) (fits : o < 256) (fits_too : x < 256) where
  one_is_wrong : changes (character o) (character x) ≡ 1 → ⊥
  one_is_wrong e =
      let turned = one_changed (bits_of o) (bits_of x) refl e in
      both_ways (odd_ones (character o)) (turned ∙ ap not (odd_character x fits_too)) (odd_character o fits)

  none_is_same : changes (character o) (character x) ≡ 0 → o ≡ x
  none_is_same e =
      sym (moves_in o fits) ∙ ap (λ ms. moved 0 (take 8 (drop 1 ms))) (none_changed (character o) (character x) refl e) ∙ moves_in x fits_too

  pub characters_apart : (o ≡ x → ⊥) → 2 ≤ changes (character o) (character x)
  characters_apart other = let none : changes (character o) (character x) ≡ 0 → ⊥ = λ e. other (none_is_same e) in omega (arith, none, one_is_wrong)
