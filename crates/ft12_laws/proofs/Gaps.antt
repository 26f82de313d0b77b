-- No gap inside an altered frame.
use Rattle.std.proofs.Common.{◌≡◌, ℕ, ◌+◌, ◌-◌, ◌<◌, ◌≤◌, List, [], ◌∷◌, ◌++◌, length, drop, sym, refl, ap, ◌∙◌, subst, inl, inr, le_trans, arith, length-append}
use Rattle.std.proofs.lemmas.List.{drop-append-le, drop_at, drop-drop, drop-replicate, replicate-append-replicate, length-drop}
use Rattle.std.proofs.lemmas.Bool.{cases_lt}
use Rattle.lines.specs.Characters.{character}
use Rattle.lines.specs.declared.mark.Mark.{Mark}
use Rattle.lines.specs.declared.mark.Mark.TheVariants.{One}
use Rattle.formats.specs.Laws.{Octets}
use Rattle.formats.specs.Marks.{changes, ones}
use Rattle.formats.proofs.Changes.{changes_join}
use Rattle.ft12_laws.specs.Frames.{characters}
use Rattle.ft12_laws.proofs.Bits.{two_zeros}

-- what is altered behind the first marks is altered
changes_behind : (xs ys zs : List Mark) → changes ys (drop (length xs) zs) ≤ changes (xs ++ ys) zs
changes_behind [] ys zs = omega arith
changes_behind (x ∷ xs) [] [] = omega arith
changes_behind (x ∷ xs) (y ∷ ys) [] = omega arith
changes_behind (x ∷ xs) ys (z ∷ zs) = let rest = changes_behind xs ys zs in omega arith

-- two characters heard as ones cost four marks
two_quiet : (a b : ℕ) (rest ms : List Mark) → a < 256 → b < 256 → 4 ≤ changes (character a ++ (character b ++ rest)) (ones 22 ++ ms)
two_quiet a b rest ms ha hb =
    let first = changes_join (character a) (character b ++ rest) (ones 11) (ones 11 ++ ms) refl in
    let second = changes_join (character b) rest (ones 11) ms refl in
    let za = two_zeros a ha in
    let zb = two_zeros b hb in
    omega (arith, first, second, za, zb)

-- ones from within a character on
within : (k : ℕ) (before after : List Mark) → length before ≡ k → k < 11 → drop 11 (before ++ (ones 33 ++ after)) ≡ ones 22 ++ (ones k ++ after)
within k before after l h =
    let parts : 11 ≡ k + (11 - k) = omega arith in
    let fits : 11 - k ≤ length (ones 33) = omega arith in
    let left : 33 - (11 - k) ≡ 22 + k = omega arith in
    ap (λ n. drop n (before ++ (ones 33 ++ after))) parts ∙ sym (drop-drop (11 - k) k (before ++ (ones 33 ++ after)))
    ∙ ap (drop (11 - k)) (drop_at before (ones 33 ++ after) k l) ∙ drop-append-le (11 - k) (ones 33) after fits
    ∙ ap (λ ms. ms ++ after) (drop-replicate (11 - k) 33 One ∙ ap (λ n. ones n) left ∙ sym (replicate-append-replicate 22 k One))

-- a character behind which the ones begin
behind_character : (o : ℕ) (os : List ℕ) (before rest : List Mark) → 11 ≤ length before → length (before ++ rest) ≡ length (characters (o ∷ os))
    → (length (drop 11 before ++ rest) ≡ length (characters os)) × (changes (characters os) (drop 11 before ++ rest) ≤ changes (characters (o ∷ os)) (before ++ rest))
behind_character o os before rest far l =
    let same = drop-append-le 11 before rest far in
    let less = length-drop 11 (before ++ rest) in (
      ap length (sym same) ∙ less ∙ omega arith,
      subst (λ ms. changes (characters os) ms ≤ changes (characters (o ∷ os)) (before ++ rest)) same (changes_behind (character o) (characters os) (before ++ rest)),
    )

long_enough : (before after : List Mark) → 33 ≤ length (before ++ (ones 33 ++ after))
long_enough before after = let n = length-append before (ones 33 ++ after) in omega arith

-- a gap in characters costs four marks
pub quiet_costs : (os : List ℕ) (before after : List Mark) → Octets os → length (before ++ (ones 33 ++ after)) ≡ length (characters os) → 4 ≤ changes (characters os) (before ++ (ones 33 ++ after))
quiet_costs [] before after b l = let n = long_enough before after in absurd (omega arith)
quiet_costs (o ∷ []) before after b l = let n = long_enough before after in absurd (omega arith)
quiet_costs (o ∷ (x ∷ [])) before after b l = let n = long_enough before after in absurd (omega arith)
quiet_costs (o ∷ (x ∷ (y ∷ os))) before after b l =
    elim (cases_lt (length before) 11) [
      | inl near ↦
          le_trans
          (subst (λ ms. 4 ≤ changes (characters (x ∷ (y ∷ os))) ms) (sym (within (length before) before after refl near)) (two_quiet x y (characters os) (ones (length before) ++ after) b.1.0 b.1.1.0))
          (changes_behind (character o) (characters (x ∷ (y ∷ os))) (before ++ (ones 33 ++ after)))
      | inr far ↦
          let step = behind_character o (x ∷ (y ∷ os)) before (ones 33 ++ after) far l in
          le_trans (quiet_costs (x ∷ (y ∷ os)) (drop 11 before) after b.1 step.0) step.1
    ]
