-- What becomes of the words of a keyed line.
use Rattle.std.proofs.Common.{◌≡◌, ℕ, ◌<◌, List, [], ◌∷◌, ◌++◌, length, Ok, Err, Result, sym, refl, subst, inl, inr, arith, MatchResult}
use Rattle.std.specs.Char.{is_whitespace, is_not_whitespace}
use Rattle.std.specs.Str.{NoCharPasses, EmptyOrStartsWithPassing}
use Rattle.readings.specs.Keyed.{Cuts, First, Refused, Three, Words, Writes, Wrong}
use Rattle.readings.specs.declared.reading.Reading.{Reading}
use Rattle.readings.specs.declared.refusal.Miskeyed.{Miskeyed}
use Rattle.readings.specs.declared.refusal.Miskeyed.TheVariants as keyed

-- what `split_whitespace` says of an item
abbrev pub Found : List ℕ → List ℕ → List ℕ → Type 0
Found text word rest = (gap : List ℕ) × (text ≡ gap ++ (word ++ rest)) × (0 < length word) × NoCharPasses is_not_whitespace gap × NoCharPasses is_whitespace word × ((more : List ℕ) × EmptyOrStartsWithPassing is_whitespace rest more)

pub first_of : (text word rest : List ℕ) → Found text word rest → First text word rest
first_of text word rest cut = record { gap = cut.0; cut = cut.1; some = cut.2; blank = cut.3; solid = cut.4; ends = cut.5 }

few : (text : List ℕ) (words : List (List ℕ)) (rest : List ℕ) → Cuts text words rest → length words < 3 → NoCharPasses is_not_whitespace rest → Refused text keyed.WrongCount
few text words rest cuts h blank = inl (refl, (words, rest, cuts, inl (h, blank)))

-- no word, one, two, and a fourth
pub no_word : (text from : List ℕ) → from ≡ text → NoCharPasses is_not_whitespace from → Refused text keyed.WrongCount
no_word text from e blank = few text [] from (sym e) (omega arith) blank

pub one_word : (text from a r : List ℕ) → from ≡ text → Found from a r → NoCharPasses is_not_whitespace r → Refused text keyed.WrongCount
one_word text from a r e f blank = subst (λ t. Refused t keyed.WrongCount) e (few from (a ∷ []) r (r, first_of from a r f, refl) (omega arith) blank)

pub two_words : (text from a r b s : List ℕ) → from ≡ text → Found from a r → Found r b s → NoCharPasses is_not_whitespace s → Refused text keyed.WrongCount
two_words text from a r b s e f g blank =
    subst (λ t. Refused t keyed.WrongCount) e (few from (a ∷ (b ∷ [])) s (r, first_of from a r f, (s, first_of r b s g, refl)) (omega arith) blank)

pub fourth_word : (text from a r b s c t d u : List ℕ) → from ≡ text → Found from a r → Found r b s → Found s c t → Found t d u → Refused text keyed.WrongCount
fourth_word text from a r b s c t d u e f g h i =
    subst (λ x. Refused x keyed.WrongCount) e (inl (refl, (a ∷ (b ∷ (c ∷ (d ∷ []))), u, (r, first_of from a r f, (s, first_of r b s g, (t, first_of s c t h, (u, first_of t d u i, refl)))), inr refl)))

-- three words and no more
pub three_words : (text from a r b s c t : List ℕ) → from ≡ text → Found from a r → Found r b s → Found s c t → NoCharPasses is_not_whitespace t → (result : Result Reading Miskeyed)
    → MatchResult result (λ x. Writes (record { batch = a; temperature = b; viscosity = c }) x) (λ e. Wrong (record { batch = a; temperature = b; viscosity = c }) e)
    → MatchResult result (λ x. (words : Words) × Three text words × Writes words x) (λ e. Refused text e)
three_words text from a r b s c t e f g h blank result k = by_result result k
  where
    words : Words
    words = record { batch = a; temperature = b; viscosity = c }

    three : Three text words
    three = subst (λ x. Three x words) e (t, (r, first_of from a r f, (s, first_of r b s g, (t, first_of s c t h, refl))), blank)

    by_result : (o : Result Reading Miskeyed) → MatchResult o (λ x. Writes words x) (λ e. Wrong words e) → MatchResult o (λ x. (w : Words) × Three text w × Writes w x) (λ e. Refused text e)
    by_result (Ok x) p = (words, three, p)
    by_result (Err x) p = inr (words, three, p)
