-- Bath results as they are keyed: three words, batch, temperature and viscosity.
use Rattle.std.specs.Prelude.{◌≡◌, ℕ, ◌<◌, ◌≤◌, ◌⊎◌, List, [], ◌∷◌, ◌++◌, length, Some, None, Option}
use Rattle.std.specs.Char.{is_whitespace, is_not_whitespace}
use Rattle.std.specs.Str.{NoCharPasses, EmptyOrStartsWithPassing}
use Rattle.readings.specs.Numbers.{decimal_of, digits_on}
use Rattle.readings.specs.declared.reading.Reading.{Reading}
use Rattle.readings.specs.declared.refusal.Miskeyed.{Miskeyed}
use Rattle.readings.specs.declared.refusal.Miskeyed.TheVariants.{WrongCount, NoNumber, OutOfLimits}
use Rattle.readings.specs.declared.refusal.Part.{Part}
use Rattle.readings.specs.declared.refusal.Part.TheVariants.{Batch, Temperature, Viscosity}

-- the number that a word writes: a whole batch, a temperature with one decimal, a viscosity with two
abbrev pub number_in : Part → List ℕ → Option ℕ
number_in Batch word = digits_on (Some 0) word
number_in Temperature word = decimal_of 1 word
number_in Viscosity word = decimal_of 2 word

-- the three words, by part
pub record Words : Type 0 where
  pub batch : List ℕ
  pub temperature : List ℕ
  pub viscosity : List ℕ

abbrev pub word_of : Words → Part → List ℕ
word_of words Batch = words.batch
word_of words Temperature = words.temperature
word_of words Viscosity = words.viscosity

-- the words write the reading, and the bath is at 40.0 degrees
pub record Writes (words : Words) (x : Reading) : Type 0 where
  pub batch : number_in Batch words.batch ≡ Some x.batch
  pub temperature : number_in Temperature words.temperature ≡ Some x.temperature
  pub viscosity : number_in Viscosity words.viscosity ≡ Some x.viscosity
  pub bath : x.temperature ≡ 400

-- what may be keyed of each part
abbrev pub Limits : Part → ℕ → Type 0
Limits Batch n = (1 ≤ n) × (n ≤ 65535)
Limits Temperature n = n ≡ 400
Limits Viscosity n = (1 ≤ n) × (n ≤ 9999999)

-- the part that is named is wrong in the words
abbrev pub Wrong : Words → Miskeyed → Type 0
Wrong words WrongCount = ⊥
Wrong words (NoNumber part) = number_in part (word_of words part) ≡ None
Wrong words (OutOfLimits part) = (n : ℕ) × (number_in part (word_of words part) ≡ Some n) × (Limits part n → ⊥)

-- the text is white space, the word, and the rest, which is empty or begins with white space
pub record First (text word rest : List ℕ) : Type 0 where
  pub gap : List ℕ
  pub cut : text ≡ gap ++ (word ++ rest)
  pub some : 0 < length word
  pub blank : NoCharPasses is_not_whitespace gap
  pub solid : NoCharPasses is_whitespace word
  pub ends : (more : List ℕ) × EmptyOrStartsWithPassing is_whitespace rest more

-- so many words are the first of the text, and the rest is left
abbrev pub Cuts : List ℕ → List (List ℕ) → List ℕ → Type 0
Cuts text [] rest = text ≡ rest
Cuts text (w ∷ ws) rest = (next : List ℕ) × First text w next × Cuts next ws rest

-- the text is three words
abbrev pub Three : List ℕ → Words → Type 0
Three text words = (rest : List ℕ) × Cuts text (words.batch ∷ (words.temperature ∷ (words.viscosity ∷ []))) rest × NoCharPasses is_not_whitespace rest

-- the text has fewer than three words, or a fourth
abbrev pub NotThree : List ℕ → Type 0
NotThree text = (words : List (List ℕ)) × (rest : List ℕ) × Cuts text words rest × (((length words < 3) × NoCharPasses is_not_whitespace rest) ⊎ (length words ≡ 4))

-- why the text is no bath result
abbrev pub Refused : List ℕ → Miskeyed → Type 0
Refused text e = ((e ≡ WrongCount) × NotThree text) ⊎ ((words : Words) × Three text words × Wrong words e)
