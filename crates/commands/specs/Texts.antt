-- Which command a line of text says.
use Rattle.std.specs.Prelude.{◌≡◌, ℕ, ◌^◌, ◌<◌, Bool, true, false, ◌⊎◌, List, [], ◌∷◌, ◌++◌, map, length, Some, None, vec_items, codes, ◌==◌, ◌≢◌}
use Rattle.std.specs.Str.Parse.{IsNumeral, without_leading_plus, digits_value}
use Rattle.std.specs.Char.{is_whitespace, is_not_whitespace}
use Rattle.std.specs.Str.{NoCharPasses, EmptyOrStartsWithPassing}
use Rattle.commands.specs.Octets.{octet_of}
use Rattle.commands.specs.declared.command.Command.{Command}
use Rattle.commands.specs.declared.command.Command.TheVariants.{Choose, Work}
use Rattle.commands.specs.declared.command.Order.{Order}
use Rattle.commands.specs.declared.command.Order.TheVariants as order
use Rattle.stacks.specs.declared.layer.Layer.TheVariants as layer
use Rattle.commands.specs.declared.misread.Misread.{Misread}
use Rattle.commands.specs.declared.misread.Misread.TheVariants.{UnknownCommand, BadOctet, BadNumber, ExtraWord, NoMemory}
use Rattle.commands.specs.declared.misread.NumberFault.{NumberFault}
use Rattle.commands.specs.declared.misread.NumberFault.TheVariants.{Missing, NotDecimal, TooLarge}
use Rattle.stacks.specs.declared.record.RecordKind.{RecordKind}
use Rattle.stacks.specs.declared.record.RecordKind.TheVariants as kind

-- the text is white space, the word, and the rest, which is empty or begins with white space
pub record First (text word rest : List ℕ) : Type 0 where
  pub gap : List ℕ
  pub cut : text ≡ gap ++ (word ++ rest)
  pub some : 0 < length word
  pub blank : NoCharPasses is_not_whitespace gap
  pub solid : NoCharPasses is_whitespace word
  pub ends : (more : List ℕ) × EmptyOrStartsWithPassing is_whitespace rest more

-- no word is in the text
abbrev pub Blank : List ℕ → Type 0
Blank text = NoCharPasses is_not_whitespace text

-- the words are the first of the text, and the rest is left
abbrev pub Cuts : List ℕ → List (List ℕ) → List ℕ → Type 0
Cuts text [] rest = text ≡ rest
Cuts text (w ∷ ws) rest = (next : List ℕ) × First text w next × Cuts next ws rest

-- a number of marks: decimal digits, after a plus or not, below 65536
abbrev pub Decimal : List ℕ → ℕ → Type 0
Decimal word n = IsNumeral 10 (without_leading_plus word) × (digits_value 10 (without_leading_plus word) < 2 ^ 16) × (n ≡ digits_value 10 (without_leading_plus word))

-- the text begins with a word that writes the number, and the rest is left
abbrev pub NextNumber : List ℕ → ℕ → List ℕ → Type 0
NextNumber text n rest = (word : List ℕ) × First text word rest × Decimal word n

-- a number, and no word behind it
abbrev pub OneNumber : List ℕ → ℕ → Type 0
OneNumber text n = (rest : List ℕ) × NextNumber text n rest × Blank rest

-- the word that chooses a record of a kind
abbrev pub kind_word : RecordKind → List ℕ
kind_word kind.Marks = codes "marks"
kind_word kind.Characters = codes "characters"

-- the text begins with the words of an order, and the rest is left
abbrev pub Says : List ℕ → Order → List ℕ → Type 0
Says text order.Nothing rest = ⊥
Says text (order.Put layer.Reversal) rest = First text (codes "reversal") rest
Says text (order.Put layer.Sampling) rest = First text (codes "sampling") rest
Says text order.Uncover rest = First text (codes "bare") rest
Says text (order.Take n) rest = (next : List ℕ) × First text (codes "take") next × NextNumber next n rest
Says text order.Describe rest = First text (codes "line") rest
Says text order.Help rest = First text (codes "help") rest

-- whether a word begins with #, which has the code 35
abbrev pub begins_comment : List ℕ → Bool
begins_comment [] = false
begins_comment (c ∷ cs) = c == 35

-- the text has no word, or its first begins a comment
abbrev pub Silent : List ℕ → Type 0
Silent text = Blank text ⊎ ((word rest : List ℕ) × First text word rest × (begins_comment word ≡ true))

-- the words of the text write the octets, and there are no others
abbrev pub Writes : List ℕ → List ℕ → Type 0
Writes text octets = (words : List (List ℕ)) × (rest : List ℕ) × Cuts text words rest × Blank rest × (map octet_of words ≡ map Some octets)

-- the text says the command, and nothing else
abbrev pub Reads : List ℕ → Command → Type 0
Reads text (Choose k v) = (rest : List ℕ) × First text (kind_word k) rest × Writes rest (vec_items v)
Reads text (Work o) = ((o ≡ order.Nothing) × Silent text) ⊎ ((rest : List ℕ) × Says text o rest × Blank rest)

-- the text begins with words that write octets, and then has this word, which writes none
abbrev pub Spoilt : List ℕ → List ℕ → Type 0
Spoilt text word = (words : List (List ℕ)) × (octets at rest : List ℕ) × Cuts text words at × (map octet_of words ≡ map Some octets) × First at word rest × (octet_of word ≡ None)

-- the text does not begin with a number of marks
abbrev pub NoNumber : List ℕ → NumberFault → Type 0
NoNumber text Missing = Blank text
NoNumber text (NotDecimal word) = (rest : List ℕ) × First text word.now rest × (IsNumeral 10 (without_leading_plus word.now) → ⊥)
NoNumber text (TooLarge word) = (rest : List ℕ) × First text word.now rest × ((n : ℕ) → Decimal word.now n → ⊥)

-- the names of the commands
abbrev pub names : List (List ℕ)
names = codes "marks" ∷ (codes "characters" ∷ (codes "reversal" ∷ (codes "sampling" ∷ (codes "bare" ∷ (codes "take" ∷ (codes "line" ∷ (codes "help" ∷ [])))))))

abbrev pub NoneOf : List (List ℕ) → List ℕ → Type 0
NoneOf [] word = Unit {0}
NoneOf (n ∷ ns) word = (word ≢ n) × NoneOf ns word

-- why the text says no command
abbrev pub Misreads : List ℕ → Misread → Type 0
Misreads text (UnknownCommand word) = (rest : List ℕ) × First text word.now rest × NoneOf names word.now
Misreads text (BadOctet word) = (k : RecordKind) × (rest : List ℕ) × First text (kind_word k) rest × Spoilt rest word.now
Misreads text (BadNumber fault) = (rest : List ℕ) × First text (codes "take") rest × NoNumber rest fault
Misreads text (ExtraWord word) = (o : Order) × (at rest : List ℕ) × Says text o at × First at word.now rest
Misreads text NoMemory = Unit {0}
