-- What the parts of reading find in the words behind a command's name.
use Rattle.std.specs.Prelude.{◌≡◌, ℕ, ◌⊎◌, List, vec_items}
use Rattle.std.specs.Borrow.{Bor}
use Rattle.std.specs.Global.{Vec}
use Rattle.std.specs.Str.Parse.{IsNumeral, without_leading_plus}
use Rattle.commands.specs.Texts.{Decimal, First, NextNumber, NoNumber, Spoilt, Writes}
use Rattle.commands.specs.declared.command.Command.{Command}
use Rattle.commands.specs.declared.command.Command.TheVariants.{Choose}
use Rattle.commands.specs.declared.misread.Misread.{Misread}
use Rattle.commands.specs.declared.misread.Misread.TheVariants.{BadNumber, BadOctet, ExtraWord, NoMemory}
use Rattle.commands.specs.declared.misread.NumberFault.{NumberFault}
use Rattle.commands.specs.declared.misread.NumberFault.TheVariants.{NotDecimal, TooLarge}
use Rattle.stacks.specs.declared.record.RecordKind.{RecordKind}

-- the word that is named is one too many
abbrev pub Extra : List ℕ → Misread → Type 0
Extra text e = (word : Bor (List ℕ)) × (e ≡ ExtraWord word) × (rest : List ℕ) × First text word.now rest

-- a record of the kind, of the octets that the text writes
abbrev pub Chosen : RecordKind → List ℕ → Command → Type 0
Chosen kind text c = (v : Vec ℕ) × (c ≡ Choose kind v) × Writes text (vec_items v)

-- a word that writes no octet is named
abbrev pub Spoils : List ℕ → Misread → Type 0
Spoils text e = (e ≡ NoMemory) ⊎ ((word : Bor (List ℕ)) × (e ≡ BadOctet word) × Spoilt text word.now)

-- the word is no number of marks, and is named
abbrev pub NotNumber : List ℕ → NumberFault → Type 0
NotNumber text e = (word : Bor (List ℕ)) × (word.now ≡ text) × (((e ≡ NotDecimal word) × (IsNumeral 10 (without_leading_plus text) → ⊥)) ⊎ ((e ≡ TooLarge word) × ((n : ℕ) → Decimal text n → ⊥)))

-- no number, or one word too many behind it
abbrev pub Miscounts : List ℕ → Misread → Type 0
Miscounts text e =
    ((fault : NumberFault) × (e ≡ BadNumber fault) × NoNumber text fault)
    ⊎ ((n : ℕ) × (at : List ℕ) × NextNumber text n at × Extra at e)
