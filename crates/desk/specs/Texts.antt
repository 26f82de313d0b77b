-- Which order a line of text says.
use Rattle.std.specs.Prelude.{◌≡◌, ℕ, ◌<◌, ◌⊎◌, List, [], ◌∷◌, Some, None, Ok, Err, vec_items, codes, Option, Result}
use Rattle.std.specs.Borrow.{Bor}
use Rattle.std.specs.Global.{Vec}
use Rattle.std.specs.Str.Parse.{IsNumeral, without_leading_plus}
use Rattle.commands.specs.Readings.{Extra, Miscounts, Spoils}
use Rattle.commands.specs.Texts.{Blank, Decimal, First, NextNumber, NoneOf, OneNumber, Writes}
use Rattle.commands.specs.declared.misread.Misread.{Misread}
use Rattle.commands.specs.declared.misread.NumberFault.{NumberFault}
use Rattle.commands.specs.declared.misread.NumberFault.TheVariants.{Missing, NotDecimal, TooLarge}
use Rattle.desk.specs.declared.hearings.Call.TheVariants as call
use Rattle.desk.specs.declared.misread.DeskMisread.{DeskMisread}
use Rattle.desk.specs.declared.misread.DeskMisread.TheVariants.{Words, BadKind}
use Rattle.desk.specs.declared.order.DeskOrder.{DeskOrder}
use Rattle.desk.specs.declared.order.DeskOrder.TheVariants as order
use Rattle.desk.specs.declared.order.Name.{Name}
use Rattle.desk.specs.declared.order.Name.TheVariants as name

-- the first word of an order
abbrev pub word_of : Name → List ℕ
word_of name.Receiver = codes "receiver"
word_of name.Gap = codes "gap"
word_of name.ShowMarks = codes "showmarks"
word_of name.ShowFrame = codes "showframe"
word_of name.Look = codes "look"
word_of name.Release = codes "release"
word_of name.State = codes "state"
word_of name.Ft12 = codes "ft12"
word_of name.MarkBuffer = codes "markbuffer"
word_of name.FrameBuffer = codes "framebuffer"
word_of name.Listen = codes "listen"
word_of name.Ft2 = codes "ft2"
word_of name.Write = codes "write"

abbrev pub names : List (List ℕ)
names = codes "receiver" ∷ (codes "gap" ∷ (codes "showmarks" ∷ (codes "showframe" ∷ (codes "look" ∷ (codes "release" ∷ (codes "state" ∷ (codes "ft12" ∷ (codes "markbuffer" ∷ (codes "framebuffer" ∷ (codes "listen" ∷ (codes "ft2" ∷ (codes "write" ∷ []))))))))))))

-- two numbers, and no word behind them
abbrev pub TwoNumbers : List ℕ → ℕ → ℕ → Type 0
TwoNumbers text m n = (rest : List ℕ) × NextNumber text m rest × OneNumber rest n

-- the first is no number; or it is one, and what stands behind it is not one number
abbrev pub NotTwo : List ℕ → Misread → Type 0
NotTwo text e = Miscounts text e ⊎ ((m : ℕ) × (rest : List ℕ) × NextNumber text m rest × Miscounts rest e)

-- a kind, and behind it words that write the octets
abbrev pub KindAndOctets : List ℕ → ℕ → List ℕ → Type 0
KindAndOctets text k octets = (rest : List ℕ) × NextNumber text k rest × (k < 256) × Writes rest octets

-- the order, with no word behind it
abbrev pub Alone : DeskOrder → List ℕ → DeskOrder → Type 0
Alone order text o = (o ≡ order) × Blank text

-- the order of one number, which stands behind it
abbrev pub OfNumber : (ℕ → DeskOrder) → List ℕ → DeskOrder → Type 0
OfNumber order text o = (n : ℕ) × (o ≡ order n) × OneNumber text n

-- the order that a name and the text behind it say
abbrev pub Behind : Name → List ℕ → DeskOrder → Type 0
Behind name.Receiver text o = Alone (order.Call call.New) text o
Behind name.Gap text o = Alone (order.Call call.Gap) text o
Behind name.ShowMarks text o = Alone order.ShowMarks text o
Behind name.ShowFrame text o = Alone order.ShowFrame text o
Behind name.Look text o = Alone (order.Call call.Look) text o
Behind name.Release text o = Alone (order.Call call.Release) text o
Behind name.State text o = Alone (order.Call call.State) text o
Behind name.Ft12 text o = OfNumber order.Ft12 text o
Behind name.MarkBuffer text o = OfNumber order.MarkBuffer text o
Behind name.FrameBuffer text o = OfNumber order.FrameBuffer text o
Behind name.Listen text o = OfNumber (λ n. order.Call (call.Listen n)) text o
Behind name.Ft2 text o = (m n : ℕ) × (o ≡ order.Ft2 m n) × TwoNumbers text m n
Behind name.Write text o = (k : ℕ) × (v : Vec ℕ) × (o ≡ order.Call (call.Write k v)) × KindAndOctets text k (vec_items v)

-- the word is no number from 0 to 255, and is named
abbrev pub NotKind : List ℕ → NumberFault → Type 0
NotKind text e = (word : Bor (List ℕ)) × (word.now ≡ text) × (((e ≡ NotDecimal word) × (IsNumeral 10 (without_leading_plus text) → ⊥)) ⊎ ((e ≡ TooLarge word) × ((k : ℕ) → k < 256 → Decimal text k → ⊥)))

-- the text does not begin with a number from 0 to 255
abbrev pub NoKind : List ℕ → DeskMisread → Type 0
NoKind text e =
    ((e ≡ BadKind Missing) × Blank text)
    ⊎ ((fault : NumberFault) × (word rest : List ℕ) × (e ≡ BadKind fault) × First text word rest × NotKind word fault)

-- no kind, or behind it a word that writes no octet
abbrev pub NotWritten : List ℕ → DeskMisread → Type 0
NotWritten text e =
    NoKind text e
    ⊎ ((k : ℕ) × (rest : List ℕ) × (misread : Misread) × (e ≡ Words misread) × NextNumber text k rest × (k < 256) × Spoils rest misread)

-- a word stands behind an order that has none
abbrev pub NotAlone : List ℕ → DeskMisread → Type 0
NotAlone text e = (misread : Misread) × (e ≡ Words misread) × Extra text misread

-- no number stands behind an order of one, or a word too many
abbrev pub NotOfNumber : List ℕ → DeskMisread → Type 0
NotOfNumber text e = (misread : Misread) × (e ≡ Words misread) × Miscounts text misread

-- why the text behind a name says no order
abbrev pub Wrong : Name → List ℕ → DeskMisread → Type 0
Wrong name.Receiver text e = NotAlone text e
Wrong name.Gap text e = NotAlone text e
Wrong name.ShowMarks text e = NotAlone text e
Wrong name.ShowFrame text e = NotAlone text e
Wrong name.Look text e = NotAlone text e
Wrong name.Release text e = NotAlone text e
Wrong name.State text e = NotAlone text e
Wrong name.Ft12 text e = NotOfNumber text e
Wrong name.MarkBuffer text e = NotOfNumber text e
Wrong name.FrameBuffer text e = NotOfNumber text e
Wrong name.Listen text e = NotOfNumber text e
Wrong name.Ft2 text e = (misread : Misread) × (e ≡ Words misread) × NotTwo text misread
Wrong name.Write text e = NotWritten text e

-- the text says the order
abbrev pub Says : List ℕ → DeskOrder → Type 0
Says text o = (n : Name) × (rest : List ℕ) × First text (word_of n) rest × Behind n rest o

-- no order of the desk's is begun; or the text says an order; or it begins one and goes wrong
abbrev pub Reading : List ℕ → Option (Result DeskOrder DeskMisread) → Type 0
Reading text None = Blank text ⊎ ((word rest : List ℕ) × First text word rest × NoneOf names word)
Reading text (Some (Ok o)) = Says text o
Reading text (Some (Err e)) = (n : Name) × (rest : List ℕ) × First text (word_of n) rest × Wrong n rest e
