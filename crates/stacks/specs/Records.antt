-- A record of either kind.
use Rattle.std.specs.Prelude.{◌≡◌, ℕ, ◌%◌, List, length, map}
use Rattle.lines.specs.declared.mark.Mark.{Mark}
use Rattle.lines.specs.Records.{mark_of}
use Rattle.lines.specs.Entries.{left_from, entries}
use Rattle.stacks.specs.declared.record.RecordKind.{RecordKind}
use Rattle.stacks.specs.declared.record.RecordKind.TheVariants as kind
use Rattle.stacks.specs.declared.record.Record.{Record}
use Rattle.stacks.specs.declared.record.Record.TheVariants.{Marks, Characters}

-- what a record still has to give
abbrev pub recorded : Record → List Mark
recorded (Marks m) = map mark_of m.octets.now
recorded (Characters c) = left_from c.place c.octets.now

-- the marks of a whole record of a kind
abbrev pub marks_in : RecordKind → List ℕ → List Mark
marks_in kind.Marks octets = map mark_of octets
marks_in kind.Characters octets = entries octets

-- the octets make a record of the kind: an odd number of them makes no character record
abbrev pub Suits : RecordKind → List ℕ → Type 0
Suits k octets = k ≡ kind.Characters → length octets % 2 ≡ 0
