-- What the reader's state stands for.
use Rattle.std.specs.Prelude.{◌≡◌, ℕ, Bool, true, false, List, [], ◌∷◌, Some, None, Ok, Err, Option, Result}
use Rattle.checks.specs.Bits.{block_bits}
use Rattle.checks.specs.Standing.{Stands}
use Rattle.lines.specs.declared.mark.Mark.{Mark}
use Rattle.formats.specs.Answers.{Tells}
use Rattle.formats.specs.Machine.{StandsFor}
use Rattle.formats.specs.Verdicts.{Open}
use Rattle.formats.specs.declared.format.Progress.{Progress}
use Rattle.formats.specs.declared.format.Progress.TheVariants as progress
use Rattle.ft2_laws.specs.Faults.{ft2_cause}
use Rattle.ft2_laws.specs.Reading.{Place, Reading, start, user, check, after_block, after_at, ft2_machine, judge, judge_block, next, says_at}
use Rattle.ft2_laws.specs.declared.fault.Ft2Fault.{Ft2Fault}
use Rattle.ft2_laws.specs.declared.reading.Block.{Block}
use Rattle.ft2_laws.specs.declared.reading.Part.TheVariants.{First}
use Rattle.ft2_laws.specs.declared.settings.Settings.{Settings}
use Rattle.ft2.specs.declared.reader.Position.{Position}
use Rattle.ft2.specs.declared.reader.Position.TheVariants as position
use Rattle.ft2.specs.declared.reader.Reader.{Reader}

-- a place without the octets of its block
abbrev pub position_of : Place → Position
position_of start = position.Start
position_of (user b os left) = position.User b left
position_of (check b os) = position.Check b

-- the octets of its block
abbrev pub block_of : Place → List ℕ
block_of start = []
block_of (user b os left) = os
block_of (check b os) = os

abbrev pub head_of : List ℕ → Option ℕ
head_of [] = None
head_of (o ∷ os) = Some o

-- the reader is at a place: it knows the position, the first octet of the block, and the block's remainder and parity
pub record At (r : Reader) (p : Place) : Type 0 where
  pub position_is : r.position ≡ position_of p
  pub first_is : r.first ≡ head_of (block_of p)
  pub taken : Stands r.register (block_bits (block_of p))

pub record Holds (r : Reader) (s : Reading) : Type 0 where
  pub at_place : At r s.place
  pub part_is : r.part ≡ s.part

-- the reader, at its settings, stands for a list
abbrev pub Standing : Settings → Reader → List Mark → Type 0
Standing settings r ms = (s : Reading) × Holds r s × StandsFor (ft2_machine settings) s ms

-- no mark of a frame has come
abbrev pub AtRest : Reader → Type 0
AtRest r = (r.position ≡ position.Start) × (r.part ≡ First)

-- an octet is judged as at each place that the reader may be at, and where it leaves the list open, the reader goes on
abbrev pub Judges : Settings → Reader → ℕ → Result Progress Ft2Fault → Reader → Type 0
Judges settings before octet r after = (p : Place) → At before p → Tells ft2_cause (judge p octet) r × (Open (judge p octet) → At after (next settings p octet))

-- so for the start octet
abbrev pub StartJudged : Settings → ℕ → Result Progress Ft2Fault → Reader → Type 0
StartJudged settings octet r after = Tells ft2_cause (judge start octet) r × (Open (judge start octet) → At after (next settings start octet))

-- and at the end of a block whose check octet is right
abbrev pub BlockJudged : Block → Reader → Result Progress Ft2Fault → Reader → Type 0
BlockJudged b before r after = (os : List ℕ) → before.first ≡ head_of os → Tells ft2_cause (judge_block b os) r × (Open (judge_block b os) → At after (after_block b os))

-- a mark is judged as in each state that the reader may hold, and where it leaves the list open, the reader goes on
abbrev pub Takes : Settings → Reader → Mark → Result Progress Ft2Fault → Reader → Type 0
Takes settings before m r after = (s : Reading) → Holds before s → Tells ft2_cause (says_at s.place s.part m) r × (Open (says_at s.place s.part m) → Holds after (after_at settings s.place s.part m))

-- whether an answer ends the list
abbrev pub closes : Result Progress Ft2Fault → Bool
closes (Ok progress.Open) = false
closes (Ok (progress.Octet o)) = false
closes (Ok (progress.Frame k)) = true
closes (Err f) = true
