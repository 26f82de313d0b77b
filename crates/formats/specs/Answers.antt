-- What a format's calls answer, and what they leave.
use Rattle.std.specs.Prelude.{◌≡◌, ℕ, ◌<◌, ◌≤◌, true, false, List, [], ◌∷◌, ◌++◌, map, length, drop, Ok, Err, Result}
use Rattle.lines.specs.declared.mark.Mark.{Mark}
use Rattle.lines.specs.declared.mark.Mark.TheVariants.{One}
use Rattle.lines.specs.Records.{mark_octet}
use Rattle.formats.specs.Laws.{Model, Reads}
use Rattle.formats.specs.Marks.{Begins, ones}
use Rattle.formats.specs.Verdicts.{Cause, Verdict, open_list, tells, frame_of, fault_of}
use Rattle.formats.specs.declared.format.Progress.{Progress}
use Rattle.formats.specs.declared.format.Progress.TheVariants as progress
use Rattle.formats.specs.declared.refusal.WriteRefusal.{WriteRefusal}
use Rattle.formats.specs.declared.refusal.WriteRefusal.TheVariants.{NoSuchKind, WrongCount, WrongFirst, ShortBuffer}

-- the answer is the verdict: open, with the octet told, a frame of the kind, or a fault of that cause
abbrev pub Tells : {E : Type 0} → (E → Cause) → Verdict → Result Progress E → Type 0
Tells cause open_list r = r ≡ Ok progress.Open
Tells cause (tells octet) r = r ≡ Ok (progress.Octet octet)
Tells cause (frame_of kind) r = r ≡ Ok (progress.Frame kind)
Tells {E} cause (fault_of why) r = (e : E) × (r ≡ Err e) × (cause e ≡ why)

-- the list that is being judged after a verdict: it goes on while it is open, and is empty again after a frame or a fault
abbrev pub list_after : Verdict → List Mark → List Mark
list_after open_list ms = ms
list_after (tells octet) ms = ms
list_after (frame_of kind) ms = []
list_after (fault_of why) ms = []

-- A mark added to a format's state, before and after, by the lists that the two states stand for.
pub record Added {E : Type 0} (cause : E → Cause) (before after : List Mark → Type 0) (verdict : List Mark → Verdict) (m : Mark) (r : Result Progress E) : Type 0 where
  -- a 1 added to the empty list leaves it empty
  pub idle : before [] → m ≡ One → (r ≡ Ok progress.Open) × after []
  -- any other list is judged with the mark added
  pub judged : (ms : List Mark) → before ms → Begins (ms ++ (m ∷ [])) → Tells cause (verdict (ms ++ (m ∷ []))) r × after (list_after (verdict (ms ++ (m ∷ []))) (ms ++ (m ∷ [])))

-- the buffer holds the marks from its first octet, and behind them what it held before
abbrev pub filled : List Mark → List ℕ → List ℕ
filled marks before = map mark_octet marks ++ drop (length marks) before

-- What write answers and leaves in the mark buffer: the frame and its count of marks, which the reader reads as that kind
-- and those octets; or the first refusal that applies, and the buffer as it was.
abbrev pub Written : Model → ℕ → List ℕ → List ℕ → Result ℕ WriteRefusal → List ℕ → Type 0
Written m kind octets before (Ok n) after =
    (m.known kind ≡ true) × (m.suits kind (length octets) ≡ true) × (m.headed kind octets ≡ true) × (n ≡ length (m.frame kind octets)) × (n ≤ length before) × (after ≡ filled (m.frame kind octets) before) × Reads m (m.frame kind octets) kind octets
Written m kind octets before (Err NoSuchKind) after = (after ≡ before) × (m.known kind ≡ false)
Written m kind octets before (Err WrongCount) after = (after ≡ before) × (m.known kind ≡ true) × (m.suits kind (length octets) ≡ false)
Written m kind octets before (Err WrongFirst) after = (after ≡ before) × (m.known kind ≡ true) × (m.suits kind (length octets) ≡ true) × (m.headed kind octets ≡ false)
Written m kind octets before (Err ShortBuffer) after = (after ≡ before) × (m.known kind ≡ true) × (m.suits kind (length octets) ≡ true) × (m.headed kind octets ≡ true) × (length before < length (m.frame kind octets))

-- What the gap writer answers and leaves: so many octets 01 as the gap has marks, or the buffer as it was.
abbrev pub GapWritten : Model → List ℕ → Result ℕ WriteRefusal → List ℕ → Type 0
GapWritten m before (Ok n) after = (n ≡ m.gap) × (n ≤ length before) × (after ≡ filled (ones m.gap) before)
GapWritten m before (Err ShortBuffer) after = (after ≡ before) × (length before < m.gap)
GapWritten m before (Err NoSuchKind) after = ⊥
GapWritten m before (Err WrongCount) after = ⊥
GapWritten m before (Err WrongFirst) after = ⊥
