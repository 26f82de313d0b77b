-- What a receiver promises whatever calls are made to it: it is never deaf and never deceived.
use Rattle.std.specs.Prelude.{◌≡◌, ℕ, zero, suc, ◌≤◌, min, List, [], ◌∷◌, ◌++◌, length, take, drop, Ok, Err, Result, ◌≢◌}
use Rattle.lines.specs.declared.mark.Mark.{Mark}
use Rattle.lines.specs.declared.mark.Mark.TheVariants.{Zero, One, Bad}
use Rattle.formats.specs.Laws.{Lawful, Model}
use Rattle.formats.specs.Marks.{Altered, ones}
use Rattle.formats.specs.Verdicts.{Cause}
use Rattle.hearing.specs.Calls.{Begun, Listened, Looked, Released}
use Rattle.hearing.specs.Rules.{Hearer}
use Rattle.hearing.specs.declared.answer.Ending.{Ending}
use Rattle.hearing.specs.declared.answer.Ending.TheVariants as ending
use Rattle.hearing.specs.declared.answer.Heard.{Heard}
use Rattle.hearing.specs.declared.answer.Standing.{Standing}
use Rattle.hearing.specs.declared.answer.State.TheVariants as state
use Rattle.hearing.specs.declared.fault.ReceiverFault.{ReceiverFault}
use Rattle.hearing.specs.declared.refusal.ReceiverRefusal.{ReceiverRefusal}

-- one receiver, its line and its frame buffer
pub record World (R L : Type 0) : Type 0 where
  pub receiver : R
  pub line : L
  pub buffer : List ℕ

-- what is noted of a mark taken: no frame handed over at it, or a frame of a kind with the user octets that the buffer holds then
pub data Entry : Type 0 where
  no_frame : Entry
  handed : ℕ → List ℕ → Entry

-- of the mark that a listen took last
abbrev pub last_note : {E : Type 0} → Ending E → List ℕ → Entry
last_note (ending.Frame kind octets) buffer = handed kind (take octets buffer)
last_note (ending.Fault why) buffer = no_frame
last_note ending.Spent buffer = no_frame
last_note ending.Empty buffer = no_frame

-- of each of so many marks that a listen took
abbrev pub notes : {E : Type 0} → ℕ → Ending E → List ℕ → List Entry
notes zero end buffer = []
notes (suc zero) end buffer = last_note end buffer ∷ []
notes (suc (suc n)) end buffer = no_frame ∷ notes (suc n) end buffer

abbrev pub noted : {E : Type 0} → Result (Heard E) ReceiverRefusal → List ℕ → List Entry
noted (Ok heard) buffer = notes heard.taken heard.ending buffer
noted (Err refusal) buffer = []

-- Calls one after the other, refused or not, with an entry for each mark taken.
pub data Chain {R L E : Type 0} (cause : E → Cause) (at : R → List ℕ → Hearer → Type 0) (model : R → Model) (standing : R → Standing) (pending : L → List Mark) : World R L → List Entry → World R L → Type 0 where
  none : {w : World R L} → Chain cause at model standing pending w [] w
  listen : {w v : World R L} {h : List Entry} (budget : ℕ) (r : R) (l : L) (buffer : List ℕ) (answer : Result (Heard (ReceiverFault E)) ReceiverRefusal)
      → Listened cause at model standing pending budget w.receiver r w.line l w.buffer buffer answer
      → Chain cause at model standing pending (record { receiver = r; line = l; buffer = buffer }) h v
      → Chain cause at model standing pending w (noted answer buffer ++ h) v
  look : {w v : World R L} {h : List Entry} (answer : Result (List ℕ) ReceiverRefusal)
      → Looked at standing w.receiver w.buffer answer
      → Chain cause at model standing pending w h v
      → Chain cause at model standing pending w h v
  release : {w v : World R L} {h : List Entry} (r : R) (answer : Result (Unit {0}) ReceiverRefusal)
      → Released at model standing w.receiver r answer
      → Chain cause at model standing pending (record { receiver = r; line = w.line; buffer = w.buffer }) h v
      → Chain cause at model standing pending w h v
  ask : {w v : World R L} {h : List Entry} (answer : Standing)
      → answer ≡ standing w.receiver
      → Chain cause at model standing pending w h v
      → Chain cause at model standing pending w h v

-- along the marks of a frame, as far as they were taken: nothing is handed over at the earlier ones, and at the last the frame is
abbrev pub HandedOver : List Mark → ℕ → List ℕ → List Entry → Type 0
HandedOver marks kind octets [] = Unit {0}
HandedOver [] kind octets (e ∷ es) = Unit {0}
HandedOver (m ∷ []) kind octets (e ∷ es) = e ≡ handed kind octets
HandedOver (m ∷ (n ∷ marks)) kind octets (e ∷ es) = (e ≡ no_frame) × HandedOver (n ∷ marks) kind octets es

-- along the marks, as far as they were taken, nothing is handed over
abbrev pub NothingHandedOver : List Mark → List Entry → Type 0
NothingHandedOver marks [] = Unit {0}
NothingHandedOver [] (e ∷ es) = Unit {0}
NothingHandedOver (m ∷ marks) (e ∷ es) = (e ≡ no_frame) × NothingHandedOver marks es

-- a listen that was not refused, and took a mark
abbrev pub TookAMark : {E : Type 0} → Result (Heard E) ReceiverRefusal → Type 0
TookAMark (Ok heard) = 1 ≤ heard.taken
TookAMark (Err refusal) = ⊥

abbrev pub WasFreed : Result (Unit {0}) ReceiverRefusal → Type 0
WasFreed (Ok done) = Unit {0}
WasFreed (Err refusal) = ⊥

-- how many marks of 1 in a row end with the last of the marks, n of them having come before
abbrev pub ones_at_end : ℕ → List Mark → ℕ
ones_at_end n [] = n
ones_at_end n (Zero ∷ marks) = ones_at_end 0 marks
ones_at_end n (One ∷ marks) = ones_at_end (suc n) marks
ones_at_end n (Bad ∷ marks) = ones_at_end 0 marks

-- What a receiver promises at a moment, whichever calls were made since it was new, and whichever follow:
-- m is the format that it was made with, and the marks `first` were to come then.
pub record Promised {R L E : Type 0} (cause : E → Cause) (at : R → List ℕ → Hearer → Type 0) (model : R → Model) (standing : R → Standing) (pending : L → List Mark) (m : Model) (first : List Mark) (w : World R L) : Type 0 where
  pub same_format : model w.receiver ≡ m
  -- the run is the number of marks of 1 in a row that end with the latest mark taken, counted up to the gap
  pub run_counts : (marks : List Mark) × (first ≡ marks ++ pending w.line) × ((standing w.receiver).run ≡ min m.gap (ones_at_end 0 marks))
  -- there is an entry for each mark that the line gives up
  pub mark_by_mark : (h : List Entry) (v : World R L) → Chain cause at model standing pending w h v → (marks : List Mark) × (pending w.line ≡ marks ++ pending v.line) × (length h ≡ length marks)
  -- where a quiet gap and then an unaltered frame are to come, nothing is handed over at the frame's earlier marks, and the frame is at its last
  pub never_deaf : (kind : ℕ) (octets : List ℕ) (more : List Mark) → Lawful m kind octets
      → pending w.line ≡ ones m.gap ++ (m.frame kind octets ++ more)
      → (h : List Entry) (v : World R L) → Chain cause at model standing pending w h v
      → HandedOver (m.frame kind octets) kind octets (drop m.gap h)
  -- where it is ready and a frame is to come with fewer marks altered than the distance, the first one sound, nothing is handed over up to and at its last mark
  pub never_deceived : (kind : ℕ) (octets : List ℕ) (altered more : List Mark) → Lawful m kind octets
      → (standing w.receiver).state ≡ state.Ready
      → Altered m.distance (m.frame kind octets) altered
      → pending w.line ≡ altered ++ more
      → (h : List Entry) (v : World R L) → Chain cause at model standing pending w h v
      → NothingHandedOver altered h
  -- while it holds no frame, a listen takes a mark if it may and there is one
  pub listens_on : (budget : ℕ) (r : R) (l : L) (buffer : List ℕ) (answer : Result (Heard (ReceiverFault E)) ReceiverRefusal)
      → Listened cause at model standing pending budget w.receiver r w.line l w.buffer buffer answer
      → 255 ≤ length w.buffer → 1 ≤ budget → 1 ≤ length (pending w.line) → ((standing w.receiver).state ≢ state.Holding)
      → TookAMark answer
  -- and a frame that it holds can be released
  pub lets_go : (r : R) (answer : Result (Unit {0}) ReceiverRefusal) → Released at model standing w.receiver r answer
      → (standing w.receiver).state ≡ state.Holding
      → WasFreed answer × ((standing r).state ≡ state.Ready)

-- The promise: a new receiver, any line and any frame buffer, and any calls.
abbrev pub Promise : {R L E : Type 0} → (E → Cause) → (R → List ℕ → Hearer → Type 0) → (R → Model) → (R → Standing) → (L → List Mark) → Type 0
Promise {R} {L} cause at model standing pending =
    (r : R) (l : L) (buffer : List ℕ) → Begun at standing r
    → (h : List Entry) (w : World R L) → Chain cause at model standing pending (record { receiver = r; line = l; buffer = buffer }) h w
    → Promised cause at model standing pending (model r) (pending l) w
