-- The receiver's rules: what becomes of a receiver and its frame buffer at each mark.
use Rattle.std.specs.Prelude.{ℕ, suc, cond, List, [], ◌∷◌, ◌++◌, length, nat_lt, slice_set}
use Rattle.lines.specs.declared.mark.Mark.{Mark}
use Rattle.lines.specs.declared.mark.Mark.TheVariants.{Zero, One, Bad}
use Rattle.formats.specs.Laws.{Model}
use Rattle.formats.specs.Marks.{Begins}
use Rattle.formats.specs.Verdicts.{Cause, OpenAlong, Verdict, open_list, tells, frame_of, fault_of, told_along}
use Rattle.hearing.specs.declared.answer.State.{State}
use Rattle.hearing.specs.declared.answer.State.TheVariants as state

-- waiting, ready, within an open list of marks, or holding a frame of a kind with its count of user octets
pub data Stage : Type 0 where
  waiting : Stage
  ready : Stage
  within : List Mark → Stage
  holding : ℕ → ℕ → Stage

abbrev pub state_of : Stage → State
state_of waiting = state.Waiting
state_of ready = state.Ready
state_of (within marks) = state.Open
state_of (holding kind octets) = state.Holding

-- a list that is open begins with 0 or bad, and each of its beginnings is open
abbrev pub Sound : Model → Stage → Type 0
Sound m waiting = Unit {0}
Sound m ready = Unit {0}
Sound m (within list) = Begins list × OpenAlong m.verdict [] list
Sound m (holding kind octets) = Unit {0}

-- a receiver as the rules see it, with the octets of its frame buffer
pub record Hearer : Type 0 where
  pub stage : Stage
  pub run : ℕ
  pub buffer : List ℕ

-- what a mark brings: nothing, a frame of a kind with its count of user octets, or a fault at a place
pub data Event : Type 0 where
  nothing : Event
  frame : ℕ → ℕ → Event
  fault : Cause → ℕ → Event

-- a receiver after a mark, and what the mark brought
pub record Step : Type 0 where
  pub hearer : Hearer
  pub event : Event

-- the run: one more for a 1, up to the gap; none after any other mark
abbrev pub run_after : ℕ → ℕ → Mark → ℕ
run_after gap run Zero = 0
run_after gap run One = cond (nat_lt run gap) (suc run) gap
run_after gap run Bad = 0

-- without a list: waiting, or ready where the run is the gap
abbrev pub resting : ℕ → ℕ → Stage
resting gap run = cond (nat_lt run gap) waiting ready

-- how many user octets an open list has told
abbrev pub count_told : Model → List Mark → ℕ
count_told m list = length (told_along m.verdict [] list)

-- A list was open, of `place` marks that told `count` octets; with one mark more it is judged.
-- The octet told is written at its own number, and no other octet is changed.
abbrev pub comes_to : ℕ → ℕ → List ℕ → ℕ → ℕ → List Mark → Verdict → Step
comes_to gap run buffer place count longer open_list = record { hearer = record { stage = within longer; run = run; buffer = buffer }; event = nothing }
comes_to gap run buffer place count longer (tells octet) = record { hearer = record { stage = within longer; run = run; buffer = slice_set buffer count octet }; event = nothing }
comes_to gap run buffer place count longer (frame_of kind) = record { hearer = record { stage = holding kind count; run = run; buffer = buffer }; event = frame kind count }
comes_to gap run buffer place count longer (fault_of cause) = record { hearer = record { stage = resting gap run; run = run; buffer = buffer }; event = fault cause place }

abbrev pub judged : Model → List Mark → ℕ → List ℕ → Mark → Step
judged m list run buffer mark = comes_to m.gap run buffer (length list) (count_told m list) (list ++ (mark ∷ [])) (m.verdict (list ++ (mark ∷ [])))

-- a mark by the stage at which it comes, the run being counted with it; a mark other than 1 opens a list at a ready receiver
abbrev pub by_stage : Model → Stage → ℕ → List ℕ → Mark → Step
by_stage m waiting run buffer mark = record { hearer = record { stage = resting m.gap run; run = run; buffer = buffer }; event = nothing }
by_stage m ready run buffer Zero = judged m [] run buffer Zero
by_stage m ready run buffer One = record { hearer = record { stage = ready; run = run; buffer = buffer }; event = nothing }
by_stage m ready run buffer Bad = judged m [] run buffer Bad
by_stage m (within list) run buffer mark = judged m list run buffer mark
by_stage m (holding kind octets) run buffer mark = record { hearer = record { stage = holding kind octets; run = run; buffer = buffer }; event = nothing }

-- one mark taken
abbrev pub hears : Model → Hearer → Mark → Step
hears m a mark = by_stage m a.stage (run_after m.gap a.run mark) a.buffer mark
