-- How FT2 judges marks.
use Rattle.std.specs.Prelude.{ℕ, zero, suc, ◌+◌, ◌-◌, ◌*◌, ◌%◌, min, cond, List, [], ◌∷◌, ◌++◌, ◌==◌, nat_lt}
use Rattle.formats.specs.Laws.{Model}
use Rattle.formats.specs.Machine.{Machine}
use Rattle.formats.specs.Verdicts.{Verdict, open_list, tells, frame_of}
use Rattle.formats.specs.declared.fault.LineFault.TheVariants.{BadMark}
use Rattle.lines.specs.declared.mark.Mark.{Mark}
use Rattle.lines.specs.declared.mark.Mark.TheVariants.{Zero, One, Bad}
use Rattle.ft2_laws.specs.Faults.{faulty}
use Rattle.ft2_laws.specs.Frames.{check_of, first_octet, kind_number, kind_of, is_kind, suits_kind, headed_kind, frame_marks, gap_marks}
use Rattle.ft2_laws.specs.declared.fault.Ft2Fault.TheVariants as fault
use Rattle.ft2_laws.specs.declared.kind.Kind.TheVariants as kind
use Rattle.ft2_laws.specs.declared.reading.Block.{Block}
use Rattle.ft2_laws.specs.declared.reading.Block.TheVariants.{Fixed, Header, Body}
use Rattle.ft2_laws.specs.declared.reading.Part.{Part}
use Rattle.ft2_laws.specs.declared.reading.Part.TheVariants.{First, Later}
use Rattle.ft2_laws.specs.declared.settings.Settings.{Settings}

-- Octets in a frame.

-- the position of an octet in a frame
pub data Place : Type 0 where
  start : Place
  -- a user octet: its block, the octets of the block before it, and how many come after it
  user : Block → List ℕ → ℕ → Place
  -- the check octet of a block, and the octets of the block
  check : Block → List ℕ → Place

-- where so many octets of a block are to come, and those before them are given
abbrev pub users : Block → List ℕ → ℕ → Place
users b os zero = check b os
users b os (suc left) = user b os left

-- the beginning of a block of a fixed frame, where so many user octets are to come
abbrev pub fixed_block : ℕ → Place
fixed_block n = users (Fixed (n - 15)) [] (min n 15)

-- the number of body octets that a header names
abbrev pub judge_count : ℕ → Verdict
judge_count n = cond (nat_lt 15 n) (faulty fault.BodyCount) (cond (n == 0) (frame_of (kind_number kind.Variable)) open_list)

-- a block whose check octet is right
abbrev pub judge_block : Block → List ℕ → Verdict
judge_block (Fixed zero) os = frame_of (kind_number kind.Fixed)
judge_block (Fixed (suc left)) os = open_list
judge_block Header os = judge_count (first_octet os)
judge_block Body os = frame_of (kind_number kind.Variable)

-- an octet at its position in a frame
abbrev pub judge : Place → ℕ → Verdict
judge start o = cond (o == 0x27) open_list (cond (o == 0x14) open_list (faulty fault.StartOctet))
judge (user b os left) o = tells o
judge (check b os) o = cond (o == check_of os) (judge_block b os) (faulty fault.CheckOctet)

-- the position behind a block
abbrev pub after_block : Block → List ℕ → Place
after_block (Fixed left) os = fixed_block left
after_block Header os = users Body [] (first_octet os)
after_block Body os = check Body os

-- the position behind an octet
abbrev pub next : Settings → Place → ℕ → Place
next settings start o = cond (o == 0x27) (fixed_block settings.fixed) (users Header [] settings.header)
next settings (user b os left) o = users b (os ++ (o ∷ [])) left
next settings (check b os) o = after_block b os

-- Marks in an octet.

-- a mark; where it is good, the list is judged so
abbrev pub judge_mark : Verdict → Mark → Verdict
judge_mark v Zero = v
judge_mark v One = v
judge_mark v Bad = faulty (fault.Line BadMark)

abbrev pub value : Mark → ℕ
value Zero = 0
value One = 1
value Bad = 0

-- the octet of eight marks, highest bit first
abbrev pub octet_of : Mark → Mark → Mark → Mark → Mark → Mark → Mark → Mark → ℕ
octet_of a b c d e f g h = 128 * value a + 64 * value b + 32 * value c + 16 * value d + 8 * value e + 4 * value f + 2 * value g + value h

-- A list of marks from the octet at a position on: it is cut into octets of eight marks. Its last mark is bad, or open
-- inside an octet, or the last of an octet, which is then judged by its position in the frame.
abbrev pub judge_list : Settings → Place → List Mark → Verdict
judge_list settings p [] = open_list
judge_list settings p (a ∷ []) = judge_mark open_list a
judge_list settings p (a ∷ (b ∷ [])) = judge_mark open_list b
judge_list settings p (a ∷ (b ∷ (c ∷ []))) = judge_mark open_list c
judge_list settings p (a ∷ (b ∷ (c ∷ (d ∷ [])))) = judge_mark open_list d
judge_list settings p (a ∷ (b ∷ (c ∷ (d ∷ (e ∷ []))))) = judge_mark open_list e
judge_list settings p (a ∷ (b ∷ (c ∷ (d ∷ (e ∷ (f ∷ [])))))) = judge_mark open_list f
judge_list settings p (a ∷ (b ∷ (c ∷ (d ∷ (e ∷ (f ∷ (g ∷ []))))))) = judge_mark open_list g
judge_list settings p (a ∷ (b ∷ (c ∷ (d ∷ (e ∷ (f ∷ (g ∷ (h ∷ [])))))))) = judge_mark (judge p (octet_of a b c d e f g h)) h
judge_list settings p (a ∷ (b ∷ (c ∷ (d ∷ (e ∷ (f ∷ (g ∷ (h ∷ (n ∷ ms))))))))) = judge_list settings (next settings p (octet_of a b c d e f g h)) (n ∷ ms)

-- FT2 at its settings
abbrev pub ft2_model : Settings → Model
ft2_model settings = record {
  gap = gap_marks settings;
  distance = 4;
  verdict = judge_list settings start;
  known = λ kind. is_kind (kind_of kind);
  suits = λ kind n. suits_kind settings (kind_of kind) n;
  headed = λ kind octets. headed_kind settings (kind_of kind) octets;
  frame = λ kind octets. frame_marks settings (kind_of kind) octets;
}

-- The same mark by mark.

-- what is kept of the list so far
pub record Reading : Type 0 where
  pub place : Place
  pub part : Part

-- a mark comes in as the octet's lowest bit and moves the others up
abbrev pub moved_in : ℕ → Mark → ℕ
moved_in o m = o * 2 % 256 + value m

abbrev pub says_at : Place → Part → Mark → Verdict
says_at p First m = judge_mark open_list m
says_at p (Later zero o) m = judge_mark (judge p (moved_in o m)) m
says_at p (Later (suc left) o) m = judge_mark open_list m

abbrev pub after_at : Settings → Place → Part → Mark → Reading
after_at settings p First m = record { place = p; part = Later 6 (moved_in 0 m) }
after_at settings p (Later zero o) m = record { place = next settings p (moved_in o m); part = First }
after_at settings p (Later (suc left) o) m = record { place = p; part = Later left (moved_in o m) }

abbrev pub beginning : Place → Reading
beginning p = record { place = p; part = First }

abbrev pub ft2_machine : Settings → Machine Reading
ft2_machine settings = record {
  start = beginning start;
  says = λ s m. says_at s.place s.part m;
  after = λ s m. after_at settings s.place s.part m;
}
