-- How FT1.2 judges marks.
use Rattle.std.specs.Prelude.{ℕ, zero, suc, ◌+◌, ◌*◌, ◌%◌, true, cond, List, [], ◌∷◌, ◌==◌}
use Rattle.formats.specs.Laws.{Model}
use Rattle.formats.specs.Verdicts.{Verdict, open_list, tells, frame_of}
use Rattle.formats.specs.declared.fault.LineFault.TheVariants.{BadMark}
use Rattle.lines.specs.Characters.{parity_mark}
use Rattle.lines.specs.declared.mark.Mark.{Mark}
use Rattle.lines.specs.declared.mark.Mark.TheVariants.{Zero, One, Bad}
use Rattle.ft12_laws.specs.Faults.{faulty}
use Rattle.ft12_laws.specs.Frames.{kind_number, kind_of, is_kind, suits_kind, frame_marks}
use Rattle.ft12_laws.specs.declared.fault.CharacterFault.TheVariants as character
use Rattle.ft12_laws.specs.declared.fault.Ft12Fault.TheVariants as fault
use Rattle.ft12_laws.specs.declared.kind.Kind.{Kind}
use Rattle.ft12_laws.specs.declared.kind.Kind.TheVariants.{Fixed, Variable, SingleE5, SingleA2}
use Rattle.ft12_laws.specs.declared.reading.Place.{Place}
use Rattle.ft12_laws.specs.declared.reading.Place.TheVariants as place

-- Characters in a frame.

-- the first character of a frame
abbrev pub judge_first : ℕ → Verdict
judge_first o = cond (o == 0x10) open_list (cond (o == 0x68) open_list (cond (o == 0xE5) (frame_of (kind_number SingleE5)) (cond (o == 0xA2) (frame_of (kind_number SingleA2)) (faulty fault.FirstCharacter))))

-- a character, told by its octet, at its position in a frame
abbrev pub judge : Place → ℕ → Verdict
judge place.First o = judge_first o
judge place.Length o = open_list
judge (place.Again l) o = cond (o == l) open_list (faulty fault.LengthsDiffer)
judge (place.Fourth l) o = cond (o == 0x68) open_list (faulty fault.FourthCharacter)
judge (place.User k left sum) o = tells o
judge (place.Sum k sum) o = cond (o == sum) open_list (faulty fault.Sum)
judge (place.End k) o = cond (o == 0x16) (frame_of (kind_number k)) (faulty fault.EndCharacter)

-- where so many user octets are to come, the sum so far being given
abbrev pub users : Kind → ℕ → ℕ → Place
users k zero sum = place.Sum k sum
users k (suc left) sum = place.User k left sum

-- the position behind a character, where the fixed length is given
abbrev pub next : ℕ → Place → ℕ → Place
next fixed place.First o = cond (o == 0x10) (users Fixed fixed 0) place.Length
next fixed place.Length o = place.Again o
next fixed (place.Again l) o = place.Fourth l
next fixed (place.Fourth l) o = users Variable l 0
next fixed (place.User k left sum) o = users k left ((sum + o) % 256)
next fixed (place.Sum k sum) o = place.End k
next fixed (place.End k) o = place.End k

-- Marks in a character.

abbrev pub judge_start : Mark → Verdict
judge_start Zero = open_list
judge_start One = faulty (fault.Character character.StartMark)
judge_start Bad = faulty (fault.Character (character.Line BadMark))

abbrev pub judge_data : Mark → Verdict
judge_data Zero = open_list
judge_data One = open_list
judge_data Bad = faulty (fault.Character (character.Line BadMark))

-- a parity mark, where the one that is due is given
abbrev pub judge_parity : Mark → Mark → Verdict
judge_parity due Bad = faulty (fault.Character (character.Line BadMark))
judge_parity Zero Zero = open_list
judge_parity One Zero = faulty (fault.Character character.ParityMark)
judge_parity Bad Zero = faulty (fault.Character character.ParityMark)
judge_parity Zero One = faulty (fault.Character character.ParityMark)
judge_parity One One = open_list
judge_parity Bad One = faulty (fault.Character character.ParityMark)

-- a stop mark; where it is accepted, the character is judged
abbrev pub judge_stop : Verdict → Mark → Verdict
judge_stop whole Zero = faulty (fault.Character character.StopMark)
judge_stop whole One = whole
judge_stop whole Bad = faulty (fault.Character (character.Line BadMark))

abbrev pub value : Mark → ℕ
value Zero = 0
value One = 1
value Bad = 0

-- the octet of eight data marks, lowest bit first
abbrev pub octet_of : Mark → Mark → Mark → Mark → Mark → Mark → Mark → Mark → ℕ
octet_of a b c d e f g h = value a + 2 * value b + 4 * value c + 8 * value d + 16 * value e + 32 * value f + 64 * value g + 128 * value h

-- A list of marks from the character at a position on: it is cut into characters of eleven marks, and its last mark is
-- judged by its part in the last of them.
abbrev pub judge_list : ℕ → Place → List Mark → Verdict
judge_list fixed p [] = open_list
judge_list fixed p (s ∷ []) = judge_start s
judge_list fixed p (s ∷ (a ∷ [])) = judge_data a
judge_list fixed p (s ∷ (a ∷ (b ∷ []))) = judge_data b
judge_list fixed p (s ∷ (a ∷ (b ∷ (c ∷ [])))) = judge_data c
judge_list fixed p (s ∷ (a ∷ (b ∷ (c ∷ (d ∷ []))))) = judge_data d
judge_list fixed p (s ∷ (a ∷ (b ∷ (c ∷ (d ∷ (e ∷ [])))))) = judge_data e
judge_list fixed p (s ∷ (a ∷ (b ∷ (c ∷ (d ∷ (e ∷ (f ∷ []))))))) = judge_data f
judge_list fixed p (s ∷ (a ∷ (b ∷ (c ∷ (d ∷ (e ∷ (f ∷ (g ∷ [])))))))) = judge_data g
judge_list fixed p (s ∷ (a ∷ (b ∷ (c ∷ (d ∷ (e ∷ (f ∷ (g ∷ (h ∷ []))))))))) = judge_data h
judge_list fixed p (s ∷ (a ∷ (b ∷ (c ∷ (d ∷ (e ∷ (f ∷ (g ∷ (h ∷ (i ∷ [])))))))))) = judge_parity (parity_mark (octet_of a b c d e f g h)) i
judge_list fixed p (s ∷ (a ∷ (b ∷ (c ∷ (d ∷ (e ∷ (f ∷ (g ∷ (h ∷ (i ∷ (t ∷ []))))))))))) = judge_stop (judge p (octet_of a b c d e f g h)) t
judge_list fixed p (s ∷ (a ∷ (b ∷ (c ∷ (d ∷ (e ∷ (f ∷ (g ∷ (h ∷ (i ∷ (t ∷ (n ∷ ms)))))))))))) = judge_list fixed (next fixed p (octet_of a b c d e f g h)) (n ∷ ms)

-- FT1.2 at a fixed length
abbrev pub ft12_model : ℕ → Model
ft12_model fixed = record {
  gap = 33;
  distance = 4;
  verdict = judge_list fixed place.First;
  known = λ kind. is_kind (kind_of kind);
  suits = λ kind n. suits_kind fixed (kind_of kind) n;
  headed = λ kind octets. true;
  frame = λ kind octets. frame_marks (kind_of kind) octets;
}
