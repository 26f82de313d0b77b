-- How long a list stays open, what it tells, and that a gap closes it.
use Rattle.std.proofs.Common.{◌≡◌, ℕ, zero, suc, ◌+◌, ◌*◌, ◌%◌, ◌<◌, ◌≤◌, Bool, true, false, cond, eqb, List, [], ◌∷◌, length, refl, subst, arith, lit<, lit≤, length-append}
use Rattle.std.proofs.lemmas.Bool.{cond_both}
use Rattle.lines.specs.Characters.{parity_mark}
use Rattle.lines.specs.declared.mark.Mark.{Mark}
use Rattle.lines.specs.declared.mark.Mark.TheVariants.{Zero, One, Bad}
use Rattle.formats.specs.Machine.{reached, Opened}
use Rattle.formats.specs.Marks.{Begins, ones}
use Rattle.formats.specs.Verdicts.{open_list, frame_of, Open, octet_told}
use Rattle.formats.proofs.Machines.{told}
use Rattle.ft12_laws.specs.Faults.{faulty}
use Rattle.ft12_laws.specs.Frames.{kind_number}
use Rattle.ft12_laws.specs.Machine.{after_at, beginning, ft12_machine, moved_in, says_at}
use Rattle.ft12_laws.specs.Reading.{judge, judge_start, judge_data, judge_parity, next, users, value}
use Rattle.ft12_laws.specs.declared.fault.Ft12Fault.{Ft12Fault}
use Rattle.ft12_laws.specs.declared.fault.Ft12Fault.TheVariants as fault
use Rattle.ft12_laws.specs.declared.kind.Kind.{Kind}
use Rattle.ft12_laws.specs.declared.kind.Kind.TheVariants.{Fixed, Variable}
use Rattle.ft12_laws.specs.declared.reading.Place.{Place}
use Rattle.ft12_laws.specs.declared.reading.Place.TheVariants as place
use Rattle.ft12_laws.specs.declared.reading.Part.{Part}
use Rattle.ft12_laws.specs.declared.reading.Part.TheVariants as part
use Rattle.ft12_laws.specs.declared.reading.Reading.{Reading}

-- a part of a character as it is reached
abbrev pub Sound : Part → Type 0
Sound part.Start = Unit {0}
Sound (part.Bit left o) = (left ≤ 7) × (o < 256)
Sound (part.Parity o) = o < 256
Sound (part.Stop o) = o < 256

value_below : (m : Mark) → value m ≤ 1
value_below Zero = lit≤ tt
value_below One = lit≤ tt
value_below Bad = lit≤ tt

moved_fits : (o : ℕ) (m : Mark) → o < 256 → moved_in o m < 256
moved_fits o m h = let v = value_below m in omega arith

pub sound_after : (fixed : ℕ) (p : Place) (t : Part) (m : Mark) → Sound t → Sound (after_at fixed p t m).part
sound_after fixed p part.Start m h = (lit≤ tt, lit< tt)
sound_after fixed p (part.Bit zero o) m h = moved_fits o m h.1
sound_after fixed p (part.Bit (suc left) o) m h = (omega arith, moved_fits o m h.1)
sound_after fixed p (part.Parity o) m h = h
sound_after fixed p (part.Stop o) m h = tt

pub sound_reached : (fixed : ℕ) (s : Reading) (ms : List Mark) → Sound s.part → Sound (reached (ft12_machine fixed) s ms).part
sound_reached fixed s [] h = h
sound_reached fixed s (m ∷ ms) h = sound_reached fixed (after_at fixed s.place s.part m) ms (sound_after fixed s.place s.part m h)

-- A gap closes every list.

module _ (fixed : ℕ) (p : Place) where
  bit_closes : (left o : ℕ) → left ≤ 7 → Opened (ft12_machine fixed) (record { place = p; part = part.Bit left o }) (ones 33) → ⊥
  bit_closes zero o h a = a.1.1.1.0
  bit_closes (suc zero) o h a = a.1.1.1.1.0
  bit_closes (suc (suc zero)) o h a = a.1.1.1.1.1.0
  bit_closes (suc (suc (suc zero))) o h a = a.1.1.1.1.1.1.0
  bit_closes (suc (suc (suc (suc zero)))) o h a = a.1.1.1.1.1.1.1.0
  bit_closes (suc (suc (suc (suc (suc zero))))) o h a = a.1.1.1.1.1.1.1.1.0
  bit_closes (suc (suc (suc (suc (suc (suc zero)))))) o h a = a.1.1.1.1.1.1.1.1.1.0
  bit_closes (suc (suc (suc (suc (suc (suc (suc zero))))))) o h a = a.1.1.1.1.1.1.1.1.1.1.0
  bit_closes (suc (suc (suc (suc (suc (suc (suc (suc left)))))))) o h a = omega arith

  pub gap_closes_at : (t : Part) → Sound t → Opened (ft12_machine fixed) (record { place = p; part = t }) (ones 33) → ⊥
  gap_closes_at part.Start h a = a.0
  gap_closes_at (part.Bit left o) h a = bit_closes left o h.0 a
  gap_closes_at (part.Parity o) h a = a.1.1.0
  gap_closes_at (part.Stop o) h a = a.1.0

-- What is still to come.

-- characters behind the one at a place, at most
abbrev characters_left : Place → ℕ
characters_left place.First = 260
characters_left place.Length = 259
characters_left (place.Again l) = l + 3
characters_left (place.Fourth l) = l + 2
characters_left (place.User k left sum) = left + 2
characters_left (place.Sum k sum) = 1
characters_left (place.End k) = 0

-- user octets to come, at most
abbrev users_left : Place → ℕ
users_left place.First = 255
users_left place.Length = 255
users_left (place.Again l) = l
users_left (place.Fourth l) = l
users_left (place.User k left sum) = left + 1
users_left (place.Sum k sum) = 0
users_left (place.End k) = 0

abbrev marks_left : Part → ℕ
marks_left part.Start = 11
marks_left (part.Bit left o) = left + 3
marks_left (part.Parity o) = 2
marks_left (part.Stop o) = 1

users_characters : (k : Kind) (n s : ℕ) → characters_left (users k n s) ≡ n + 1
users_characters k zero s = refl
users_characters k (suc n) s = omega arith

users_users : (k : Kind) (n s : ℕ) → users_left (users k n s) ≡ n
users_users k zero s = refl
users_users k (suc n) s = omega arith

no_open_end : (b : Bool) (n : ℕ) (f : Ft12Fault) → Open (cond b (frame_of n) (faulty f)) → ⊥
no_open_end true n f o = o
no_open_end false n f o = o

silent : (b : Bool) (f : Ft12Fault) → length (octet_told (cond b open_list (faulty f))) ≡ 0
silent true f = refl
silent false f = refl

silent_start : (m : Mark) → length (octet_told (judge_start m)) ≡ 0
silent_start Zero = refl
silent_start One = refl
silent_start Bad = refl

silent_data : (m : Mark) → length (octet_told (judge_data m)) ≡ 0
silent_data Zero = refl
silent_data One = refl
silent_data Bad = refl

silent_parity : (due m : Mark) → length (octet_told (judge_parity due m)) ≡ 0
silent_parity due Bad = refl
silent_parity Zero Zero = refl
silent_parity One Zero = refl
silent_parity Bad Zero = refl
silent_parity Zero One = refl
silent_parity One One = refl
silent_parity Bad One = refl

silent_first : (a b c d : Bool) (m n : ℕ) (f : Ft12Fault) → length (octet_told (cond a open_list (cond b open_list (cond c (frame_of m) (cond d (frame_of n) (faulty f)))))) ≡ 0
silent_first true b c d m n f = refl
silent_first false true c d m n f = refl
silent_first false false true d m n f = refl
silent_first false false false true m n f = refl
silent_first false false false false m n f = refl

module _ (fixed : ℕ) (small : fixed < 256) where
  next_less : (p : Place) (o : ℕ) → o < 256 → Open (judge p o) → (suc (characters_left (next fixed p o)) ≤ characters_left p) × (length (octet_told (judge p o)) + users_left (next fixed p o) ≤ users_left p)
  next_less place.First o h a =
      let quiet = silent_first (eqb o 0x10) (eqb o 0x68) (eqb o 0xE5) (eqb o 0xA2) 3 4 fault.FirstCharacter in
      let many = users_characters Fixed fixed 0 in
      let users_many = users_users Fixed fixed 0 in
      let next_is = cond_both (eqb o 0x10) (users Fixed fixed 0) place.Length (λ q. (suc (characters_left q) ≤ 260) × (users_left q ≤ 255)) (λ e. (omega arith, omega arith)) (λ e. (lit≤ tt, lit≤ tt)) in
      (next_is.0, omega arith)
  next_less place.Length o h a = (omega arith, omega arith)
  next_less (place.Again l) o h a = let quiet = silent (eqb o l) fault.LengthsDiffer in (omega arith, omega arith)
  next_less (place.Fourth l) o h a =
      let quiet = silent (eqb o 0x68) fault.FourthCharacter in
      let many = users_characters Variable l 0 in
      let users_many = users_users Variable l 0 in
      (omega arith, omega arith)
  next_less (place.User k left sum) o h a =
      let many = users_characters k left ((sum + o) % 256) in
      let users_many = users_users k left ((sum + o) % 256) in
      (omega arith, omega arith)
  next_less (place.Sum k sum) o h a = let quiet = silent (eqb o sum) fault.Sum in (omega arith, omega arith)
  next_less (place.End k) o h a = absurd (no_open_end (eqb o 0x16) (kind_number k) fault.EndCharacter a)

  all_left : Place → Part → ℕ
  all_left p t = marks_left t + 11 * characters_left p

  step_less : (p : Place) (t : Part) (m : Mark) → Sound t → Open (says_at p t m)
      → (suc (all_left (after_at fixed p t m).place (after_at fixed p t m).part) ≤ all_left p t) × (length (octet_told (says_at p t m)) + users_left (after_at fixed p t m).place ≤ users_left p)
  unfolding all_left
  step_less p part.Start m h a = let quiet = silent_start m in (omega arith, omega arith)
  step_less p (part.Bit zero o) m h a = let quiet = silent_data m in (omega arith, omega arith)
  step_less p (part.Bit (suc left) o) m h a = let quiet = silent_data m in (omega arith, omega arith)
  step_less p (part.Parity o) m h a = let quiet = silent_parity (parity_mark o) m in (omega arith, omega arith)
  step_less p (part.Stop o) Zero h a = absurd a
  step_less p (part.Stop o) One h a = let less = next_less p o h a in (omega (arith, less.0), less.1)
  step_less p (part.Stop o) Bad h a = absurd a

  lasts : (s : Reading) (ms : List Mark) → Sound s.part → Opened (ft12_machine fixed) s ms → (length ms ≤ all_left s.place s.part) × (length (told (ft12_machine fixed) s ms) ≤ users_left s.place)
  lasts s [] h a = (omega arith, omega arith)
  lasts s (m ∷ ms) h a =
      let less = step_less s.place s.part m h a.0 in
      let rest = lasts (after_at fixed s.place s.part m) ms (sound_after fixed s.place s.part m h) a.1 in
      let sum = length-append (octet_told (says_at s.place s.part m)) (told (ft12_machine fixed) (after_at fixed s.place s.part m) ms) in
      (omega (arith, rest.0, less.0), omega (arith, sum, rest.1, less.1))

  pub few_marks : (ms : List Mark) → Opened (ft12_machine fixed) (beginning place.First) ms → length ms < 65535
  unfolding all_left
  few_marks ms a = let n = (lasts (beginning place.First) ms tt a).0 in omega arith

  pub few_octets : (ms : List Mark) → Opened (ft12_machine fixed) (beginning place.First) ms → length (told (ft12_machine fixed) (beginning place.First) ms) ≤ 255
  few_octets ms a = (lasts (beginning place.First) ms tt a).1

-- An open list is no longer at its beginning.

abbrev Beyond : Place → Type 0
Beyond place.First = ⊥
Beyond place.Length = Unit {0}
Beyond (place.Again l) = Unit {0}
Beyond (place.Fourth l) = Unit {0}
Beyond (place.User k left sum) = Unit {0}
Beyond (place.Sum k sum) = Unit {0}
Beyond (place.End k) = Unit {0}

abbrev Moving : Place → Part → Type 0
Moving p part.Start = Beyond p
Moving p (part.Bit left o) = Unit {0}
Moving p (part.Parity o) = Unit {0}
Moving p (part.Stop o) = Unit {0}

users_beyond : (k : Kind) (n s : ℕ) → Beyond (users k n s)
users_beyond k zero s = tt
users_beyond k (suc n) s = tt

next_beyond : (fixed : ℕ) (p : Place) (o : ℕ) → Beyond (next fixed p o)
next_beyond fixed place.First o = cond_both (eqb o 0x10) (users Fixed fixed 0) place.Length Beyond (λ e. users_beyond Fixed fixed 0) (λ e. tt)
next_beyond fixed place.Length o = tt
next_beyond fixed (place.Again l) o = tt
next_beyond fixed (place.Fourth l) o = users_beyond Variable l 0
next_beyond fixed (place.User k left sum) o = users_beyond k left ((sum + o) % 256)
next_beyond fixed (place.Sum k sum) o = tt
next_beyond fixed (place.End k) o = tt

step_moving : (fixed : ℕ) (p : Place) (t : Part) (m : Mark) → Moving (after_at fixed p t m).place (after_at fixed p t m).part
step_moving fixed p part.Start m = tt
step_moving fixed p (part.Bit zero o) m = tt
step_moving fixed p (part.Bit (suc left) o) m = tt
step_moving fixed p (part.Parity o) m = tt
step_moving fixed p (part.Stop o) m = next_beyond fixed p o

moving_on : (fixed : ℕ) (s : Reading) (m : Mark) (ms : List Mark) → Moving (reached (ft12_machine fixed) s (m ∷ ms)).place (reached (ft12_machine fixed) s (m ∷ ms)).part
moving_on fixed s m [] = step_moving fixed s.place s.part m
moving_on fixed s m (n ∷ ms) = moving_on fixed (after_at fixed s.place s.part m) n ms

pub leaves : (fixed : ℕ) (ms : List Mark) → Begins ms → Opened (ft12_machine fixed) (beginning place.First) ms → reached (ft12_machine fixed) (beginning place.First) ms ≡ beginning place.First → ⊥
leaves fixed [] b a e = b
leaves fixed (m ∷ ms) b a e = subst (λ s. Moving s.place s.part) e (moving_on fixed (beginning place.First) m ms)
