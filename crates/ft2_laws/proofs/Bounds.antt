-- An open list is shorter than a gap.
use Rattle.std.proofs.Common.{◌≡◌, ℕ, zero, suc, ◌+◌, ◌-◌, ◌*◌, ◌/◌, ◌<◌, ◌≤◌, min, max, Bool, true, false, cond, eqb, ltb, ◌⊎◌, List, [], ◌∷◌, ◌++◌, length, refl, ap, ◌∙◌, subst, inl, inr, arith, length-append}
use Rattle.std.proofs.lemmas.Bool.{cases_lt, cond-true, lt-ltb}
use Rattle.lines.specs.declared.mark.Mark.{Mark}
use Rattle.formats.specs.Machine.{Machine, Opened}
use Rattle.formats.specs.Verdicts.{Verdict, open_list, tells, frame_of, fault_of, Open, octet_told}
use Rattle.formats.proofs.Machines.{Breaks, Judged, told}
use Rattle.ft2_laws.specs.Faults.{faulty}
use Rattle.ft2_laws.specs.Frames.{check_of, first_octet, octet_marks}
use Rattle.ft2_laws.specs.Reading.{Place, start, user, check, users, after_block, fixed_block, judge, judge_block, next, beginning, ft2_machine}
use Rattle.ft2_laws.specs.declared.fault.Ft2Fault.TheVariants as fault
use Rattle.ft2_laws.specs.declared.reading.Block.{Block}
use Rattle.ft2_laws.specs.declared.reading.Block.TheVariants.{Fixed, Header, Body}
use Rattle.ft2_laws.specs.declared.reading.Part.TheVariants.{First}
use Rattle.ft2_laws.specs.declared.settings.Settings.{Settings}
use Rattle.ft2_laws.proofs.Steps.{Cut, short, whole, breaks_not_open, octet_opened, octet_or_breaks, octet_tells, short_tells}

-- how many octets come after a block and its check octet, at most
abbrev later : Block → ℕ
later (Fixed left) = left + (left + 14) / 15
later Header = 16
later Body = 0

-- how many octets are still to come at a place, at most
abbrev pub to_come : Settings → Place → ℕ
to_come settings start = max settings.fixed (settings.header + 15) + 3
to_come settings (user b os left) = left + 2 + later b
to_come settings (check b os) = 1 + later b

told_few : (v : Verdict) → length (octet_told v) ≤ 1
told_few open_list = omega arith
told_few (tells o) = omega arith
told_few (frame_of k) = omega arith
told_few (fault_of c) = omega arith

module _ (settings : Settings) where
  some_to_come : (p : Place) → 1 ≤ to_come settings p
  some_to_come start = omega arith
  some_to_come (user b os left) = omega arith
  some_to_come (check b os) = omega arith

  users_to_come : (b : Block) (os : List ℕ) (n : ℕ) → to_come settings (users b os n) ≡ n + 1 + later b
  users_to_come b os zero = omega arith
  users_to_come b os (suc n) = omega arith

  fixed_to_come_some : (n : ℕ) → 1 ≤ n → to_come settings (fixed_block n) ≤ n + (n + 14) / 15
  fixed_to_come_some n h = let e = users_to_come (Fixed (n - 15)) [] (min n 15) in omega arith

  block_closer : (b : Block) (os : List ℕ) → Open (judge_block b os) → to_come settings (after_block b os) ≤ later b
  block_closer (Fixed zero) os a = absurd a
  block_closer (Fixed (suc left)) os a = fixed_to_come_some (suc left) (omega arith)
  block_closer Body os a = absurd a
  block_closer Header os a = go (cases_lt 15 (first_octet os))
    where
      n : ℕ
      n = first_octet os

      go : (15 < n) ⊎ (n ≤ 15) → to_come settings (users Body [] n) ≤ 16
      go (inl many) = absurd (subst Open (cond-true (ltb 15 n) (faulty fault.BodyCount) (cond (eqb n 0) (frame_of 2) open_list) (lt-ltb 15 n many)) a)
      go (inr few) = let e = users_to_come Body [] n in omega arith

  -- an octet that leaves the list open brings the end nearer
  closer : (p : Place) (o : ℕ) → Open (judge p o) → to_come settings (next settings p o) < to_come settings p
  closer start o a = go (eqb o 0x27)
    where
      go : (t : Bool) → to_come settings (cond t (fixed_block settings.fixed) (users Header [] settings.header)) < max settings.fixed (settings.header + 15) + 3
      go true = let e = fixed_to_come_some settings.fixed settings.limits.0 in omega arith
      go false = let e = users_to_come Header [] settings.header in omega arith
  closer (user b os left) o a = let e = users_to_come b (os ++ (o ∷ [])) left in omega arith
  closer (check b os) o a = go (eqb o (check_of os)) a
    where
      go : (t : Bool) → Open (cond t (judge_block b os) (faulty fault.CheckOctet)) → to_come settings (after_block b os) < 1 + later b
      go true a = let e = block_closer b os a in omega arith
      go false a = absurd a

  -- an open list has fewer marks than the octets to come have, and tells at most an octet for each eight
  pub open_bounds : {ms : List Mark} → Cut ms → (p : Place) → Opened (ft2_machine settings) (beginning p) ms → (length ms < 8 * to_come settings p) × (8 * length (told (ft2_machine settings) (beginning p) ms) ≤ length ms)
  open_bounds (short {ms} l) p a =
      let some = some_to_come p in
      let none : length (told (ft2_machine settings) (beginning p) ms) ≡ 0 = ap length (short_tells settings p First ms (omega arith)) in
      (omega arith, omega arith)
  open_bounds (whole ms {rest} l c) p a = go (octet_or_breaks settings p ms rest l) (open_bounds c)
    where
      go : Breaks (ft2_machine settings) (beginning p) (ms ++ rest) ⊎ ((o : ℕ) × (o < 256) × (ms ≡ octet_marks o))
          → ((p : Place) → Opened (ft2_machine settings) (beginning p) rest → (length rest < 8 * to_come settings p) × (8 * length (told (ft2_machine settings) (beginning p) rest) ≤ length rest))
          → (length (ms ++ rest) < 8 * to_come settings p) × (8 * length (told (ft2_machine settings) (beginning p) (ms ++ rest)) ≤ length (ms ++ rest))
      go (inl b) more = absurd (breaks_not_open (ft2_machine settings) (beginning p) (ms ++ rest) b a)
      go (inr (o, fits, is)) more =
          let here = octet_opened settings p o fits rest (subst (λ x. Opened (ft2_machine settings) (beginning p) (x ++ rest)) is a) in
          let less = closer p o here.0 in
          let rests = more (next settings p o) here.1 in
          let count = length-append ms rest in
          let few = told_few (judge p o) in
          let telling : length (told (ft2_machine settings) (beginning p) (ms ++ rest)) ≡ length (octet_told (judge p o)) + length (told (ft2_machine settings) (beginning (next settings p o)) rest) =
          ap (λ x. length (told (ft2_machine settings) (beginning p) (x ++ rest))) is ∙ ap length (octet_tells settings p o fits rest) ∙ length-append (octet_told (judge p o)) (told (ft2_machine settings) (beginning (next settings p o)) rest) in
          (omega (arith, rests.0), omega (arith, rests.1))

-- before its last mark a list that is judged was open
pub judged_front : {S : Type 0} (t : Machine S) (s : S) (ms : List Mark) (w : Verdict) → Judged t s ms w → (front : List Mark) × (length ms ≡ suc (length front)) × Opened t s front
judged_front t s [] w j = absurd j
judged_front t s (m ∷ []) w j = ([], refl, tt)
judged_front t s (m ∷ (n ∷ ms)) w j = let (front, count, o) = judged_front t (t.after s m) (n ∷ ms) w j.1 in (m ∷ front, ap suc count, (j.0, o))
