-- Reading an octet, mark by mark.
use Rattle.std.proofs.Common.{◌≡◌, ℕ, zero, suc, ◌<◌, ◌≤◌, Bool, true, false, ◌⊎◌, List, [], ◌∷◌, ◌++◌, length, sym, refl, ap, ◌∙◌, subst, inl, inr, arith}
use Rattle.checks.specs.Bits.{bit}
use Rattle.lines.specs.Characters.{mark_if}
use Rattle.lines.specs.declared.mark.Mark.{Mark}
use Rattle.lines.specs.declared.mark.Mark.TheVariants.{Zero, One, Bad}
use Rattle.formats.specs.Machine.{Machine, Opened}
use Rattle.formats.specs.Verdicts.{Verdict, open_list, tells, frame_of, fault_of, Open, Fault, octet_told}
use Rattle.formats.proofs.Machines.{Breaks, BreaksBy, Judged, told}
use Rattle.ft2_laws.specs.Frames.{octet_marks}
use Rattle.ft2_laws.specs.Reading.{Place, beginning, ft2_machine, judge, judge_mark, moved_in, next}
use Rattle.ft2_laws.specs.declared.reading.Part.{Part}
use Rattle.ft2_laws.specs.declared.reading.Part.TheVariants.{First, Later}
use Rattle.ft2_laws.specs.declared.settings.Settings.{Settings}
use Rattle.ft2_laws.proofs.Bits.{HasBad, moved, moves_in, octet_or_bad}

-- every mark leaves the list open, from a verdict on, and at the last it is judged w
abbrev pub Along : {S : Type 0} → Machine S → Verdict → S → List Mark → Verdict → Type 0
Along t v s [] w = v ≡ w
Along t v s (m ∷ ms) w = Open v × Along t (t.says s m) (t.after s m) ms w

module _ {S : Type 0} (t : Machine S) where
  pub along_judged : (s : S) (m : Mark) (ms : List Mark) (w : Verdict) → Along t (t.says s m) (t.after s m) ms w → Judged t s (m ∷ ms) w
  along_judged s m [] w a = a
  along_judged s m (n ∷ ms) w a = (a.0, along_judged (t.after s m) n ms w a.1)

  pub judged_along : (s : S) (m : Mark) (ms : List Mark) (w : Verdict) → Judged t s (m ∷ ms) w → Along t (t.says s m) (t.after s m) ms w
  judged_along s m [] w j = j
  judged_along s m (n ∷ ms) w j = (j.0, judged_along (t.after s m) n ms w j.1)

  -- what comes to a frame or stays open does not break
  pub breaks_no_frame : (s : S) (ms : List Mark) (v : Verdict) (k : ℕ) → Breaks t s ms → Along t v s ms (frame_of k) → ⊥
  breaks_no_frame s [] v k b a = b
  breaks_no_frame s (m ∷ ms) v k (inl f) a = fault_no_frame (t.says s m) ms f a.1
    where
      fault_no_frame : (u : Verdict) (ns : List Mark) → Fault u → Along t u (t.after s m) ns (frame_of k) → ⊥
      fault_no_frame open_list ns f a = f
      fault_no_frame (tells o) ns f a = f
      fault_no_frame (frame_of n) ns f a = f
      fault_no_frame (fault_of c) [] f a = cc
      fault_no_frame (fault_of c) (n ∷ ns) f a = a.0
  breaks_no_frame s (m ∷ ms) v k (inr b) a = breaks_no_frame (t.after s m) ms (t.says s m) k b.1 a.1

  fault_not_open : (u : Verdict) → Fault u → Open u → ⊥
  fault_not_open open_list f o = f
  fault_not_open (tells x) f o = f
  fault_not_open (frame_of n) f o = f
  fault_not_open (fault_of c) f o = o

  pub breaks_not_open : (s : S) (ms : List Mark) → Breaks t s ms → Opened t s ms → ⊥
  breaks_not_open s [] b o = b
  breaks_not_open s (m ∷ ms) (inl f) o = fault_not_open (t.says s m) f o.0
  breaks_not_open s (m ∷ ms) (inr b) o = breaks_not_open (t.after s m) ms b.1 o.1

good_judged : (v : Verdict) (b : Bool) → judge_mark v (mark_if b) ≡ v
good_judged v true = refl
good_judged v false = refl

opens : (b : Bool) → Open (judge_mark open_list (mark_if b))
opens true = tt
opens false = tt

quiet : (b : Bool) (xs ys : List ℕ) → xs ≡ ys → octet_told (judge_mark open_list (mark_if b)) ++ xs ≡ ys
quiet true xs ys e = e
quiet false xs ys e = e

-- the verdict at the last mark of an octet
abbrev came : Place → ℕ → Verdict
came p o = judge_mark (judge p (moved 0 (octet_marks o))) (mark_if (bit o 0))

module _ (settings : Settings) where
  -- reading an octet's marks at a place is judging the octet there
  module _ (p : Place) (o : ℕ) (fits : o < 256) (rest : List Mark) where
    -- the octet that is judged, and the verdict on it
    judged : came p o ≡ judge p o
    judged = good_judged (judge p (moved 0 (octet_marks o))) (bit o 0) ∙ ap (judge p) (moves_in o fits)

    gone : next settings p (moved 0 (octet_marks o)) ≡ next settings p o
    gone = ap (next settings p) (moves_in o fits)

    pub octet_along : (v w : Verdict) → Open v → Along (ft2_machine settings) (judge p o) (beginning (next settings p o)) rest w → Along (ft2_machine settings) v (beginning p) (octet_marks o ++ rest) w
    octet_along v w a j =
        let end = subst (λ q. Along (ft2_machine settings) (came p o) (beginning q) rest w) (sym gone) (subst (λ u. Along (ft2_machine settings) u (beginning (next settings p o)) rest w) (sym judged) j) in
        (a, (opens (bit o 7), (opens (bit o 6), (opens (bit o 5), (opens (bit o 4), (opens (bit o 3), (opens (bit o 2), (opens (bit o 1), end))))))))

    pub along_octet : (v w : Verdict) → Along (ft2_machine settings) v (beginning p) (octet_marks o ++ rest) w → Open v × Along (ft2_machine settings) (judge p o) (beginning (next settings p o)) rest w
    along_octet v w a =
        let end = a.1.1.1.1.1.1.1.1 in
        (a.0, subst (λ q. Along (ft2_machine settings) (judge p o) (beginning q) rest w) gone (subst (λ u. Along (ft2_machine settings) u (beginning (next settings p (moved 0 (octet_marks o)))) rest w) judged end))

    pub octet_breaks : BreaksBy (judge p o) (Breaks (ft2_machine settings) (beginning (next settings p o)) rest) → Breaks (ft2_machine settings) (beginning p) (octet_marks o ++ rest)
    octet_breaks b =
        let end = subst (λ q. BreaksBy (came p o) (Breaks (ft2_machine settings) (beginning q) rest)) (sym gone) (subst (λ u. BreaksBy u (Breaks (ft2_machine settings) (beginning (next settings p o)) rest)) (sym judged) b) in
        inr (opens (bit o 7), inr (opens (bit o 6), inr (opens (bit o 5), inr (opens (bit o 4), inr (opens (bit o 3), inr (opens (bit o 2), inr (opens (bit o 1), end)))))))

    pub octet_opened : Opened (ft2_machine settings) (beginning p) (octet_marks o ++ rest) → Open (judge p o) × Opened (ft2_machine settings) (beginning (next settings p o)) rest
    octet_opened a =
        let end = a.1.1.1.1.1.1.1 in
        (subst Open judged end.0, subst (λ q. Opened (ft2_machine settings) (beginning q) rest) gone end.1)

    pub octet_tells : told (ft2_machine settings) (beginning p) (octet_marks o ++ rest) ≡ octet_told (judge p o) ++ told (ft2_machine settings) (beginning (next settings p o)) rest
    octet_tells =
        let end = ap (λ u. octet_told u ++ told (ft2_machine settings) (beginning (next settings p (moved 0 (octet_marks o)))) rest) judged ∙ ap (λ q. octet_told (judge p o) ++ told (ft2_machine settings) (beginning q) rest) gone in
        quiet (bit o 7) _ _ (quiet (bit o 6) _ _ (quiet (bit o 5) _ _ (quiet (bit o 4) _ _ (quiet (bit o 3) _ _ (quiet (bit o 2) _ _ (quiet (bit o 1) _ _ end))))))

  -- how many marks of the octet come after the next one
  abbrev pub left_of : Part → ℕ
  left_of First = 7
  left_of (Later left o) = left

  -- a bad mark in an octet breaks
  pub bad_breaks : (p : Place) (a : Part) (ms rest : List Mark) → length ms ≤ suc (left_of a) → HasBad ms → Breaks (ft2_machine settings) (record { place = p; part = a }) (ms ++ rest)
  bad_breaks p a [] rest l b = absurd b
  bad_breaks p First (Bad ∷ ms) rest l b = inl tt
  bad_breaks p (Later zero o) (Bad ∷ ms) rest l b = inl tt
  bad_breaks p (Later (suc n) o) (Bad ∷ ms) rest l b = inl tt
  bad_breaks p First (Zero ∷ ms) rest l b = inr (tt, bad_breaks p (Later 6 (moved_in 0 Zero)) ms rest (omega arith) b)
  bad_breaks p First (One ∷ ms) rest l b = inr (tt, bad_breaks p (Later 6 (moved_in 0 One)) ms rest (omega arith) b)
  bad_breaks p (Later zero o) (Zero ∷ []) rest l b = absurd b
  bad_breaks p (Later zero o) (One ∷ []) rest l b = absurd b
  bad_breaks p (Later zero o) (Zero ∷ (n ∷ ms)) rest l b = absurd (omega arith)
  bad_breaks p (Later zero o) (One ∷ (n ∷ ms)) rest l b = absurd (omega arith)
  bad_breaks p (Later (suc n) o) (Zero ∷ ms) rest l b = inr (tt, bad_breaks p (Later n (moved_in o Zero)) ms rest (omega arith) b)
  bad_breaks p (Later (suc n) o) (One ∷ ms) rest l b = inr (tt, bad_breaks p (Later n (moved_in o One)) ms rest (omega arith) b)

  -- eight marks break, or are an octet
  pub octet_or_breaks : (p : Place) (ms rest : List Mark) → length ms ≡ 8 → Breaks (ft2_machine settings) (beginning p) (ms ++ rest) ⊎ ((o : ℕ) × (o < 256) × (ms ≡ octet_marks o))
  octet_or_breaks p ms rest l = elim (octet_or_bad ms l) [ inl o ↦ inr o | inr b ↦ inl (bad_breaks p First ms rest (omega arith) b) ]

  mark_no_frame : (m : Mark) (k : ℕ) → judge_mark open_list m ≡ frame_of k → ⊥
  mark_no_frame Zero k e = cc
  mark_no_frame One k e = cc
  mark_no_frame Bad k e = cc

  -- fewer than eight marks come to no frame, and tell nothing
  pub short_no_frame : (p : Place) (a : Part) (m : Mark) (ms : List Mark) (v : Verdict) (k : ℕ) → length (m ∷ ms) ≤ left_of a → Along (ft2_machine settings) v (record { place = p; part = a }) (m ∷ ms) (frame_of k) → ⊥
  short_no_frame p First m [] v k l a = mark_no_frame m k a.1
  short_no_frame p First m (n ∷ ms) v k l a = short_no_frame p (Later 6 (moved_in 0 m)) n ms (judge_mark open_list m) k (omega arith) a.1
  short_no_frame p (Later zero o) m ms v k l a = absurd (omega arith)
  short_no_frame p (Later (suc left) o) m [] v k l a = mark_no_frame m k a.1
  short_no_frame p (Later (suc left) o) m (n ∷ ms) v k l a = short_no_frame p (Later left (moved_in o m)) n ms (judge_mark open_list m) k (omega arith) a.1

  silent : (m : Mark) (xs : List ℕ) → xs ≡ [] → octet_told (judge_mark open_list m) ++ xs ≡ []
  silent Zero xs e = e
  silent One xs e = e
  silent Bad xs e = e

  pub short_tells : (p : Place) (a : Part) (ms : List Mark) → length ms ≤ left_of a → told (ft2_machine settings) (record { place = p; part = a }) ms ≡ []
  short_tells p a [] l = refl
  short_tells p First (m ∷ ms) l = silent m _ (short_tells p (Later 6 (moved_in 0 m)) ms (omega arith))
  short_tells p (Later zero o) (m ∷ ms) l = absurd (omega arith)
  short_tells p (Later (suc left) o) (m ∷ ms) l = silent m _ (short_tells p (Later left (moved_in o m)) ms (omega arith))

-- a list cut into eights, and fewer than eight at the end
pub data Cut : List Mark → Type 0 where
  short : {ms : List Mark} → length ms < 8 → Cut ms
  whole : (ms : List Mark) {rest : List Mark} → length ms ≡ 8 → Cut rest → Cut (ms ++ rest)

pub cut : (ms : List Mark) → Cut ms
cut [] = short (omega arith)
cut (a ∷ []) = short (omega arith)
cut (a ∷ (b ∷ [])) = short (omega arith)
cut (a ∷ (b ∷ (c ∷ []))) = short (omega arith)
cut (a ∷ (b ∷ (c ∷ (d ∷ [])))) = short (omega arith)
cut (a ∷ (b ∷ (c ∷ (d ∷ (e ∷ []))))) = short (omega arith)
cut (a ∷ (b ∷ (c ∷ (d ∷ (e ∷ (f ∷ [])))))) = short (omega arith)
cut (a ∷ (b ∷ (c ∷ (d ∷ (e ∷ (f ∷ (g ∷ []))))))) = short (omega arith)
cut (a ∷ (b ∷ (c ∷ (d ∷ (e ∷ (f ∷ (g ∷ (h ∷ ms)))))))) = whole (a ∷ (b ∷ (c ∷ (d ∷ (e ∷ (f ∷ (g ∷ (h ∷ [])))))))) refl (cut ms)
