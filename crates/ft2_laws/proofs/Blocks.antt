-- Frames as octets: blocks one after the other.
use Rattle.std.proofs.Common.{◌≡◌, ℕ, zero, suc, ◌<◌, Bool, true, false, cond, eqb, ltb, ◌⊎◌, List, [], ◌∷◌, ◌++◌, length, sym, refl, ap, ◌∙◌, subst, inl, inr, append_assoc, arith}
use Rattle.std.proofs.lemmas.List.{append-nil}
use Rattle.std.proofs.lemmas.Bool.{cases_eq, eq-eqb, ne_eqb, cond-true, cond-false}
use Rattle.checks.specs.Bits.{block_bits}
use Rattle.checks.proofs.Octets.{check_octet_lt}
use Rattle.lines.specs.declared.mark.Mark.{Mark}
use Rattle.formats.specs.Laws.{Octets}
use Rattle.formats.specs.Verdicts.{Cause, Verdict, open_list, tells, frame_of, fault_of, Open, octet_told}
use Rattle.formats.proofs.Machines.{Breaks, told}
use Rattle.formats.proofs.Octets.{octets_join}
use Rattle.ft2_laws.specs.Faults.{faulty}
use Rattle.ft2_laws.specs.Frames.{check_of, first_octet, marks_of, octet_marks, with_check}
use Rattle.ft2_laws.specs.Reading.{Place, check, users, after_block, judge, judge_block, next, beginning, ft2_machine}
use Rattle.ft2_laws.specs.declared.fault.Ft2Fault.{Ft2Fault}
use Rattle.ft2_laws.specs.declared.fault.Ft2Fault.TheVariants as fault
use Rattle.ft2_laws.specs.declared.reading.Block.{Block}
use Rattle.ft2_laws.specs.declared.reading.Block.TheVariants.{Fixed, Header, Body}
use Rattle.ft2_laws.specs.declared.reading.Part.TheVariants.{First}
use Rattle.ft2_laws.specs.declared.settings.Settings.{Settings}
use Rattle.ft2_laws.proofs.Steps.{Along, Cut, short, whole, octet_along, along_octet, octet_tells, octet_or_breaks, breaks_no_frame, short_no_frame}

-- Numbers that are octets.

pub octets_front : (os ps : List ℕ) → Octets (os ++ ps) → Octets os
octets_front [] ps a = tt
octets_front (o ∷ os) ps a = (a.0, octets_front os ps a.1)

pub octets_back : (os ps : List ℕ) → Octets (os ++ ps) → Octets ps
octets_back [] ps a = a
octets_back (o ∷ os) ps a = octets_back os ps a.1

pub octets_checked : (os : List ℕ) → Octets os → Octets (with_check os)
octets_checked os a = octets_join os (check_of os ∷ []) a (check_octet_lt (block_bits os), tt)

-- Verdicts apart.

pub open_no_frame : (n : ℕ) → open_list ≡ frame_of n → ⊥
open_no_frame n e = cc

pub tells_no_frame : (o n : ℕ) → tells o ≡ frame_of n → ⊥
tells_no_frame o n e = cc

pub fault_no_frame : (c : Cause) (n : ℕ) → fault_of c ≡ frame_of n → ⊥
fault_no_frame c n e = cc

pub same_frame : (k n : ℕ) → frame_of k ≡ frame_of n → n ≡ k
same_frame k n e = cc

-- An octet that must be a certain one.

pub due_verdict : (o d : ℕ) (v : Verdict) (f : Ft2Fault) → o ≡ d → cond (eqb o d) v (faulty f) ≡ v
due_verdict o d v f e = cond-true (eqb o d) v (faulty f) (eq-eqb o d e)

pub due_fault : (o d : ℕ) (v : Verdict) (f : Ft2Fault) → (o ≡ d → ⊥) → cond (eqb o d) v (faulty f) ≡ faulty f
due_fault o d v f n = cond-false (eqb o d) v (faulty f) (ne_eqb o d n)

silent_count : (a b : Bool) → octet_told (cond a (faulty fault.BodyCount) (cond b (frame_of 2) open_list)) ≡ []
silent_count true b = refl
silent_count false true = refl
silent_count false false = refl

silent_block : (b : Block) (os : List ℕ) → octet_told (judge_block b os) ≡ []
silent_block (Fixed zero) os = refl
silent_block (Fixed (suc left)) os = refl
silent_block Header os = silent_count (ltb 15 (first_octet os)) (eqb (first_octet os) 0)
silent_block Body os = refl

-- a check octet tells nothing
pub silent_check : (b : Block) (os : List ℕ) (o : ℕ) → octet_told (judge (check b os) o) ≡ []
silent_check b os o = go (eqb o (check_of os))
  where
    go : (t : Bool) → octet_told (cond t (judge_block b os) (faulty fault.CheckOctet)) ≡ []
    go true = silent_block b os
    go false = refl

module _ (settings : Settings) where
  -- from a verdict on, every octet but the last leaves the frame open, and at the last it is judged w
  abbrev pub Then : Verdict → Place → List ℕ → Verdict → Type 0
  Then v p [] w = v ≡ w
  Then v p (o ∷ os) w = Open v × Then (judge p o) (next settings p o) os w

  -- the user octets among octets
  abbrev pub told_of : Place → List ℕ → List ℕ
  told_of p [] = []
  told_of p (o ∷ os) = octet_told (judge p o) ++ told_of (next settings p o) os

  -- Octets and their marks.

  pub octets_along : (v : Verdict) (p : Place) (os : List ℕ) (w : Verdict) → Octets os → Then v p os w → Along (ft2_machine settings) v (beginning p) (marks_of os) w
  octets_along v p [] w a t = t
  octets_along v p (o ∷ os) w a t =
      octet_along settings p o a.0 (marks_of os) v w t.0 (octets_along (judge p o) (next settings p o) os w a.1 t.1)

  pub octets_told : (p : Place) (os : List ℕ) → Octets os → told (ft2_machine settings) (beginning p) (marks_of os) ≡ told_of p os
  octets_told p [] a = refl
  octets_told p (o ∷ os) a =
      octet_tells settings p o a.0 (marks_of os) ∙ ap (λ ts. octet_told (judge p o) ++ ts) (octets_told (next settings p o) os a.1)

  -- marks that come to a frame are whole octets
  abbrev pub AsOctets : Verdict → Place → List Mark → ℕ → Type 0
  AsOctets v p ms k = (os : List ℕ) × (Octets os) × (ms ≡ marks_of os) × (Then v p os (frame_of k))

  pub along_octets : {ms : List Mark} → Cut ms → (v : Verdict) (p : Place) (k : ℕ) → Along (ft2_machine settings) v (beginning p) ms (frame_of k) → AsOctets v p ms k
  along_octets (short {ms} l) v p k a = go ms l a
    where
      go : (ns : List Mark) → length ns < 8 → Along (ft2_machine settings) v (beginning p) ns (frame_of k) → AsOctets v p ns k
      go [] l a = ([], tt, refl, a)
      go (n ∷ ns) l a = absurd (short_no_frame settings p First n ns v k (omega arith) a)
  along_octets (whole ms {rest} l c) v p k a = go (octet_or_breaks settings p ms rest l) (along_octets c)
    where
      go : Breaks (ft2_machine settings) (beginning p) (ms ++ rest) ⊎ ((o : ℕ) × (o < 256) × (ms ≡ octet_marks o))
          → ((v : Verdict) (p : Place) (k : ℕ) → Along (ft2_machine settings) v (beginning p) rest (frame_of k) → AsOctets v p rest k)
          → AsOctets v p (ms ++ rest) k
      go (inl b) later = absurd (breaks_no_frame (ft2_machine settings) (beginning p) (ms ++ rest) v k b a)
      go (inr octet) later =
          let o : ℕ = octet.0 in
          let here = along_octet settings p o octet.1 rest v (frame_of k) (subst (λ x. Along (ft2_machine settings) v (beginning p) (x ++ rest) (frame_of k)) octet.2 a) in
          let (os, are, same, so) = later (judge p o) (next settings p o) k here.1 in
          (o ∷ os, (octet.1, are), ap (λ x. x ++ rest) octet.2 ∙ ap (λ x. octet_marks o ++ x) same, (here.0, so))

  -- A block and its check octet. `all` are the octets of the block.

  pub block_then : (v : Verdict) (b : Block) (before us all rest : List ℕ) (w : Verdict) → all ≡ before ++ us → Open v → Then (judge_block b all) (after_block b all) rest w → Then v (users b before (length us)) (us ++ (check_of all ∷ rest)) w
  block_then v b before [] all rest w e a t =
      let same : all ≡ before = e ∙ append-nil before in
      (a, subst (λ x. Then (cond (eqb (check_of all) (check_of x)) (judge_block b x) (faulty fault.CheckOctet)) (after_block b x) rest w) same (subst (λ u. Then u (after_block b all) rest w) (sym (due_verdict (check_of all) (check_of all) (judge_block b all) fault.CheckOctet refl)) t))
  block_then v b before (u ∷ us) all rest w e a t =
      (a, block_then (tells u) b (before ++ (u ∷ [])) us all rest w (e ∙ sym (append_assoc before (u ∷ []) us)) tt t)

  pub block_told : (b : Block) (before us all rest : List ℕ) (o : ℕ) → all ≡ before ++ us → told_of (users b before (length us)) (us ++ (o ∷ rest)) ≡ us ++ told_of (after_block b all) rest
  block_told b before [] all rest o e =
      ap (λ ts. ts ++ told_of (after_block b before) rest) (silent_check b before o) ∙ ap (λ x. told_of (after_block b x) rest) (sym (e ∙ append-nil before))
  block_told b before (u ∷ us) all rest o e =
      ap (λ ts. u ∷ ts) (block_told b (before ++ (u ∷ [])) us all rest o (e ∙ sym (append_assoc before (u ∷ []) us)))

  -- only such octets are read there
  pub record BlockOnly (b : Block) (before : List ℕ) (n : ℕ) (os : List ℕ) (k : ℕ) : Type 0 where
    pub block : List ℕ
    pub rest : List ℕ
    pub as_many : length block ≡ n
    pub whole_is : os ≡ block ++ (check_of (before ++ block) ∷ rest)
    pub goes_on : Then (judge_block b (before ++ block)) (after_block b (before ++ block)) rest (frame_of k)

  pub then_no_fault : (v : Verdict) (p : Place) (os : List ℕ) (k : ℕ) (f : Ft2Fault) → v ≡ faulty f → Then v p os (frame_of k) → ⊥
  then_no_fault v p [] k f e t = cc
  then_no_fault v p (o ∷ os) k f e t = subst Open e t.0

  pub block_only : (n : ℕ) (v : Verdict) (b : Block) (before os : List ℕ) (k : ℕ) → (v ≡ frame_of k → ⊥) → Then v (users b before n) os (frame_of k) → BlockOnly b before n os k
  block_only zero v b before [] k none t = absurd (none t)
  block_only zero v b before (o ∷ os) k none t = go (cases_eq o (check_of before))
    where
      go : (o ≡ check_of before) ⊎ (o ≡ check_of before → ⊥) → BlockOnly b before zero (o ∷ os) k
      go (inr n) = absurd (then_no_fault _ (after_block b before) os k fault.CheckOctet (due_fault o (check_of before) (judge_block b before) fault.CheckOctet n) t.1)
      go (inl e) = record {
        block = [];
        rest = os;
        as_many = refl;
        whole_is = ap (λ x. x ∷ os) (e ∙ ap check_of (sym (append-nil before)));
        goes_on = subst (λ x. Then (judge_block b x) (after_block b x) os (frame_of k)) (sym (append-nil before)) (subst (λ u. Then u (after_block b before) os (frame_of k)) (due_verdict o (check_of before) (judge_block b before) fault.CheckOctet e) t.1);
      }
  block_only (suc n) v b before [] k none t = absurd (none t)
  block_only (suc n) v b before (o ∷ os) k none t = go (block_only n (tells o) b (before ++ (o ∷ [])) os k (λ e. cc) t.1)
    where
      go : BlockOnly b (before ++ (o ∷ [])) n os k → BlockOnly b before (suc n) (o ∷ os) k
      go r =
          let same = append_assoc before (o ∷ []) r.block in
          record {
            block = o ∷ r.block;
            rest = r.rest;
            as_many = ap suc r.as_many;
            whole_is = ap (λ x. o ∷ x) (r.whole_is ∙ ap (λ x. r.block ++ (check_of x ∷ r.rest)) same);
            goes_on = subst (λ x. Then (judge_block b x) (after_block b x) r.rest (frame_of k)) same r.goes_on;
          }
