-- FT2 keeps the laws of a format at all its settings.
use Rattle.std.proofs.Common.{◌≡◌, ℕ, ◌+◌, ◌-◌, ◌<◌, ◌≤◌, true, eqb, leb, ◌⊎◌, List, [], ◌∷◌, ◌++◌, length, Some, None, sym, refl, ap, ◌∙◌, subst, inl, inr, arith, length-append}
use lib.ListN.{length-replicate}
use Rattle.std.proofs.lemmas.Bool.{and_parts, both_ways, cases_eq, cond-false, eqb-true, leb-true, ne_eqb}
use Rattle.lines.specs.declared.mark.Mark.{Mark}
use Rattle.lines.specs.declared.mark.Mark.TheVariants.{Zero, One}
use Rattle.formats.specs.Laws.{Lawful, Laws, Octets}
use Rattle.formats.specs.Machine.{Opened}
use Rattle.formats.specs.Marks.{Altered, Quiet, behind_first, ones}
use Rattle.formats.specs.Verdicts.{Open, open_list, frame_of, octet_told}
use Rattle.formats.proofs.Changes.{altered_counts}
use Rattle.formats.proofs.Machines.{Judged, MachineLaws, laws_of, opened_join, told}
use Rattle.ft2_laws.specs.Frames.{count_suits, first_octet, first_suits, frame_marks, frame_octets, gap_marks, headed_kind, is_kind, kind_number, kind_of, marks_of, octet_marks, suits_kind}
use Rattle.ft2_laws.specs.Reading.{beginning, ft2_machine, ft2_model, judge, next, start}
use Rattle.ft2_laws.specs.declared.kind.Kind.{Kind}
use Rattle.ft2_laws.specs.declared.kind.Kind.TheVariants.{Fixed, Variable}
use Rattle.ft2_laws.specs.declared.settings.Settings.{Settings}
use Rattle.ft2_laws.proofs.Steps.{Along, along_judged, cut, judged_along}
use Rattle.ft2_laws.proofs.Blocks.{Then, along_octets, octets_along, octets_front, octets_back, octets_told, told_of}
use Rattle.ft2_laws.proofs.Chains.{Framed, chain_then, chain_told, chained, framed_fixed, framed_variable, joined, octets_chained}
use Rattle.ft2_laws.proofs.Alterations.{frame_shows}
use Rattle.ft2_laws.proofs.Only.{frames_only, framed_octets}
use Rattle.ft2_laws.proofs.Bounds.{judged_front, open_bounds}
use Rattle.ft2_laws.proofs.Agreement.{agrees}

pub kind_cases : (n : ℕ) → is_kind (kind_of n) ≡ true → (n ≡ 1) ⊎ (n ≡ 2)
kind_cases n known = go (cases_eq n 1) (cases_eq n 2)
  where
    go : (n ≡ 1) ⊎ (n ≡ 1 → ⊥) → (n ≡ 2) ⊎ (n ≡ 2 → ⊥) → (n ≡ 1) ⊎ (n ≡ 2)
    go (inl e) z = inl e
    go (inr a) (inl e) = inr e
    go (inr a) (inr b) =
        absurd (both_ways (is_kind (kind_of n)) (ap is_kind (cond-false (eqb n 1) (Some Fixed) _ (ne_eqb n 1 a) ∙ cond-false (eqb n 2) (Some Variable) None (ne_eqb n 2 b))) known)

pub numbered : (k : Kind) → kind_of (kind_number k) ≡ Some k
numbered Fixed = refl
numbered Variable = refl

starts_silent : (s : ℕ) → (s ≡ 0x27) ⊎ (s ≡ 0x14) → octet_told (judge start s) ≡ []
starts_silent s (inl e) = ap (λ x. octet_told (judge start x)) e
starts_silent s (inr e) = ap (λ x. octet_told (judge start x)) e

starts_fit : (s : ℕ) → (s ≡ 0x27) ⊎ (s ≡ 0x14) → s < 256
starts_fit s (inl e) = omega arith
starts_fit s (inr e) = omega arith

starts_zero : (s : ℕ) (ms : List Mark) → (s ≡ 0x27) ⊎ (s ≡ 0x14) → (rest : List Mark) × (octet_marks s ++ ms ≡ Zero ∷ rest)
starts_zero s ms (inl e) = (behind_first (octet_marks 0x27 ++ ms), ap (λ x. octet_marks x ++ ms) e)
starts_zero s ms (inr e) = (behind_first (octet_marks 0x14 ++ ms), ap (λ x. octet_marks x ++ ms) e)

module _ (settings : Settings) where
  -- user octets that suit a kind make a frame
  framed_kind : (k : Kind) (os : List ℕ) → count_suits settings k (length os) ≡ true → first_suits settings k os ≡ true → Framed settings k os
  framed_kind Fixed os count first = framed_fixed settings os (eqb-true (length os) settings.fixed count)
  framed_kind Variable os count first =
      let both = and_parts (leb settings.header (length os)) (leb (length os) (settings.header + 15)) count in
      framed_variable settings os (leb-true settings.header (length os) both.0) (leb-true (length os) (settings.header + 15) both.1) (eqb-true (first_octet os) (length os - settings.header) first)

  -- a lawful frame by its kind
  pub record Known (n : ℕ) (os : List ℕ) : Type 0 where
    pub of_kind : Kind
    pub number : n ≡ kind_number of_kind
    pub framed : Framed settings of_kind os
    pub marks : frame_marks settings (kind_of n) os ≡ marks_of (frame_octets settings of_kind os)

  known : (n : ℕ) (os : List ℕ) → Lawful (ft2_model settings) n os → Known n os
  known n os l = go (kind_cases n l.kind_known)
    where
      by_kind : (k : Kind) → n ≡ kind_number k → Known n os
      by_kind k e =
          let named : kind_of n ≡ Some k = ap kind_of e ∙ numbered k in
          record {
            of_kind = k;
            number = e;
            framed = framed_kind k os (subst (λ x. suits_kind settings x (length os) ≡ true) named l.count_suits) (subst (λ x. headed_kind settings x os ≡ true) named l.first_suits);
            marks = ap (λ x. frame_marks settings x os) named;
          }

      go : (n ≡ 1) ⊎ (n ≡ 2) → Known n os
      go (inl e) = by_kind Fixed e
      go (inr e) = by_kind Variable e

  -- along a frame
  framed_then : (k : Kind) (os : List ℕ) (f : Framed settings k os) → Then settings open_list start (f.begin ∷ chained f.octets f.others) (frame_of (kind_number k))
  framed_then k os f =
      (tt, subst (λ p. Then settings (judge start f.begin) p (chained f.octets f.others) (frame_of (kind_number k))) (sym f.to_block) (chain_then settings (judge start f.begin) f.block f.octets f.others (kind_number k) (starts_open f.begin f.starts) f.chain))
    where
      starts_open : (s : ℕ) → (s ≡ 0x27) ⊎ (s ≡ 0x14) → Open (judge start s)
      starts_open s (inl e) = subst (λ x. Open (judge start x)) (sym e) tt
      starts_open s (inr e) = subst (λ x. Open (judge start x)) (sym e) tt

  framed_are : (k : Kind) (os : List ℕ) (f : Framed settings k os) → Octets os → Octets (f.begin ∷ chained f.octets f.others)
  framed_are k os f are =
      let all = subst Octets (sym f.all) are in
      (starts_fit f.begin f.starts, octets_chained f.octets f.others (octets_front f.octets (joined f.others) all) (octets_back f.octets (joined f.others) all))

  framed_told : (k : Kind) (os : List ℕ) (f : Framed settings k os) → told_of settings start (f.begin ∷ chained f.octets f.others) ≡ os
  framed_told k os f =
      ap (λ ts. ts ++ told_of settings (next settings start f.begin) (chained f.octets f.others)) (starts_silent f.begin f.starts)
      ∙ ap (λ p. told_of settings p (chained f.octets f.others)) f.to_block
      ∙ chain_told settings f.block f.octets f.others (kind_number k) f.chain ∙ f.all

  along_frame : (ms : List Mark) (n : ℕ) → Along (ft2_machine settings) open_list (beginning start) ms (frame_of n) → Judged (ft2_machine settings) (beginning start) ms (frame_of n)
  along_frame [] n a = cc
  along_frame (m ∷ ms) n a = along_judged (ft2_machine settings) (beginning start) m ms (frame_of n) a.1

  frame_along : (ms : List Mark) (n : ℕ) → Judged (ft2_machine settings) (beginning start) ms (frame_of n) → Along (ft2_machine settings) open_list (beginning start) ms (frame_of n)
  frame_along [] n j = absurd j
  frame_along (m ∷ ms) n j = (tt, judged_along (ft2_machine settings) (beginning start) m ms (frame_of n) j)

  reads : (n : ℕ) (os : List ℕ) → Octets os → Known n os → Judged (ft2_machine settings) (beginning start) (frame_marks settings (kind_of n) os) (frame_of n) × (told (ft2_machine settings) (beginning start) (frame_marks settings (kind_of n) os) ≡ os)
  reads n os are w =
      let f = w.framed in
      let octets : List ℕ = f.begin ∷ chained f.octets f.others in
      let marks : frame_marks settings (kind_of n) os ≡ marks_of octets = w.marks ∙ ap marks_of f.as_octets in
      let a = octets_along settings open_list start octets (frame_of (kind_number w.of_kind)) (framed_are w.of_kind os f are) (framed_then w.of_kind os f) in (
        subst (λ x. Judged (ft2_machine settings) (beginning start) x (frame_of n)) (sym marks) (along_frame (marks_of octets) n (subst (λ x. Along (ft2_machine settings) open_list (beginning start) (marks_of octets) (frame_of x)) (sym w.number) a)),
        ap (told (ft2_machine settings) (beginning start)) marks ∙ octets_told settings start octets (framed_are w.of_kind os f are) ∙ framed_told w.of_kind os f,
      )

  -- the frames alone
  only : (marks : List Mark) (n : ℕ) → Judged (ft2_machine settings) (beginning start) marks (frame_of n) → Lawful (ft2_model settings) n (told (ft2_machine settings) (beginning start) marks) × (marks ≡ frame_marks settings (kind_of n) (told (ft2_machine settings) (beginning start) marks))
  only marks n j =
      let (os, are, same, so) = along_octets settings (cut marks) open_list start n (frame_along marks n j) in
      let r = frames_only settings os n so in
      let us : List ℕ = r.users_are in
      let named : kind_of n ≡ Some r.of_kind = ap kind_of r.numbered ∙ numbered r.of_kind in
      let users_are : Octets us = framed_octets settings r.of_kind us (framed_kind r.of_kind us r.count r.first) (subst Octets r.whole_is are) in
      let lawful : Lawful (ft2_model settings) n us = record {
        kind_known = ap is_kind named;
        count_suits = ap (λ k. suits_kind settings k (length us)) named ∙ r.count;
        first_suits = ap (λ k. headed_kind settings k us) named ∙ r.first;
        are_octets = users_are;
      } in
      let whole : marks ≡ frame_marks settings (kind_of n) us = same ∙ ap marks_of r.whole_is ∙ sym (ap (λ k. frame_marks settings k us) named) in
      let telling : us ≡ told (ft2_machine settings) (beginning start) marks = sym (ap (told (ft2_machine settings) (beginning start)) whole ∙ (reads n us users_are (known n us lawful)).1) in
      (subst (Lawful (ft2_model settings) n) telling lawful, whole ∙ ap (frame_marks settings (kind_of n)) telling)

  -- an open list has fewer marks than a gap
  open_short : (marks : List Mark) → Opened (ft2_machine settings) (beginning start) marks → length marks < gap_marks settings
  open_short marks o = (open_bounds settings (cut marks) start o).0

  -- and a frame has no more
  frame_short : (n : ℕ) (os : List ℕ) → Lawful (ft2_model settings) n os → length (frame_marks settings (kind_of n) os) ≤ gap_marks settings
  frame_short n os l =
      let (front, count, o) = judged_front (ft2_machine settings) (beginning start) (frame_marks settings (kind_of n) os) (frame_of n) (reads n os l.are_octets (known n os l)).0 in
      let less = open_short front o in
      omega arith

  behind_count : (ms : List Mark) → length (behind_first ms) ≡ length ms - 1
  behind_count [] = refl
  behind_count (m ∷ ms) = omega arith

  quiet_long : (n : ℕ) (ms : List Mark) → Quiet n ms → n ≤ length ms
  quiet_long n ms q =
      let (before, after, e) = q in
      omega (arith, ap length e, length-append before (ones n ++ after), length-append (ones n) after, length-replicate n One)

  pub machine_laws : MachineLaws (ft2_machine settings) (ft2_model settings)
  machine_laws = record {
    gap_least = omega arith;
    distance_least = omega arith;
    begins = λ n os l.
        let w = known n os l in
        let z = starts_zero w.framed.begin (marks_of (chained w.framed.octets w.framed.others)) w.framed.starts in
        (z.0, w.marks ∙ ap marks_of w.framed.as_octets ∙ z.1);
    frame_reads = λ n os l. reads n os l.are_octets (known n os l);
    only_frames = λ marks n b j. only marks n j;
    alteration_shows = λ n os heard l a.
        let w = known n os l in
        frame_shows settings w.of_kind os heard w.framed l.are_octets (subst (λ x. Altered 4 x heard) w.marks a);
    gap_closes = λ marks b o q.
        let g : ℕ = gap_marks settings in
        let all = open_short (marks ++ ones g) (opened_join (ft2_machine settings) (beginning start) marks (ones g) o q) in
        omega (arith, all, length-append marks (ones g), length-replicate g One);
    no_gap_within = λ n os heard l a q.
        let g : ℕ = gap_marks settings in
        let count = (altered_counts 4 (frame_marks settings (kind_of n) os) heard a).0 in
        omega (arith, count, frame_short n os l, behind_count heard, quiet_long g (behind_first heard) q);
    open_is_short = λ marks b o. omega (arith, open_short marks o);
    few_told = λ marks b o. omega (arith, open_short marks o, (open_bounds settings (cut marks) start o).1);
  }

  -- the laws of the format
  pub ft2_laws : Laws (ft2_model settings)
  ft2_laws = laws_of (ft2_machine settings) (ft2_model settings) (agrees settings) machine_laws
