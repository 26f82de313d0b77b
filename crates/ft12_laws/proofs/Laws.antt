-- FT1.2 keeps the laws of a format, at every fixed length.
use Rattle.std.proofs.Common.{◌≡◌, ℕ, ◌<◌, ◌≤◌, true, ◌⊎◌, List, [], ◌∷◌, ◌++◌, length, Some, None, sym, refl, ap, ◌∙◌, subst, inl, inr, arith, lit≤}
use Rattle.std.proofs.lemmas.Bool.{cases_eq, ne_eqb, both_ways}
use Rattle.lines.specs.Characters.{parity_mark}
use Rattle.lines.specs.declared.mark.Mark.{Mark}
use Rattle.lines.specs.declared.mark.Mark.TheVariants.{Zero}
use Rattle.formats.specs.Laws.{Laws, Lawful, Octets}
use Rattle.formats.specs.Machine.{reached}
use Rattle.formats.specs.Marks.{Altered, Begins, Quiet, behind_first, changes}
use Rattle.formats.specs.Verdicts.{frame_of}
use Rattle.formats.proofs.Changes.{altered_counts}
use Rattle.formats.proofs.Machines.{Agrees, Breaks, Judged, MachineLaws, laws_of, told}
use Rattle.ft12_laws.specs.Frames.{characters, count_suits, frame_marks, frame_octets, is_kind, kind_number, kind_of, suits_kind}
use Rattle.ft12_laws.specs.Machine.{beginning, ft12_machine, says_at}
use Rattle.ft12_laws.specs.Reading.{ft12_model, judge, judge_list, judge_parity, judge_stop, next}
use Rattle.ft12_laws.specs.declared.kind.Kind.{Kind}
use Rattle.ft12_laws.specs.declared.kind.Kind.TheVariants.{Fixed, Variable, SingleE5, SingleA2}
use Rattle.ft12_laws.specs.declared.reading.Place.{Place}
use Rattle.ft12_laws.specs.declared.reading.Place.TheVariants as place
use Rattle.ft12_laws.proofs.Bits.{moved, moved_is}
use Rattle.ft12_laws.proofs.Bounds.{few_marks, few_octets, gap_closes_at, sound_reached}
use Rattle.ft12_laws.proofs.Frames.{first_only, frame_are_octets, frame_ends, frame_told}
use Rattle.ft12_laws.proofs.Gaps.{quiet_costs}
use Rattle.ft12_laws.proofs.Heard.{altered_breaks, ends_judged, judged_ends, told_characters}

-- judging mark by mark is judging the list
agrees_from : (fixed : ℕ) (p : Place) (done : List Mark) (m : Mark)
    → judge_list fixed p (done ++ (m ∷ [])) ≡ says_at (reached (ft12_machine fixed) (beginning p) done).place (reached (ft12_machine fixed) (beginning p) done).part m
agrees_from fixed p [] m = refl
agrees_from fixed p (s ∷ []) m = refl
agrees_from fixed p (s ∷ (a ∷ [])) m = refl
agrees_from fixed p (s ∷ (a ∷ (b ∷ []))) m = refl
agrees_from fixed p (s ∷ (a ∷ (b ∷ (c ∷ [])))) m = refl
agrees_from fixed p (s ∷ (a ∷ (b ∷ (c ∷ (d ∷ []))))) m = refl
agrees_from fixed p (s ∷ (a ∷ (b ∷ (c ∷ (d ∷ (e ∷ [])))))) m = refl
agrees_from fixed p (s ∷ (a ∷ (b ∷ (c ∷ (d ∷ (e ∷ (f ∷ []))))))) m = refl
agrees_from fixed p (s ∷ (a ∷ (b ∷ (c ∷ (d ∷ (e ∷ (f ∷ (g ∷ [])))))))) m = refl
agrees_from fixed p (s ∷ (a ∷ (b ∷ (c ∷ (d ∷ (e ∷ (f ∷ (g ∷ (h ∷ []))))))))) m = ap (λ o. judge_parity (parity_mark o) m) (sym (moved_is a b c d e f g h))
agrees_from fixed p (s ∷ (a ∷ (b ∷ (c ∷ (d ∷ (e ∷ (f ∷ (g ∷ (h ∷ (i ∷ [])))))))))) m = ap (λ o. judge_stop (judge p o) m) (sym (moved_is a b c d e f g h))
agrees_from fixed p (s ∷ (a ∷ (b ∷ (c ∷ (d ∷ (e ∷ (f ∷ (g ∷ (h ∷ (i ∷ (t ∷ []))))))))))) m = refl
agrees_from fixed p (s ∷ (a ∷ (b ∷ (c ∷ (d ∷ (e ∷ (f ∷ (g ∷ (h ∷ (i ∷ (t ∷ (n ∷ rest)))))))))))) m =
    ap (λ o. judge_list fixed (next fixed p o) ((n ∷ rest) ++ (m ∷ []))) (sym (moved_is a b c d e f g h))
    ∙ agrees_from fixed (next fixed p (moved 0 (a ∷ (b ∷ (c ∷ (d ∷ (e ∷ (f ∷ (g ∷ (h ∷ [])))))))))) (n ∷ rest) m

pub ft12_agrees : (fixed : ℕ) → Agrees (ft12_machine fixed) (ft12_model fixed).verdict
ft12_agrees fixed done m b a = agrees_from fixed place.First done m

-- a number is that of a kind, or there is none
kinds : (n : ℕ) → (kind_of n ≡ None) ⊎ ((k : Kind) × (kind_of n ≡ Some k) × (n ≡ kind_number k))
kinds n =
    elim (cases_eq n 1) [
      | inl q ↦ inr (Fixed, ap kind_of q, q)
      | inr a ↦ elim (cases_eq n 2) [
        | inl q ↦ inr (Variable, ap kind_of q, q)
        | inr b ↦ elim (cases_eq n 3) [
          | inl q ↦ inr (SingleE5, ap kind_of q, q)
          | inr c ↦ elim (cases_eq n 4) [
            | inl q ↦ inr (SingleA2, ap kind_of q, q)
            | inr d ↦ inl (none a b c d)
          ]
        ]
      ]
    ]
  where
    none : (n ≡ 1 → ⊥) → (n ≡ 2 → ⊥) → (n ≡ 3 → ⊥) → (n ≡ 4 → ⊥) → kind_of n ≡ None
    none a b c d = rw (ne_eqb n 1 a, ne_eqb n 2 b, ne_eqb n 3 c, ne_eqb n 4 d)

-- a lawful frame, as octets
record Known (fixed n : ℕ) (os : List ℕ) : Type 0 where
  the_kind : Kind
  of_kind : n ≡ kind_number the_kind
  as_many : count_suits fixed the_kind (length os) ≡ true
  its_octets : Octets (frame_octets the_kind os)
  its_marks : frame_marks (kind_of n) os ≡ characters (frame_octets the_kind os)

known : (fixed n : ℕ) (os : List ℕ) → Lawful (ft12_model fixed) n os → Known fixed n os
known fixed n os l =
    elim (kinds n) [
      | inl q ↦ absurd (both_ways (is_kind (kind_of n)) (ap is_kind q) l.kind_known)
      | inr k ↦
          let suits = sym (ap (λ o. suits_kind fixed o (length os)) k.1) ∙ l.count_suits in
          record {
            the_kind = k.0;
            of_kind = k.2;
            as_many = suits;
            its_octets = frame_are_octets fixed k.0 os suits l.are_octets;
            its_marks = ap (λ o. frame_marks o os) k.1;
          }
    ]

kind_back : (k : Kind) → kind_of (kind_number k) ≡ Some k
kind_back Fixed = refl
kind_back Variable = refl
kind_back SingleE5 = refl
kind_back SingleA2 = refl

frame_begins : (k : Kind) (os : List ℕ) → characters (frame_octets k os) ≡ Zero ∷ behind_first (characters (frame_octets k os))
frame_begins Fixed os = refl
frame_begins Variable os = refl
frame_begins SingleE5 os = refl
frame_begins SingleA2 os = refl

quiet_whole : (n : ℕ) (sent heard : List Mark) → Altered n sent heard → Quiet 33 (behind_first heard) → Quiet 33 heard
quiet_whole n [] heard a q = absurd a
quiet_whole n (m ∷ ms) [] a q = absurd a
quiet_whole n (m ∷ ms) (x ∷ xs) a q = (x ∷ q.0, q.1, ap (λ t. x ∷ t) q.2)

module _ (fixed : ℕ) (small : fixed < 256) where
  machine_reads : (n : ℕ) (os : List ℕ) → Lawful (ft12_model fixed) n os → Judged (ft12_machine fixed) (beginning place.First) ((ft12_model fixed).frame n os) (frame_of n) × (told (ft12_machine fixed) (beginning place.First) ((ft12_model fixed).frame n os) ≡ os)
  machine_reads n os l =
      let f = known fixed n os l in
      let octets = frame_octets f.the_kind os in
      let ends = subst (λ w. Judged (ft12_machine fixed) (beginning place.First) (characters octets) (frame_of w)) (sym f.of_kind) (ends_judged fixed place.First octets _ f.its_octets (frame_ends fixed f.the_kind os f.as_many)) in (
        subst (λ ms. Judged (ft12_machine fixed) (beginning place.First) ms (frame_of n)) (sym f.its_marks) ends,
        ap (told (ft12_machine fixed) (beginning place.First)) f.its_marks ∙ told_characters fixed place.First octets f.its_octets ∙ frame_told fixed f.the_kind os f.as_many,
      )

  machine_only : (marks : List Mark) (n : ℕ) → Begins marks → Judged (ft12_machine fixed) (beginning place.First) marks (frame_of n)
      → Lawful (ft12_model fixed) n (told (ft12_machine fixed) (beginning place.First) marks) × (marks ≡ (ft12_model fixed).frame n (told (ft12_machine fixed) (beginning place.First) marks))
  machine_only marks n b j =
      let r = judged_ends fixed place.First marks n j in
      let f = first_only fixed r.octets n r.are_octets r.ends in
      let us = f.users_are in
      let heard_users : told (ft12_machine fixed) (beginning place.First) marks ≡ us = ap (told (ft12_machine fixed) (beginning place.First)) r.their_marks ∙ told_characters fixed place.First r.octets r.are_octets ∙ f.are_told in
      let kind_is : kind_of n ≡ Some f.the_kind = ap kind_of f.of_kind ∙ kind_back f.the_kind in
      let lawful : Lawful (ft12_model fixed) n us = record {
        kind_known = ap is_kind kind_is;
        count_suits = ap (λ o. suits_kind fixed o (length us)) kind_is ∙ f.as_many;
        first_suits = refl;
        are_octets = f.as_octets;
      } in
      let same : marks ≡ frame_marks (kind_of n) us = r.their_marks ∙ ap characters f.whole ∙ sym (ap (λ o. frame_marks o us) kind_is) in
      (subst (Lawful (ft12_model fixed) n) (sym heard_users) lawful, same ∙ ap (frame_marks (kind_of n)) (sym heard_users))

  machine_shows : (n : ℕ) (os : List ℕ) (heard : List Mark) → Lawful (ft12_model fixed) n os → Altered 4 ((ft12_model fixed).frame n os) heard → Breaks (ft12_machine fixed) (beginning place.First) heard
  machine_shows n os heard l a =
      let f = known fixed n os l in
      let octets = frame_octets f.the_kind os in
      let whole = altered_counts 4 (characters octets) heard (subst (λ ms. Altered 4 ms heard) f.its_marks a) in
      altered_breaks fixed octets place.First heard (kind_number f.the_kind) f.its_octets (frame_ends fixed f.the_kind os f.as_many) whole.0 whole.1 whole.2

  machine_unquiet : (n : ℕ) (os : List ℕ) (heard : List Mark) → Lawful (ft12_model fixed) n os → Altered 4 ((ft12_model fixed).frame n os) heard → Quiet 33 (behind_first heard) → ⊥
  machine_unquiet n os heard l a quiet =
      let f = known fixed n os l in
      let octets = frame_octets f.the_kind os in
      let whole = altered_counts 4 (characters octets) heard (subst (λ ms. Altered 4 ms heard) f.its_marks a) in
      let q = quiet_whole 4 ((ft12_model fixed).frame n os) heard a quiet in
      let cost = quiet_costs octets q.0 q.1 f.its_octets (sym (ap length q.2) ∙ whole.0) in
      omega (arith, subst (λ ms. 4 ≤ changes (characters octets) ms) (sym q.2) cost, whole.2)

  machine_laws : MachineLaws (ft12_machine fixed) (ft12_model fixed)
  machine_laws = record {
    gap_least = lit≤ tt;
    distance_least = lit≤ tt;
    begins = λ n os l.
        let f = known fixed n os l in
        (behind_first (characters (frame_octets f.the_kind os)), f.its_marks ∙ frame_begins f.the_kind os);
    frame_reads = machine_reads;
    only_frames = machine_only;
    alteration_shows = machine_shows;
    gap_closes = λ marks b a quiet.
        gap_closes_at fixed (reached (ft12_machine fixed) (beginning place.First) marks).place (reached (ft12_machine fixed) (beginning place.First) marks).part (sound_reached fixed (beginning place.First) marks tt) quiet;
    no_gap_within = machine_unquiet;
    open_is_short = λ marks b a. few_marks fixed small marks a;
    few_told = λ marks b a. few_octets fixed small marks a;
  }

  pub ft12_laws : Laws (ft12_model fixed)
  ft12_laws = laws_of (ft12_machine fixed) (ft12_model fixed) (ft12_agrees fixed) machine_laws
