-- Frames as octets: what is read of them, and that one other octet shows.
use Rattle.std.proofs.Common.{◌≡◌, ℕ, zero, suc, ◌+◌, ◌%◌, ◌<◌, Bool, true, false, cond, ◌||◌, eqb, leb, ◌⊎◌, List, [], ◌∷◌, ◌++◌, length, sym, refl, ap, ◌∙◌, subst, inl, inr, arith, lit<}
use Rattle.std.proofs.lemmas.Bool.{cases_eq, eq-eqb, ne_eqb, eqb-true, leb-true, cond-true, cond-false, or_cases, lt-ltb, ltb-true}
use Rattle.std.proofs.lemmas.List.{nil_from_length}
use Rattle.lines.proofs.Octets.{every, every_below}
use Rattle.lines.specs.Characters.{character}
use Rattle.formats.proofs.Octets.{octets_join}
use Rattle.formats.specs.Laws.{Octets}
use Rattle.formats.specs.Marks.{changes}
use Rattle.formats.specs.Verdicts.{Verdict, open_list, tells, frame_of, fault_of, Open, Fault, octet_told}
use Rattle.ft12_laws.specs.Faults.{faulty}
use Rattle.ft12_laws.specs.Frames.{added_up, closed, count_suits, frame_octets, kind_number, sum_of}
use Rattle.ft12_laws.specs.Reading.{judge, judge_first, next, users}
use Rattle.ft12_laws.specs.declared.fault.Ft12Fault.{Ft12Fault}
use Rattle.ft12_laws.specs.declared.fault.Ft12Fault.TheVariants as fault
use Rattle.ft12_laws.specs.declared.kind.Kind.{Kind}
use Rattle.ft12_laws.specs.declared.kind.Kind.TheVariants.{Fixed, Variable, SingleE5, SingleA2}
use Rattle.ft12_laws.specs.declared.reading.Place.{Place}
use Rattle.ft12_laws.specs.declared.reading.Place.TheVariants as place

-- every octet but the last leaves the frame open, and at the last it is judged w
abbrev pub Ends : ℕ → Place → List ℕ → Verdict → Type 0
Ends fixed p [] w = ⊥
Ends fixed p (o ∷ []) w = judge p o ≡ w
Ends fixed p (o ∷ (n ∷ os)) w = Open (judge p o) × Ends fixed (next fixed p o) (n ∷ os) w

-- one of the octets brings a fault, and those before it leave the frame open
abbrev pub Shows : ℕ → Place → List ℕ → Type 0
Shows fixed p [] = ⊥
Shows fixed p (o ∷ os) = Fault (judge p o) ⊎ (Open (judge p o) × Shows fixed (next fixed p o) os)

-- the user octets among octets
abbrev pub told_of : ℕ → Place → List ℕ → List ℕ
told_of fixed p [] = []
told_of fixed p (o ∷ os) = octet_told (judge p o) ++ told_of fixed (next fixed p o) os

-- A character that must be a certain one.

due_fault : (o d : ℕ) (v : Verdict) (f : Ft12Fault) → (o ≡ d → ⊥) → Fault (cond (eqb o d) v (faulty f))
due_fault o d v f n = subst Fault (sym (cond-false (eqb o d) v (faulty f) (ne_eqb o d n))) tt

due_is : (o d : ℕ) (v : Verdict) (f : Ft12Fault) → (Fault (cond (eqb o d) v (faulty f)) → ⊥) → o ≡ d
due_is o d v f k = elim (cases_eq o d) [ inl e ↦ e | inr n ↦ absurd (k (due_fault o d v f n)) ]

due_verdict : (o d : ℕ) (v : Verdict) (f : Ft12Fault) → o ≡ d → cond (eqb o d) v (faulty f) ≡ v
due_verdict o d v f e = cond-true (eqb o d) v (faulty f) (eq-eqb o d e)

due_silent : (b : Bool) (f : Ft12Fault) → octet_told (cond b open_list (faulty f)) ≡ []
due_silent true f = refl
due_silent false f = refl

pub open_no_fault : (v : Verdict) → Open v → Fault v → ⊥
open_no_fault open_list o f = f
open_no_fault (tells x) o f = f
open_no_fault (frame_of k) o f = f
open_no_fault (fault_of c) o f = o

frame_no_fault : (v : Verdict) (n : ℕ) → v ≡ frame_of n → Fault v → ⊥
frame_no_fault v n e f = subst Fault e f

due_no_frame : (b : Bool) (f : Ft12Fault) (n : ℕ) → cond b open_list (faulty f) ≡ frame_of n → ⊥
due_no_frame true f n e = cc
due_no_frame false f n e = cc

-- the first character is wrong, or one of the four
first_cases : (o : ℕ) → Fault (judge_first o) ⊎ ((o ≡ 0x10) ⊎ ((o ≡ 0x68) ⊎ ((o ≡ 0xE5) ⊎ (o ≡ 0xA2))))
first_cases o =
    elim (cases_eq o 0x10) [
      | inl q ↦ inr (inl q)
      | inr a ↦ elim (cases_eq o 0x68) [
        | inl q ↦ inr (inr (inl q))
        | inr b ↦ elim (cases_eq o 0xE5) [
          | inl q ↦ inr (inr (inr (inl q)))
          | inr c ↦ elim (cases_eq o 0xA2) [
            | inl q ↦ inr (inr (inr (inr q)))
            | inr d ↦ inl (none_of_four a b c d)
          ]
        ]
      ]
    ]
  where
    none_of_four : (o ≡ 0x10 → ⊥) → (o ≡ 0x68 → ⊥) → (o ≡ 0xE5 → ⊥) → (o ≡ 0xA2 → ⊥) → Fault (judge_first o)
    none_of_four a b c d = rw (ne_eqb o 0x10 a, ne_eqb o 0x68 b, ne_eqb o 0xE5 c, ne_eqb o 0xA2 d) tt

is_fault : Verdict → Bool
is_fault open_list = false
is_fault (tells o) = false
is_fault (frame_of k) = false
is_fault (fault_of c) = true

is_fault_means : (v : Verdict) → is_fault v ≡ true → Fault v
unfolding is_fault
is_fault_means open_list e = absurd cc
is_fault_means (tells o) e = absurd cc
is_fault_means (frame_of k) e = absurd cc
is_fault_means (fault_of c) e = tt

-- whether an octet is this one, or far from it in marks, or no first character
far_test : ℕ → ℕ → Bool
far_test a x = eqb a x || (leb 4 (changes (character a) (character x)) || is_fault (judge_first x))

far_10 : every 256 (far_test 0x10) ≡ true
unfolding far_test is_fault
far_10 = refl

far_68 : every 256 (far_test 0x68) ≡ true
unfolding far_test is_fault
far_68 = refl

far_e5 : every 256 (far_test 0xE5) ≡ true
unfolding far_test is_fault
far_e5 = refl

far_a2 : every 256 (far_test 0xA2) ≡ true
unfolding far_test is_fault
far_a2 = refl

far_means : (a x : ℕ) → far_test a x ≡ true → (a ≡ x → ⊥) → changes (character a) (character x) < 4 → Fault (judge_first x)
unfolding far_test
far_means a x t other near =
    elim (or_cases (eqb a x) (leb 4 (changes (character a) (character x)) || is_fault (judge_first x)) t) [
      | inl q ↦ absurd (other (eqb-true a x q))
      | inr r ↦ elim (or_cases (leb 4 (changes (character a) (character x))) (is_fault (judge_first x)) r) [
        | inl q ↦ absurd (omega (arith, leb-true 4 _ q, near))
        | inr q ↦ is_fault_means (judge_first x) q
      ]
    ]

-- near a first character there is no other
starts_apart : (o x : ℕ) → x < 256 → (o ≡ x → ⊥) → changes (character o) (character x) < 4 → (Fault (judge_first o) → ⊥) → Fault (judge_first x)
starts_apart o x hx other near sound =
    elim (first_cases o) [
      | inl f ↦ absurd (sound f)
      | inr (inl q) ↦ by_start 0x10 q far_10
      | inr (inr (inl q)) ↦ by_start 0x68 q far_68
      | inr (inr (inr (inl q))) ↦ by_start 0xE5 q far_e5
      | inr (inr (inr (inr q))) ↦ by_start 0xA2 q far_a2
    ]
  where
    by_start : (a : ℕ) → o ≡ a → every 256 (far_test a) ≡ true → Fault (judge_first x)
    by_start a q t = far_means a x (every_below 256 (far_test a) t x hx) (λ e. other (q ∙ e)) (subst (λ z. changes (character z) (character x) < 4) q near)

module _ (fixed : ℕ) where
  ends_no_fault : (p : Place) (o : ℕ) (os : List ℕ) (n : ℕ) → Ends fixed p (o ∷ os) (frame_of n) → Fault (judge p o) → ⊥
  ends_no_fault p o [] n e f = frame_no_fault (judge p o) n e f
  ends_no_fault p o (x ∷ os) n e f = open_no_fault (judge p o) e.0 f

  pub ends_more : (p : Place) (o : ℕ) (os : List ℕ) (w : Verdict) → Open (judge p o) → Ends fixed (next fixed p o) os w → Ends fixed p (o ∷ os) w
  ends_more p o [] w a e = absurd e
  ends_more p o (x ∷ os) w a e = (a, e)

  -- Reading user octets, their sum and the end character.

  pub users_end : (k : Kind) (os : List ℕ) (s : ℕ) → s < 256 → Ends fixed (users k (length os) s) (os ++ (((s + added_up os) % 256) ∷ (0x16 ∷ []))) (frame_of (kind_number k))
  users_end k [] s h =
      let same : (s + 0) % 256 ≡ s = omega arith in
      (subst Open (sym (due_verdict ((s + 0) % 256) s open_list fault.Sum same)) tt, refl)
  users_end k (o ∷ os) s h =
      let less : (s + o) % 256 < 256 = omega arith in
      let sums : ((s + o) % 256 + added_up os) % 256 ≡ (s + (o + added_up os)) % 256 = omega arith in
      let rest = users_end k os ((s + o) % 256) less in
      ends_more (users k (length (o ∷ os)) s) o _ _ tt (subst (λ x. Ends fixed (users k (length os) ((s + o) % 256)) (os ++ (x ∷ (0x16 ∷ []))) (frame_of (kind_number k))) sums rest)

  pub users_told : (k : Kind) (os : List ℕ) (s x : ℕ) → told_of fixed (users k (length os) s) (os ++ (x ∷ (0x16 ∷ []))) ≡ os
  users_told k [] s x = ap (λ ts. ts ++ []) (due_silent (eqb x s) fault.Sum)
  users_told k (o ∷ os) s x = ap (λ ts. o ∷ ts) (users_told k os ((s + o) % 256) x)

  -- only such octets are read there
  record UsersOnly (k : Kind) (c s : ℕ) (os : List ℕ) (n : ℕ) : Type 0 where
    of_kind : n ≡ kind_number k
    users_are : List ℕ
    are_told : told_of fixed (users k c s) os ≡ users_are
    as_many : length users_are ≡ c
    as_octets : Octets users_are
    whole : os ≡ users_are ++ (((s + added_up users_are) % 256) ∷ (0x16 ∷ []))

  end_only : (k : Kind) (os : List ℕ) (n : ℕ) → Ends fixed (place.End k) os (frame_of n) → (os ≡ 0x16 ∷ []) × (n ≡ kind_number k)
  end_only k [] n e = absurd e
  end_only k (y ∷ []) n e =
      let is : y ≡ 0x16 = due_is y 0x16 (frame_of (kind_number k)) fault.EndCharacter (frame_no_fault _ n e) in
      let same : frame_of (kind_number k) ≡ frame_of n = sym (due_verdict y 0x16 (frame_of (kind_number k)) fault.EndCharacter is) ∙ e in
      (ap (λ x. x ∷ []) is, cc)
  end_only k (y ∷ (z ∷ os)) n e =
      let is : y ≡ 0x16 = due_is y 0x16 (frame_of (kind_number k)) fault.EndCharacter (open_no_fault _ e.0) in
      absurd (subst Open (due_verdict y 0x16 (frame_of (kind_number k)) fault.EndCharacter is) e.0)

  users_only : (k : Kind) (c s : ℕ) (os : List ℕ) (n : ℕ) → s < 256 → Octets os → Ends fixed (users k c s) os (frame_of n) → UsersOnly k c s os n
  users_only k zero s [] n h b e = absurd e
  users_only k zero s (x ∷ []) n h b e = absurd (due_no_frame (eqb x s) fault.Sum n e)
  users_only k zero s (x ∷ (y ∷ os)) n h b e =
      let is : x ≡ s = due_is x s open_list fault.Sum (open_no_fault _ e.0) in
      let same : x ≡ (s + 0) % 256 = omega arith in
      let end = end_only k (y ∷ os) n e.1 in
      record {
        of_kind = end.1;
        users_are = [];
        are_told = ap (λ ts. ts ++ told_of fixed (place.End k) (y ∷ os)) (due_silent (eqb x s) fault.Sum) ∙ ap (told_of fixed (place.End k)) end.0;
        as_many = refl;
        as_octets = tt;
        whole = ap (λ z. z ∷ (y ∷ os)) same ∙ ap (λ r. ((s + 0) % 256) ∷ r) end.0;
      }
  users_only k (suc c) s [] n h b e = absurd e
  users_only k (suc c) s (o ∷ []) n h b e = absurd cc
  users_only k (suc c) s (o ∷ (x ∷ os)) n h b e =
      let less : (s + o) % 256 < 256 = omega arith in
      let r = users_only k c ((s + o) % 256) (x ∷ os) n less b.1 e.1 in
      let us = r.users_are in
      let sums : ((s + o) % 256 + added_up us) % 256 ≡ (s + (o + added_up us)) % 256 = omega arith in
      record {
        of_kind = r.of_kind;
        users_are = o ∷ us;
        are_told = ap (λ ts. o ∷ ts) r.are_told;
        as_many = ap suc r.as_many;
        as_octets = (b.0, r.as_octets);
        whole = ap (λ t. o ∷ t) r.whole ∙ ap (λ z. o ∷ (us ++ (z ∷ (0x16 ∷ [])))) sums;
      }

  -- what is read from the first character on is a frame
  pub record FirstOnly (os : List ℕ) (n : ℕ) : Type 0 where
    pub the_kind : Kind
    pub of_kind : n ≡ kind_number the_kind
    pub users_are : List ℕ
    pub are_told : told_of fixed place.First os ≡ users_are
    pub as_many : count_suits fixed the_kind (length users_are) ≡ true
    pub as_octets : Octets users_are
    pub whole : os ≡ frame_octets the_kind users_are

  fixed_only : (os : List ℕ) (n : ℕ) → Octets os → Ends fixed place.First (0x10 ∷ os) (frame_of n) → FirstOnly (0x10 ∷ os) n
  fixed_only [] n b e = absurd cc
  fixed_only (x ∷ os) n b e =
      let r = users_only Fixed fixed 0 (x ∷ os) n (lit< tt) b e.1 in
      let us = r.users_are in
      let sums : (0 + added_up us) % 256 ≡ sum_of us = omega arith in
      record {
        the_kind = Fixed;
        of_kind = r.of_kind;
        users_are = us;
        are_told = r.are_told;
        as_many = eq-eqb (length us) fixed r.as_many;
        as_octets = r.as_octets;
        whole = ap (λ t. 0x10 ∷ t) (r.whole ∙ ap (λ z. us ++ (z ∷ (0x16 ∷ []))) sums);
      }

  variable_only : (os : List ℕ) (n : ℕ) → Octets os → Ends fixed place.First (0x68 ∷ os) (frame_of n) → FirstOnly (0x68 ∷ os) n
  variable_only [] n b e = absurd cc
  variable_only (l ∷ []) n b e = let last = e.1 in absurd cc
  variable_only (l ∷ (k ∷ [])) n b e = absurd (due_no_frame (eqb k l) fault.LengthsDiffer n e.1.1)
  variable_only (l ∷ (k ∷ (c ∷ []))) n b e = absurd (due_no_frame (eqb c 0x68) fault.FourthCharacter n e.1.1.1)
  variable_only (l ∷ (k ∷ (c ∷ (x ∷ os)))) n b e =
      let same : k ≡ l = due_is k l open_list fault.LengthsDiffer (open_no_fault _ e.1.1.0) in
      let fourth : c ≡ 0x68 = due_is c 0x68 open_list fault.FourthCharacter (open_no_fault _ e.1.1.1.0) in
      let r = users_only Variable l 0 (x ∷ os) n (lit< tt) b.1.1.1 e.1.1.1.1 in
      let us = r.users_are in
      let many : l ≡ length us = sym r.as_many in
      let few : length us < 256 = subst (λ z. z < 256) many b.0 in
      let sums : (0 + added_up us) % 256 ≡ sum_of us = omega arith in
      record {
        the_kind = Variable;
        of_kind = r.of_kind;
        users_are = us;
        are_told = ap (λ ts. ts ++ (octet_told (judge (place.Fourth l) c) ++ told_of fixed (users Variable l 0) (x ∷ os))) (due_silent (eqb k l) fault.LengthsDiffer) ∙ ap (λ ts. ts ++ told_of fixed (users Variable l 0) (x ∷ os)) (due_silent (eqb c 0x68) fault.FourthCharacter) ∙ r.are_told;
        as_many = lt-ltb (length us) 256 few;
        as_octets = r.as_octets;
        whole =
            ap (λ z. 0x68 ∷ (z ∷ (k ∷ (c ∷ (x ∷ os))))) many ∙ ap (λ z. 0x68 ∷ (length us ∷ (z ∷ (c ∷ (x ∷ os))))) (same ∙ many)
            ∙ ap (λ z. 0x68 ∷ (length us ∷ (length us ∷ (z ∷ (x ∷ os))))) fourth
            ∙ ap (λ t. 0x68 ∷ (length us ∷ (length us ∷ (0x68 ∷ t)))) (r.whole ∙ ap (λ z. us ++ (z ∷ (0x16 ∷ []))) sums);
      }

  e5_only : (os : List ℕ) (n : ℕ) → Ends fixed place.First (0xE5 ∷ os) (frame_of n) → FirstOnly (0xE5 ∷ os) n
  e5_only [] n e = record { the_kind = SingleE5; of_kind = cc; users_are = []; are_told = refl; as_many = refl; as_octets = tt; whole = refl }
  e5_only (x ∷ os) n e = absurd e.0

  a2_only : (os : List ℕ) (n : ℕ) → Ends fixed place.First (0xA2 ∷ os) (frame_of n) → FirstOnly (0xA2 ∷ os) n
  a2_only [] n e = record { the_kind = SingleA2; of_kind = cc; users_are = []; are_told = refl; as_many = refl; as_octets = tt; whole = refl }
  a2_only (x ∷ os) n e = absurd e.0

  pub first_only : (os : List ℕ) (n : ℕ) → Octets os → Ends fixed place.First os (frame_of n) → FirstOnly os n
  first_only [] n b e = absurd e
  first_only (o ∷ os) n b e =
      elim (first_cases o) [
        | inl f ↦ absurd (ends_no_fault place.First o os n e f)
        | inr (inl q) ↦ by_start 0x10 q (fixed_only os n b.1)
        | inr (inr (inl q)) ↦ by_start 0x68 q (variable_only os n b.1)
        | inr (inr (inr (inl q))) ↦ by_start 0xE5 q (e5_only os n)
        | inr (inr (inr (inr q))) ↦ by_start 0xA2 q (a2_only os n)
      ]
    where
      by_start : (a : ℕ) → o ≡ a → (Ends fixed place.First (a ∷ os) (frame_of n) → FirstOnly (a ∷ os) n) → FirstOnly (o ∷ os) n
      by_start a q f = subst (λ z. FirstOnly (z ∷ os) n) (sym q) (f (subst (λ z. Ends fixed place.First (z ∷ os) (frame_of n)) q e))

  -- One other octet shows.

  pub sums_apart : (k : Kind) (c s t : ℕ) (os : List ℕ) (n : ℕ) → s < 256 → t < 256 → (s ≡ t → ⊥) → Ends fixed (users k c s) os (frame_of n) → Shows fixed (users k c t) os
  sums_apart k zero s t [] n hs ht other e = absurd e
  sums_apart k zero s t (x ∷ os) n hs ht other e =
      let is : x ≡ s = due_is x s open_list fault.Sum (ends_no_fault (place.Sum k s) x os n e) in
      inl (due_fault x t open_list fault.Sum (λ q. other (sym is ∙ q)))
  sums_apart k (suc c) s t [] n hs ht other e = absurd e
  sums_apart k (suc c) s t (o ∷ []) n hs ht other e = absurd cc
  sums_apart k (suc c) s t (o ∷ (x ∷ os)) n hs ht other e =
      inr (tt, sums_apart k c ((s + o) % 256) ((t + o) % 256) (x ∷ os) n (omega arith) (omega arith) (λ q. other (omega arith)) e.1)

  pub other_shows : (p : Place) (o x : ℕ) (os : List ℕ) (n : ℕ) → o < 256 → x < 256 → (o ≡ x → ⊥) → changes (character o) (character x) < 4 → Ends fixed p (o ∷ os) (frame_of n) → Shows fixed p (x ∷ os)
  other_shows place.First o x os n ho hx other near e = inl (starts_apart o x hx other near (ends_no_fault place.First o os n e))
  other_shows place.Length o x [] n ho hx other near e = absurd cc
  other_shows place.Length o x (y ∷ os) n ho hx other near e =
      let is : y ≡ o = due_is y o open_list fault.LengthsDiffer (ends_no_fault (place.Again o) y os n e.1) in
      inr (tt, inl (due_fault y x open_list fault.LengthsDiffer (λ q. other (sym is ∙ q))))
  other_shows (place.Again l) o x os n ho hx other near e =
      let is : o ≡ l = due_is o l open_list fault.LengthsDiffer (ends_no_fault (place.Again l) o os n e) in
      inl (due_fault x l open_list fault.LengthsDiffer (λ q. other (is ∙ sym q)))
  other_shows (place.Fourth l) o x os n ho hx other near e =
      let is : o ≡ 0x68 = due_is o 0x68 open_list fault.FourthCharacter (ends_no_fault (place.Fourth l) o os n e) in
      inl (due_fault x 0x68 open_list fault.FourthCharacter (λ q. other (is ∙ sym q)))
  other_shows (place.User k c s) o x [] n ho hx other near e = absurd cc
  other_shows (place.User k c s) o x (y ∷ os) n ho hx other near e =
      inr (tt, sums_apart k c ((s + o) % 256) ((s + x) % 256) (y ∷ os) n (omega arith) (omega arith) (λ q. other (omega arith)) e.1)
  other_shows (place.Sum k s) o x os n ho hx other near e =
      let is : o ≡ s = due_is o s open_list fault.Sum (ends_no_fault (place.Sum k s) o os n e) in
      inl (due_fault x s open_list fault.Sum (λ q. other (is ∙ sym q)))
  other_shows (place.End k) o x os n ho hx other near e =
      let is : o ≡ 0x16 = due_is o 0x16 (frame_of (kind_number k)) fault.EndCharacter (ends_no_fault (place.End k) o os n e) in
      inl (due_fault x 0x16 (frame_of (kind_number k)) fault.EndCharacter (λ q. other (is ∙ sym q)))

  -- A frame is read as its kind and user octets.

  pub frame_ends : (k : Kind) (os : List ℕ) → count_suits fixed k (length os) ≡ true → Ends fixed place.First (frame_octets k os) (frame_of (kind_number k))
  frame_ends Fixed os c =
      let many : length os ≡ fixed = eqb-true (length os) fixed c in
      let sums : (0 + added_up os) % 256 ≡ sum_of os = omega arith in
      ends_more place.First 0x10 (closed os) (frame_of 1) tt
      (subst (λ m. Ends fixed (users Fixed m 0) (closed os) (frame_of 1)) many
      (subst (λ z. Ends fixed (users Fixed (length os) 0) (os ++ (z ∷ (0x16 ∷ []))) (frame_of 1)) sums (users_end Fixed os 0 (lit< tt))))
  frame_ends Variable os c =
      let again : Open (judge (place.Again (length os)) (length os)) = subst Open (sym (due_verdict (length os) (length os) open_list fault.LengthsDiffer refl)) tt in
      let sums : (0 + added_up os) % 256 ≡ sum_of os = omega arith in (
        tt,
        (
          tt,
          (
            again,
            ends_more (place.Fourth (length os)) 0x68 (closed os) (frame_of 2) tt
                (subst (λ z. Ends fixed (users Variable (length os) 0) (os ++ (z ∷ (0x16 ∷ []))) (frame_of 2)) sums (users_end Variable os 0 (lit< tt))),
          ),
        ),
      )
  frame_ends SingleE5 os c = refl
  frame_ends SingleA2 os c = refl

  pub frame_told : (k : Kind) (os : List ℕ) → count_suits fixed k (length os) ≡ true → told_of fixed place.First (frame_octets k os) ≡ os
  frame_told Fixed os c =
      subst (λ m. told_of fixed (users Fixed m 0) (closed os) ≡ os) (eqb-true (length os) fixed c) (users_told Fixed os 0 (sum_of os))
  frame_told Variable os c =
      ap (λ ts. ts ++ told_of fixed (users Variable (length os) 0) (closed os)) (due_silent (eqb (length os) (length os)) fault.LengthsDiffer) ∙ users_told Variable os 0 (sum_of os)
  frame_told SingleE5 os c = sym (nil_from_length os (eqb-true (length os) 0 c))
  frame_told SingleA2 os c = sym (nil_from_length os (eqb-true (length os) 0 c))

pub frame_are_octets : (fixed : ℕ) (k : Kind) (os : List ℕ) → count_suits fixed k (length os) ≡ true → Octets os → Octets (frame_octets k os)
frame_are_octets fixed Fixed os c b = (lit< tt, octets_join os _ b (omega arith, (lit< tt, tt)))
frame_are_octets fixed Variable os c b =
    let few = ltb-true (length os) 256 c in
    (lit< tt, (few, (few, (lit< tt, octets_join os _ b (omega arith, (lit< tt, tt))))))
frame_are_octets fixed SingleE5 os c b = (lit< tt, tt)
frame_are_octets fixed SingleA2 os c b = (lit< tt, tt)
