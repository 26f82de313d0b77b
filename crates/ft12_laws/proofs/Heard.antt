-- From octets to marks: frames as they are heard.
use Rattle.std.proofs.Common.{◌≡◌, ℕ, ◌+◌, ◌<◌, ◌≤◌, ◌⊎◌, List, [], ◌∷◌, ◌++◌, length, sym, refl, ap, ◌∙◌, subst, inl, inr, arith}
use Rattle.std.proofs.lemmas.Bool.{cases_eq}
use Rattle.lines.specs.Characters.{character}
use Rattle.lines.specs.declared.mark.Mark.{Mark}
use Rattle.lines.specs.declared.mark.Mark.TheVariants.{Zero, One, Bad}
use Rattle.formats.specs.Laws.{Octets}
use Rattle.formats.specs.Machine.{Machine}
use Rattle.formats.specs.Marks.{behind_first, changes}
use Rattle.formats.specs.Verdicts.{Verdict, frame_of, Fault, octet_told}
use Rattle.formats.proofs.Changes.{changes_join, changes_self}
use Rattle.formats.proofs.Machines.{Breaks, BreaksBy, Judged, told}
use Rattle.ft12_laws.specs.Frames.{characters}
use Rattle.ft12_laws.specs.Machine.{beginning, ft12_machine}
use Rattle.ft12_laws.specs.Reading.{judge, judge_start, judge_data, judge_parity, next}
use Rattle.ft12_laws.specs.declared.reading.Place.{Place}
use Rattle.ft12_laws.proofs.Counts.{characters_apart}
use Rattle.ft12_laws.proofs.Frames.{Ends, Shows, told_of, ends_more, open_no_fault, other_shows}
use Rattle.ft12_laws.proofs.Steps.{IsCharacter, eleven, breaks_or_character, character_breaks, character_goes_on, character_last, character_told, character_went_on, last_character}

-- a judged frame does not break
pub frame_unbroken : {S : Type 0} (t : Machine S) (s : S) (ms : List Mark) (n : ℕ) → Judged t s ms (frame_of n) → Breaks t s ms → ⊥
frame_unbroken t s [] n j k = j
frame_unbroken t s (m ∷ []) n j (inl f) = subst Fault j f
frame_unbroken t s (m ∷ []) n j (inr k) = k.1
frame_unbroken t s (m ∷ (x ∷ ms)) n j (inl f) = open_no_fault (t.says s m) j.0 f
frame_unbroken t s (m ∷ (x ∷ ms)) n j (inr k) = frame_unbroken t (t.after s m) (x ∷ ms) n j.1 k.1

start_no_frame : (m : Mark) (n : ℕ) → judge_start m ≡ frame_of n → ⊥
start_no_frame Zero n e = cc
start_no_frame One n e = cc
start_no_frame Bad n e = cc

data_no_frame : (m : Mark) (n : ℕ) → judge_data m ≡ frame_of n → ⊥
data_no_frame Zero n e = cc
data_no_frame One n e = cc
data_no_frame Bad n e = cc

parity_no_frame : (due m : Mark) (n : ℕ) → judge_parity due m ≡ frame_of n → ⊥
parity_no_frame due Bad n e = cc
parity_no_frame Zero Zero n e = cc
parity_no_frame One Zero n e = cc
parity_no_frame Bad Zero n e = cc
parity_no_frame Zero One n e = cc
parity_no_frame One One n e = cc
parity_no_frame Bad One n e = cc

-- a list has eleven marks or more, or fewer
data Cut : List Mark → Type 0 where
  short : {ms : List Mark} → length ms < 11 → Cut ms
  long : (s a b c d e f g h i t : Mark) (rest : List Mark) → Cut (eleven s a b c d e f g h i t ++ rest)

cut : (ms : List Mark) → Cut ms
cut [] = short (omega arith)
cut (s ∷ []) = short (omega arith)
cut (s ∷ (a ∷ [])) = short (omega arith)
cut (s ∷ (a ∷ (b ∷ []))) = short (omega arith)
cut (s ∷ (a ∷ (b ∷ (c ∷ [])))) = short (omega arith)
cut (s ∷ (a ∷ (b ∷ (c ∷ (d ∷ []))))) = short (omega arith)
cut (s ∷ (a ∷ (b ∷ (c ∷ (d ∷ (e ∷ [])))))) = short (omega arith)
cut (s ∷ (a ∷ (b ∷ (c ∷ (d ∷ (e ∷ (f ∷ []))))))) = short (omega arith)
cut (s ∷ (a ∷ (b ∷ (c ∷ (d ∷ (e ∷ (f ∷ (g ∷ [])))))))) = short (omega arith)
cut (s ∷ (a ∷ (b ∷ (c ∷ (d ∷ (e ∷ (f ∷ (g ∷ (h ∷ []))))))))) = short (omega arith)
cut (s ∷ (a ∷ (b ∷ (c ∷ (d ∷ (e ∷ (f ∷ (g ∷ (h ∷ (i ∷ [])))))))))) = short (omega arith)
cut (s ∷ (a ∷ (b ∷ (c ∷ (d ∷ (e ∷ (f ∷ (g ∷ (h ∷ (i ∷ (t ∷ rest))))))))))) = long s a b c d e f g h i t rest

same_none : (o x : ℕ) → o ≡ x → changes (character o) (character x) ≡ 0
same_none o x q = subst (λ z. changes (character o) (character z) ≡ 0) q (changes_self (character o))

module _ (fixed : ℕ) where
  pub ends_judged : (p : Place) (os : List ℕ) (w : Verdict) → Octets os → Ends fixed p os w → Judged (ft12_machine fixed) (beginning p) (characters os) w
  ends_judged p [] w b e = absurd e
  ends_judged p (o ∷ []) w b e = character_last fixed p o b.0 w e
  ends_judged p (o ∷ (x ∷ os)) w b e =
      character_goes_on fixed p o b.0 Zero (behind_first (characters (x ∷ os))) w e.0 (ends_judged (next fixed p o) (x ∷ os) w b.1 e.1)

  pub told_characters : (p : Place) (os : List ℕ) → Octets os → told (ft12_machine fixed) (beginning p) (characters os) ≡ told_of fixed p os
  told_characters p [] b = refl
  told_characters p (o ∷ os) b =
      character_told fixed p o b.0 (characters os) ∙ ap (λ ts. octet_told (judge p o) ++ ts) (told_characters (next fixed p o) os b.1)

  -- marks that are judged a frame are characters
  pub record ReadAs (p : Place) (ms : List Mark) (n : ℕ) : Type 0 where
    pub octets : List ℕ
    pub are_octets : Octets octets
    pub their_marks : ms ≡ characters octets
    pub ends : Ends fixed p octets (frame_of n)

  one_character : (p : Place) (o : ℕ) (rest : List Mark) (n : ℕ) → o < 256 → ((q : Place) → Judged (ft12_machine fixed) (beginning q) rest (frame_of n) → ReadAs q rest n) → Judged (ft12_machine fixed) (beginning p) (character o ++ rest) (frame_of n) → ReadAs p (character o ++ rest) n
  one_character p o [] n fits more j =
      record { octets = o ∷ []; are_octets = (fits, tt); their_marks = refl; ends = last_character fixed p o fits (frame_of n) j }
  one_character p o (m ∷ ms) n fits more j =
      let went = character_went_on fixed p o fits m ms (frame_of n) j in
      let r = more (next fixed p o) went.1 in
      record {
        octets = o ∷ r.octets;
        are_octets = (fits, r.are_octets);
        their_marks = ap (λ rest. character o ++ rest) r.their_marks;
        ends = ends_more fixed p o r.octets (frame_of n) went.0 r.ends;
      }

  pub judged_ends : (p : Place) (ms : List Mark) (n : ℕ) → Judged (ft12_machine fixed) (beginning p) ms (frame_of n) → ReadAs p ms n
  judged_ends p [] n j = absurd j
  judged_ends p (s ∷ []) n j = absurd (start_no_frame s n j)
  judged_ends p (s ∷ (a ∷ [])) n j = absurd (data_no_frame a n j.1)
  judged_ends p (s ∷ (a ∷ (b ∷ []))) n j = absurd (data_no_frame b n j.1.1)
  judged_ends p (s ∷ (a ∷ (b ∷ (c ∷ [])))) n j = absurd (data_no_frame c n j.1.1.1)
  judged_ends p (s ∷ (a ∷ (b ∷ (c ∷ (d ∷ []))))) n j = absurd (data_no_frame d n j.1.1.1.1)
  judged_ends p (s ∷ (a ∷ (b ∷ (c ∷ (d ∷ (e ∷ [])))))) n j = absurd (data_no_frame e n j.1.1.1.1.1)
  judged_ends p (s ∷ (a ∷ (b ∷ (c ∷ (d ∷ (e ∷ (f ∷ []))))))) n j = absurd (data_no_frame f n j.1.1.1.1.1.1)
  judged_ends p (s ∷ (a ∷ (b ∷ (c ∷ (d ∷ (e ∷ (f ∷ (g ∷ [])))))))) n j = absurd (data_no_frame g n j.1.1.1.1.1.1.1)
  judged_ends p (s ∷ (a ∷ (b ∷ (c ∷ (d ∷ (e ∷ (f ∷ (g ∷ (h ∷ []))))))))) n j = absurd (data_no_frame h n j.1.1.1.1.1.1.1.1)
  judged_ends p (s ∷ (a ∷ (b ∷ (c ∷ (d ∷ (e ∷ (f ∷ (g ∷ (h ∷ (i ∷ [])))))))))) n j = absurd (parity_no_frame _ i n j.1.1.1.1.1.1.1.1.1)
  judged_ends p (s ∷ (a ∷ (b ∷ (c ∷ (d ∷ (e ∷ (f ∷ (g ∷ (h ∷ (i ∷ (t ∷ rest))))))))))) n j =
      by_character (λ q k. judged_ends q rest n k) (breaks_or_character fixed p s a b c d e f g h i t rest)
    where
      by_character : ((q : Place) → Judged (ft12_machine fixed) (beginning q) rest (frame_of n) → ReadAs q rest n)
          → Breaks (ft12_machine fixed) (beginning p) (eleven s a b c d e f g h i t ++ rest) ⊎ IsCharacter (eleven s a b c d e f g h i t)
          → ReadAs p (eleven s a b c d e f g h i t ++ rest) n
      by_character more (inl k) = absurd (frame_unbroken (ft12_machine fixed) (beginning p) (eleven s a b c d e f g h i t ++ rest) n j k)
      by_character more (inr c) =
          subst (λ ms. ReadAs p (ms ++ rest) n) (sym c.2)
          (one_character p c.0 rest n c.1 more (subst (λ ms. Judged (ft12_machine fixed) (beginning p) (ms ++ rest) (frame_of n)) c.2 j))

  -- Altered marks.

  -- eleven marks of what is heard, where they are a character
  record Hears (heard : List Mark) (n : ℕ) : Type 0 where
    octet : ℕ
    fits : octet < 256
    rest : List Mark
    is : heard ≡ character octet ++ rest
    rest_long : length rest ≡ n

  hear : (p : Place) (heard : List Mark) (n : ℕ) → length heard ≡ 11 + n → Breaks (ft12_machine fixed) (beginning p) heard ⊎ Hears heard n
  hear p heard n l = by_cut heard l (cut heard)
    where
      by_cut : (heard : List Mark) → length heard ≡ 11 + n → Cut heard → Breaks (ft12_machine fixed) (beginning p) heard ⊎ Hears heard n
      by_cut heard l (short less) = absurd (omega arith)
      by_cut heard l (long s a b c d e f g h i t rest) =
          elim (breaks_or_character fixed p s a b c d e f g h i t rest) [
            | inl k ↦ inl k
            | inr x ↦ inr (record { octet = x.0; fits = x.1; rest = rest; is = ap (λ ms. ms ++ rest) x.2; rest_long = omega arith })
          ]

  -- the same octet was heard, and what follows breaks
  goes_on : (p : Place) (o : ℕ) (heard : List Mark) (n : ℕ) (h : Hears heard n) → o ≡ h.octet → BreaksBy (judge p o) (Breaks (ft12_machine fixed) (beginning (next fixed p o)) h.rest) → Breaks (ft12_machine fixed) (beginning p) heard
  goes_on p o heard n h q k =
      subst (Breaks (ft12_machine fixed) (beginning p)) (ap (λ z. character z ++ h.rest) q ∙ sym h.is)
      (character_breaks fixed p o (subst (λ z. z < 256) (sym q) h.fits) h.rest k)

  changes_split : (o : ℕ) (os : List ℕ) (heard : List Mark) (n : ℕ) (h : Hears heard n) → changes (characters (o ∷ os)) heard ≡ changes (character o) (character h.octet) + changes (characters os) h.rest
  changes_split o os heard n h = ap (changes (characters (o ∷ os))) h.is ∙ changes_join (character o) (characters os) (character h.octet) h.rest refl

  -- where an octet shows, one mark altered behind it hides nothing
  late : (os : List ℕ) (p : Place) (heard : List Mark) → Octets os → length heard ≡ length (characters os) → changes (characters os) heard ≤ 1 → Shows fixed p os → Breaks (ft12_machine fixed) (beginning p) heard
  late [] p heard b l few shows = absurd shows
  late (o ∷ os) p heard b l few shows =
      elim (hear p heard (length (characters os)) (omega arith)) [
        | inl k ↦ k
        | inr h ↦
            let split = changes_split o os heard (length (characters os)) h in
            elim (cases_eq o h.octet) [
              | inl q ↦ elim shows [
                | inl f ↦ goes_on p o heard (length (characters os)) h q (inl f)
                | inr k ↦ goes_on p o heard (length (characters os)) h q (inr (k.0, late os (next fixed p o) h.rest b.1 h.rest_long (omega (arith, split, few)) k.1))
              ]
              | inr other ↦ absurd (omega (arith, split, characters_apart o h.octet b.0 h.fits other, few))
            ]
      ]

  -- from an octet that shows on
  shown : (p : Place) (x : ℕ) (os : List ℕ) (rest : List Mark) → Octets os → length rest ≡ length (characters os) → changes (characters os) rest ≤ 1 → Shows fixed p (x ∷ os) → BreaksBy (judge p x) (Breaks (ft12_machine fixed) (beginning (next fixed p x)) rest)
  shown p x os rest b l few (inl f) = inl f
  shown p x os rest b l few (inr k) = inr (k.0, late os (next fixed p x) rest b l few k.1)

  -- a frame with one to three marks altered breaks
  pub altered_breaks : (os : List ℕ) (p : Place) (heard : List Mark) (n : ℕ) → Octets os → Ends fixed p os (frame_of n) → length heard ≡ length (characters os) → 1 ≤ changes (characters os) heard → changes (characters os) heard < 4 → Breaks (ft12_machine fixed) (beginning p) heard
  altered_breaks [] p heard n b e l some few = absurd e
  altered_breaks (o ∷ os) p heard n b e l some few =
      elim (hear p heard (length (characters os)) (omega arith)) [
        | inl k ↦ k
        | inr h ↦
            let split = changes_split o os heard (length (characters os)) h in
            elim (cases_eq o h.octet) [
              | inl q ↦
                  let more : 1 ≤ changes (characters os) h.rest = omega (arith, split, same_none o h.octet q, some) in
                  goes_on p o heard (length (characters os)) h q
                  (passed os h.rest e more (λ a. altered_breaks os (next fixed p o) h.rest n b.1 a h.rest_long more (omega (arith, split, few))))
              | inr other ↦
                  goes_on p h.octet heard (length (characters os)) h refl
                  (shown p h.octet os h.rest b.1 h.rest_long (omega (arith, split, characters_apart o h.octet b.0 h.fits other, few))
                  (other_shows fixed p o h.octet os n b.0 h.fits other (omega (arith, split, few)) e))
            ]
      ]
    where
      passed : {X : Type 0} (os : List ℕ) (rest : List Mark) → Ends fixed p (o ∷ os) (frame_of n) → 1 ≤ changes (characters os) rest → (Ends fixed (next fixed p o) os (frame_of n) → X) → BreaksBy (judge p o) X
      passed [] rest e more k = absurd (omega arith)
      passed (x ∷ os) rest e more k = inr (e.0, k e.1)
