-- What the writer puts down.
use Rattle.std.proofs.Common.{◌≡◌, ℕ, zero, suc, ◌+◌, ◌*◌, ◌%◌, ◌<◌, ◌≤◌, true, List, [], ◌∷◌, ◌++◌, map, length, get_or, take, fold, Some, Ok, Err, Result, MatchResult, sym, refl, ap, ◌∙◌, subst, arith, lit≤, length-append}
use Rattle.std.proofs.lemmas.List.{append-nil, get_or_default, get_or-map, length-map, same_lists, take_more}
use Rattle.lines.specs.Characters.{at_place, character}
use Rattle.lines.specs.Records.{mark_octet}
use Rattle.lines.specs.declared.mark.Mark.{Mark}
use Rattle.formats.specs.Answers.{Written}
use Rattle.formats.specs.Laws.{Octets}
use Rattle.formats.specs.Putting.{Put}
use Rattle.formats.specs.declared.refusal.WriteRefusal.{WriteRefusal}
use Rattle.formats.specs.declared.refusal.WriteRefusal.TheVariants.{ShortBuffer}
use Rattle.formats.proofs.Putting.{put_filled, put_same}
use Rattle.ft12_laws.proofs.Laws.{ft12_laws}
use Rattle.ft12_laws.specs.Frames.{added_up, characters, closed, count_suits, frame_marks, frame_octets, is_kind, kind_of, suits_kind, sum_of}
use Rattle.ft12_laws.specs.Reading.{ft12_model}
use Rattle.ft12_laws.specs.declared.kind.Kind.{Kind}
use Rattle.ft12_laws.specs.declared.kind.Kind.TheVariants.{Fixed, Variable, SingleE5, SingleA2}

-- octets of marks, told by their places
pub map_by_place : (f : Mark → ℕ) (z : Mark) (ms : List Mark) (os : List ℕ) → length os ≡ length ms → ((i : ℕ) → i < length ms → get_or os i 0 ≡ f (get_or ms i z)) → os ≡ map f ms
map_by_place f z ms os l each =
    same_lists os (map f ms) (l ∙ sym (length-map ms f)) (λ i d h.
    let inside : i < length ms = subst (λ n. i < n) l h in
    get_or_default os i d 0 h ∙ each i inside ∙ sym (get_or-map f ms i z d inside))

-- what stands at a place of a list of marks, as an octet
pub place_octet : (ms : List Mark) (i : ℕ) (m : Mark) → at_place ms i ≡ Some m → mark_octet m ≡ get_or (map mark_octet ms) i 0
place_octet [] i m e = absurd cc
place_octet (n ∷ ms) zero m e = let same : m ≡ n = cc in ap mark_octet same
place_octet (n ∷ ms) (suc i) m e = place_octet ms i m e

pub characters_append : (os us : List ℕ) → characters (os ++ us) ≡ characters os ++ characters us
characters_append [] us = refl
characters_append (o ∷ os) us = grind (arith, characters_append os us)

pub characters_length : (os : List ℕ) → length (characters os) ≡ 11 * length os
characters_length [] = refl
characters_length (o ∷ os) = let rest = characters_length os in omega arith

-- the characters of so many octets, and of one more
pub characters_more : (os : List ℕ) (i : ℕ) → i < length os → characters (take i os) ++ character (get_or os i 0) ≡ characters (take (i + 1) os)
characters_more os i h =
    ap (λ ms. characters (take i os) ++ ms) (sym (append-nil (character (get_or os i 0))))
    ∙ sym (characters_append (take i os) (get_or os i 0 ∷ [])) ∙ ap characters (sym (take_more os i 0 h))

pub closed_marks : (os : List ℕ) → length (characters (closed os)) ≡ 11 * (length os + 2)
closed_marks os = omega (arith, characters_length (closed os), length-append os (sum_of os ∷ (0x16 ∷ [])))

-- how many octets a frame has
closed_length : (os : List ℕ) → length (closed os) ≡ length os + 2
closed_length os = length-append os (sum_of os ∷ (0x16 ∷ []))

pub fixed_count : (k : Kind) (os : List ℕ) → k ≡ Fixed → length (frame_octets k os) ≡ length os + 3
fixed_count k os e = ap (λ j. length (frame_octets j os)) e ∙ (let n = closed_length os in omega arith)

pub variable_count : (k : Kind) (os : List ℕ) → k ≡ Variable → length (frame_octets k os) ≡ length os + 6
variable_count k os e = ap (λ j. length (frame_octets j os)) e ∙ (let n = closed_length os in omega arith)

pub frame_few : (k : Kind) (os : List ℕ) → length os < 256 → length (frame_octets k os) ≤ 261
frame_few Fixed os h = let n = closed_length os in omega arith
frame_few Variable os h = let n = closed_length os in omega arith
frame_few SingleE5 os h = lit≤ tt
frame_few SingleA2 os h = lit≤ tt

-- the sum, octet by octet
pub added_more : (os : List ℕ) (i : ℕ) → i < length os → added_up (take (i + 1) os) ≡ added_up (take i os) + get_or os i 0
added_more os i h = ap added_up (take_more os i 0 h) ∙ push (take i os) (get_or os i 0)
  where
    push : (xs : List ℕ) (y : ℕ) → added_up (xs ++ (y ∷ [])) ≡ added_up xs + y
    push [] y = omega arith
    push (x ∷ xs) y = let rest = push xs y in omega arith

sum_from : (sum : ℕ) (os : List ℕ) → sum < 256 → fold (λ sum o. (sum + o) % 256) sum os ≡ (sum + added_up os) % 256
sum_from sum [] h = omega arith
sum_from sum (o ∷ os) h = let rest = sum_from ((sum + o) % 256) os (omega arith) in omega arith

pub sum_fold : (os : List ℕ) → fold (λ sum o. (sum + o) % 256) 0 os ≡ sum_of os
sum_fold os = let all = sum_from 0 os (omega arith) in omega arith

-- what `write` answers for a kind with a count that suits it, by what putting the frame answers
module _ (fixed number : ℕ) (k : Kind) (os before after : List ℕ) (small : fixed ≤ 255) (is : kind_of number ≡ Some k) (suits : count_suits fixed k (length os) ≡ true) (are : Octets os) where
  known : is_kind (kind_of number) ≡ true
  known = ap is_kind is

  its_count : suits_kind fixed (kind_of number) (length os) ≡ true
  its_count = ap (λ o. suits_kind fixed o (length os)) is ∙ suits

  its_marks : frame_marks (Some k) os ≡ frame_marks (kind_of number) os
  its_marks = ap (λ o. frame_marks o os) (sym is)

  pub written : (r : Result ℕ WriteRefusal) → MatchResult r (λ n. (n ≤ length before) × Put 0 (frame_marks (Some k) os) before n after) (λ e. (e ≡ ShortBuffer) × (after ≡ before) × (length before < length (frame_marks (Some k) os))) → Written (ft12_model fixed) number os before r after
  written (Ok n) a =
      let put = put_same its_marks a.1 in
      (known, its_count, refl, omega (arith, put.behind), a.0, put_filled put, (ft12_laws fixed (omega arith)).frame_reads number os (record { kind_known = known; count_suits = its_count; first_suits = refl; are_octets = are }))
  written (Err e) a = subst (λ e. Written (ft12_model fixed) number os before (Err e) after) (sym a.0) (a.1, known, its_count, refl, subst (λ ms. length before < length ms) its_marks a.2)
