-- What is left of a character record, mark by mark.
use Rattle.std.proofs.Common.{◌≡◌, ℕ, zero, suc, ◌+◌, ◌<◌, ◌≤◌, List, [], ◌∷◌, ◌++◌, length, drop, Some, None, sym, refl, ap, ◌∙◌, add-one, arith}
use Rattle.std.proofs.lemmas.List.{drop_at}
use Rattle.lines.specs.Characters.{at_place}
use Rattle.lines.specs.Entries.{entries, entry, left_from, status_of}
use Rattle.lines.specs.declared.mark.Mark.{Mark}
use Rattle.lines.specs.declared.character.Status.{Status}
use Rattle.lines.specs.declared.character.Status.TheVariants as status

pub entry_length : (s : Status) (o : ℕ) → length (entry s o) ≡ 11
entry_length status.Sound o = refl
entry_length status.ParityReversed o = refl
entry_length status.StopZero o = refl
entry_length status.Idle o = refl
entry_length status.Bad o = refl

-- none is answered only past a list's end
pub past_end : (ms : List Mark) (k : ℕ) → at_place ms k ≡ None → length ms ≤ k
past_end [] k e = omega arith
past_end (m ∷ ms) zero e = absurd cc
past_end (m ∷ ms) (suc k) e = let h = past_end ms k e in omega arith

pub inside : (ms : List Mark) (k : ℕ) (m : Mark) → at_place ms k ≡ Some m → k < length ms
inside [] k m e = absurd cc
inside (n ∷ ms) zero m e = omega arith
inside (n ∷ ms) (suc k) m e = let h = inside ms k m e in omega arith

-- what stands at a place is there, and the rest behind it
pub next_of : (ms more : List Mark) (k : ℕ) (m : Mark) → at_place ms k ≡ Some m → drop k (ms ++ more) ≡ m ∷ drop (suc k) (ms ++ more)
next_of [] more k m e = absurd cc
next_of (n ∷ ms) more zero m e = let same : n ≡ m = cc in ap (λ x. x ∷ (ms ++ more)) same
next_of (n ∷ ms) more (suc k) m e = next_of ms more k m e

module _ (s o : ℕ) (rest : List ℕ) (k : ℕ) where
  -- a mark of the entry but its last
  pub entry_next : (m : Mark) → at_place (entry (status_of s) o) k ≡ Some m → left_from k (s ∷ (o ∷ rest)) ≡ m ∷ left_from (k + 1) (s ∷ (o ∷ rest))
  entry_next m e =
      let marks = entry (status_of s) o in
      next_of marks (entries rest) k m e ∙ ap (λ i. m ∷ drop i (marks ++ entries rest)) (sym (add-one k))

  -- the entry's last mark
  pub entry_last : (m : Mark) → at_place (entry (status_of s) o) k ≡ Some m → 10 ≤ k → left_from k (s ∷ (o ∷ rest)) ≡ m ∷ entries rest
  entry_last m e h =
      let marks = entry (status_of s) o in
      let within = inside marks k m e in
      let eleven = entry_length (status_of s) o in
      let last : length marks ≡ suc k = omega arith in
      next_of marks (entries rest) k m e ∙ ap (λ t. m ∷ t) (drop_at marks (entries rest) (suc k) last)
