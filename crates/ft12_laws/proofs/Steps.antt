-- Reading a character, mark by mark.
use Rattle.std.proofs.Common.{◌≡◌, ℕ, ◌<◌, Bool, true, false, ◌⊎◌, List, [], ◌∷◌, ◌++◌, map, sym, refl, ap, ◌∙◌, subst, inl, inr}
use Rattle.lines.specs.Characters.{bit, character, data_marks, mark_if, odd_ones, parity_mark}
use Rattle.lines.specs.declared.mark.Mark.{Mark}
use Rattle.lines.specs.declared.mark.Mark.TheVariants.{Zero, One, Bad}
use Rattle.formats.specs.Verdicts.{Verdict, open_list, Open, octet_told}
use Rattle.formats.proofs.Machines.{Breaks, BreaksBy, Judged, told}
use Rattle.ft12_laws.specs.Machine.{beginning, ft12_machine}
use Rattle.ft12_laws.specs.Reading.{judge, judge_start, judge_data, judge_parity, judge_stop, next}
use Rattle.ft12_laws.specs.declared.reading.Place.{Place}
use Rattle.ft12_laws.proofs.Bits.{moved, moved_below, moved_marks, moves_in}

later : {X Y : Type 0} (v : Verdict) → Open v → X ⊎ Y → BreaksBy v X ⊎ Y
later v o (inl x) = inl (inr (o, x))
later v o (inr y) = inr y

start_then : {Y : Type 0} (m : Mark) (X : Type 0) → (m ≡ Zero → X ⊎ Y) → BreaksBy (judge_start m) X ⊎ Y
start_then Zero X k = later open_list tt (k refl)
start_then One X k = inl (inl tt)
start_then Bad X k = inl (inl tt)

data_then : {Y : Type 0} (m : Mark) (X : Type 0) → ((b : Bool) → m ≡ mark_if b → X ⊎ Y) → BreaksBy (judge_data m) X ⊎ Y
data_then Zero X k = later open_list tt (k false refl)
data_then One X k = later open_list tt (k true refl)
data_then Bad X k = inl (inl tt)

parity_then : {Y : Type 0} (due m : Mark) (X : Type 0) → (m ≡ due → X ⊎ Y) → BreaksBy (judge_parity due m) X ⊎ Y
parity_then due Bad X k = inl (inl tt)
parity_then Zero Zero X k = later open_list tt (k refl)
parity_then One Zero X k = inl (inl tt)
parity_then Bad Zero X k = inl (inl tt)
parity_then Zero One X k = inl (inl tt)
parity_then One One X k = later open_list tt (k refl)
parity_then Bad One X k = inl (inl tt)

stop_then : {Y : Type 0} (v : Verdict) (m : Mark) (X : Type 0) → (m ≡ One → Y) → BreaksBy (judge_stop v m) X ⊎ Y
stop_then v Zero X k = inl (inl tt)
stop_then v One X k = inr (k refl)
stop_then v Bad X k = inl (inl tt)

-- eleven marks that are a character
abbrev pub eleven : Mark → Mark → Mark → Mark → Mark → Mark → Mark → Mark → Mark → Mark → Mark → List Mark
eleven s a b c d e f g h i t = s ∷ (a ∷ (b ∷ (c ∷ (d ∷ (e ∷ (f ∷ (g ∷ (h ∷ (i ∷ (t ∷ []))))))))))

abbrev pub IsCharacter : List Mark → Type 0
IsCharacter ms = (o : ℕ) × (o < 256) × (ms ≡ character o)

-- good marks with the parity mark that is due are a character
good_marks : (a b c d e f g h : Bool) (i : Mark)
    → i ≡ parity_mark (moved 0 (map mark_if (a ∷ (b ∷ (c ∷ (d ∷ (e ∷ (f ∷ (g ∷ (h ∷ []))))))))))
    → IsCharacter (eleven Zero (mark_if a) (mark_if b) (mark_if c) (mark_if d) (mark_if e) (mark_if f) (mark_if g) (mark_if h) i One)
good_marks a b c d e f g h i p =
    let bits = a ∷ (b ∷ (c ∷ (d ∷ (e ∷ (f ∷ (g ∷ (h ∷ []))))))) in
    let o = moved 0 (map mark_if bits) in (
      o,
      moved_below bits refl,
      ap (λ x. eleven Zero (mark_if a) (mark_if b) (mark_if c) (mark_if d) (mark_if e) (mark_if f) (mark_if g) (mark_if h) x One) p
          ∙ ap (λ ms. Zero ∷ (ms ++ (parity_mark o ∷ (One ∷ [])))) (sym (moved_marks bits refl)),
    )

module _ (fixed : ℕ) (p : Place) where
  -- eleven marks break, or are a character
  pub breaks_or_character : (s a b c d e f g h i t : Mark) (rest : List Mark)
      → Breaks (ft12_machine fixed) (beginning p) (eleven s a b c d e f g h i t ++ rest) ⊎ IsCharacter (eleven s a b c d e f g h i t)
  breaks_or_character s a b c d e f g h i t rest =
      start_then s _ (λ es. data_then a _ (λ b1 e1. data_then b _ (λ b2 e2. data_then c _ (λ b3 e3. data_then d _ (λ b4 e4. data_then e _ (λ b5 e5. data_then f _ (λ b6 e6. data_then g _ (λ b7 e7. data_then h _ (λ b8 e8. parity_then _ i _ (λ ep. stop_then _ t _ (λ et.
      let bits = b1 ∷ (b2 ∷ (b3 ∷ (b4 ∷ (b5 ∷ (b6 ∷ (b7 ∷ (b8 ∷ []))))))) in
      let marks : a ∷ (b ∷ (c ∷ (d ∷ (e ∷ (f ∷ (g ∷ (h ∷ []))))))) ≡ map mark_if bits = cc in
      let due : i ≡ parity_mark (moved 0 (map mark_if bits)) = ep ∙ ap (λ ms. parity_mark (moved 0 ms)) marks in
      let same : eleven s a b c d e f g h i t ≡ eleven Zero (mark_if b1) (mark_if b2) (mark_if b3) (mark_if b4) (mark_if b5) (mark_if b6) (mark_if b7) (mark_if b8) i One = cc in
      subst IsCharacter (sym same) (good_marks b1 b2 b3 b4 b5 b6 b7 b8 i due))))))))))))

opens : (v : Verdict) → v ≡ open_list → Open v
opens v e = subst Open (sym e) tt

data_open : (b : Bool) → judge_data (mark_if b) ≡ open_list
data_open true = refl
data_open false = refl

own_parity : (b : Bool) → judge_parity (mark_if b) (mark_if b) ≡ open_list
own_parity true = refl
own_parity false = refl

quiet : (v : Verdict) (xs ys : List ℕ) → v ≡ open_list → xs ≡ ys → octet_told v ++ xs ≡ ys
quiet v xs ys e r = ap (λ w. octet_told w ++ xs) e ∙ r

-- reading an octet's character at a place is judging the octet there
module _ (fixed : ℕ) (p : Place) (o : ℕ) (fits : o < 256) where
  due_open : judge_parity (parity_mark (moved 0 (data_marks o))) (parity_mark o) ≡ open_list
  due_open = ap (λ x. judge_parity (parity_mark x) (parity_mark o)) (moves_in o fits) ∙ own_parity (odd_ones (data_marks o))

  at_bit : (k : ℕ) → Open (judge_data (mark_if (bit o k)))
  at_bit k = opens _ (data_open (bit o k))

  pub character_breaks : (rest : List Mark) → BreaksBy (judge p o) (Breaks (ft12_machine fixed) (beginning (next fixed p o)) rest) → Breaks (ft12_machine fixed) (beginning p) (character o ++ rest)
  character_breaks rest h =
      let end = subst (λ x. BreaksBy (judge p x) (Breaks (ft12_machine fixed) (beginning (next fixed p x)) rest)) (sym (moves_in o fits)) h in
      inr (tt, inr (at_bit 0, inr (at_bit 1, inr (at_bit 2, inr (at_bit 3, inr (at_bit 4, inr (at_bit 5, inr (at_bit 6, inr (at_bit 7, inr (opens _ due_open, end))))))))))

  pub character_last : (w : Verdict) → judge p o ≡ w → Judged (ft12_machine fixed) (beginning p) (character o ++ []) w
  character_last w e =
      (tt, (at_bit 0, (at_bit 1, (at_bit 2, (at_bit 3, (at_bit 4, (at_bit 5, (at_bit 6, (at_bit 7, (opens _ due_open, ap (judge p) (moves_in o fits) ∙ e))))))))))

  pub character_goes_on : (n : Mark) (ms : List Mark) (w : Verdict) → Open (judge p o) → Judged (ft12_machine fixed) (beginning (next fixed p o)) (n ∷ ms) w → Judged (ft12_machine fixed) (beginning p) (character o ++ (n ∷ ms)) w
  character_goes_on n ms w a j =
      let open_end = subst (λ x. Open (judge p x)) (sym (moves_in o fits)) a in
      let end = subst (λ x. Judged (ft12_machine fixed) (beginning (next fixed p x)) (n ∷ ms) w) (sym (moves_in o fits)) j in
      (tt, (at_bit 0, (at_bit 1, (at_bit 2, (at_bit 3, (at_bit 4, (at_bit 5, (at_bit 6, (at_bit 7, (opens _ due_open, (open_end, end)))))))))))

  pub last_character : (w : Verdict) → Judged (ft12_machine fixed) (beginning p) (character o ++ []) w → judge p o ≡ w
  last_character w j = sym (ap (judge p) (moves_in o fits)) ∙ j.1.1.1.1.1.1.1.1.1.1

  pub character_went_on : (n : Mark) (ms : List Mark) (w : Verdict) → Judged (ft12_machine fixed) (beginning p) (character o ++ (n ∷ ms)) w → Open (judge p o) × Judged (ft12_machine fixed) (beginning (next fixed p o)) (n ∷ ms) w
  character_went_on n ms w j =
      let end = j.1.1.1.1.1.1.1.1.1.1 in
      (subst (λ x. Open (judge p x)) (moves_in o fits) end.0, subst (λ x. Judged (ft12_machine fixed) (beginning (next fixed p x)) (n ∷ ms) w) (moves_in o fits) end.1)

  pub character_told : (rest : List Mark) → told (ft12_machine fixed) (beginning p) (character o ++ rest) ≡ octet_told (judge p o) ++ told (ft12_machine fixed) (beginning (next fixed p o)) rest
  character_told rest =
      let end = ap (λ x. octet_told (judge p x) ++ told (ft12_machine fixed) (beginning (next fixed p x)) rest) (moves_in o fits) in
      quiet _ _ _ (data_open (bit o 0)) (quiet _ _ _ (data_open (bit o 1)) (quiet _ _ _ (data_open (bit o 2)) (quiet _ _ _ (data_open (bit o 3)) (quiet _ _ _ (data_open (bit o 4)) (quiet _ _ _ (data_open (bit o 5)) (quiet _ _ _ (data_open (bit o 6)) (quiet _ _ _ (data_open (bit o 7)) (quiet _ _ _ due_open end))))))))
