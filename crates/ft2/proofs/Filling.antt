-- Octets and blocks in a mark buffer.
use Rattle.std.proofs.Common.{◌≡◌, ℕ, zero, suc, ◌+◌, ◌*◌, ◌<◌, ◌≤◌, min, Bool, true, false, List, [], ◌∷◌, ◌++◌, map, length, get_or, take, drop, set, sym, refl, ap, ◌∙◌, subst, ap₂, inl, inr, append_assoc, arith, length-append, length-drop}
use mir.Val.{bool_byte}
use borrow.Rule.Slice.PartMut.{put_mid}
use Rattle.std.proofs.lemmas.Bool.{cases_lt}
use Rattle.std.proofs.lemmas.Grind.{same_number_lists}
use Rattle.std.proofs.lemmas.List.{append-nil, drop_all, drop_at, drop_more, get_or-map, length-map, length_push, map_push, nil_from_length, set_at, take_all, take_at, take_more}
use Rattle.std.proofs.lemmas.List.Edits.{paste_none}
use Rattle.std.proofs.lemmas.Slice.{put_mid-paste}
use Rattle.checks.specs.Bits.{octet_bits}
use Rattle.lines.specs.Characters.{mark_if}
use Rattle.lines.specs.Records.{mark_octet}
use Rattle.lines.specs.declared.mark.Mark.{Mark}
use Rattle.formats.specs.Answers.{filled}
use Rattle.formats.specs.Putting.{Put}
use Rattle.formats.proofs.Putting.{put_join, put_same}
use Rattle.ft2_laws.specs.Frames.{check_of, cut_in, in_blocks, marks_of, octet_marks, with_check}
use Rattle.ft2_laws.proofs.Bits.{length_marks, marks_append}

pub put_none : (at : ℕ) (entry : List ℕ) → Put at [] entry at entry
put_none at entry = record { behind = omega arith; held = paste_none entry at [] }

digit : (b : Bool) → bool_byte b ≡ mark_octet (mark_if b)
digit true = refl
digit false = refl

-- one mark more behind those that the buffer is filled with
pub set_filled : (done : List Mark) (before : List ℕ) (m : Mark) (n v : ℕ) → length done ≡ n → n < length (filled done before) → v ≡ mark_octet m → set (filled done before) n v ≡ filled (done ++ (m ∷ [])) before
set_filled done before m n v l room is =
    let front : List ℕ = map mark_octet done in
    let lf : length front ≡ n = length-map done mark_octet ∙ l in
    let inside : n < length before = omega (arith, room, length-append front (drop (length done) before), lf, length-drop (length done) before) in
    ap (λ k. set (front ++ drop k before) n v) l
    ∙ ap (λ xs. set (front ++ xs) n v) (drop_more before n 0 inside)
    ∙ set_at front (get_or before n 0) (drop (n + 1) before) v n lf
    ∙ ap (λ x. front ++ (x ∷ drop (n + 1) before)) is
    ∙ sym (append_assoc front (mark_octet m ∷ []) (drop (n + 1) before))
    ∙ ap₂ (λ x k. x ++ drop k before) (sym (map_push mark_octet done m)) (sym (length_push done m ∙ ap (λ k. k + 1) l))

-- the bytes of an octet's bits are its marks
pub octet_digits : (o : ℕ) (bs : List Bool) (ys : List ℕ) → bs ≡ octet_bits o → length ys ≡ 8 → ((i : ℕ) → i < 8 → get_or ys i 0 ≡ bool_byte (get_or bs i false)) → ys ≡ map mark_octet (octet_marks o)
octet_digits o bs ys is l each =
    same_number_lists ys (map mark_octet (octet_marks o)) l
    (λ k h.
    let few : k < 8 = omega arith in
    each k few ∙ digit (get_or bs k false) ∙ ap (λ x. mark_octet (mark_if (get_or x k false))) is
    ∙ sym (get_or-map mark_octet (octet_marks o) k (mark_if false) 0 few ∙ ap mark_octet (get_or-map mark_if (octet_bits o) k false (mark_if false) few)))

-- marks put as a part of the buffer
pub put_part : (at n r : ℕ) (ms : List Mark) (entry part : List ℕ) → n ≡ length ms → r ≡ at + length ms → part ≡ map mark_octet ms → Put at ms entry r (put_mid at n entry part)
put_part at n r ms entry part l end is = record {
  behind = end;
  held = put_mid-paste at n entry part (map mark_octet ms) (length ms) is (sym l) (sym (length-map ms mark_octet));
}

-- Octets of a block.

pub octets_more : (block : List ℕ) (i o at : ℕ) {n k : ℕ} {a b c : List ℕ} → at ≤ length a → i < length block → o ≡ get_or block i 0 → Put at (marks_of (take i block)) a n b → Put n (octet_marks o) b k c → Put at (marks_of (take (i + 1) block)) a k c
octets_more block i o at {n} {k} {a} {b} {c} room h is p q =
    put_same
    (ap (λ x. marks_of (take i block) ++ octet_marks x) is ∙ ap (λ ms. marks_of (take i block) ++ ms) (sym (append-nil (octet_marks (get_or block i 0)))) ∙ sym (marks_append (take i block) (get_or block i 0 ∷ [])) ∙ ap marks_of (sym (take_more block i 0 h)))
    (put_join room p q)

pub block_put : (block : List ℕ) (i o at : ℕ) {n k : ℕ} {a b c : List ℕ} → at ≤ length a → length block ≤ i → o ≡ check_of block → Put at (marks_of (take i block)) a n b → Put n (octet_marks o) b k c → Put at (marks_of (with_check block)) a k c
block_put block i o at {n} {k} {a} {b} {c} room h is p q =
    put_same
    (ap₂ (λ x y. marks_of x ++ octet_marks y) (take_all i block h) is ∙ ap (λ ms. marks_of block ++ ms) (sym (append-nil (octet_marks (check_of block)))) ∙ sym (marks_append block (check_of block ∷ [])))
    (put_join room p q)

-- Blocks.

cut_enough : (f g : ℕ) (os : List ℕ) → length os ≤ f → length os ≤ g → cut_in f os ≡ cut_in g os
cut_enough zero zero os a b = refl
cut_enough zero (suc g) [] a b = refl
cut_enough zero (suc g) (o ∷ os) a b = absurd (omega arith)
cut_enough (suc f) zero [] a b = refl
cut_enough (suc f) zero (o ∷ os) a b = absurd (omega arith)
cut_enough (suc f) (suc g) [] a b = refl
cut_enough (suc f) (suc g) (o ∷ os) a b =
    ap (λ x. with_check (take 15 (o ∷ os)) ++ x) (cut_enough f g (drop 15 (o ∷ os)) (omega (arith, length-drop 15 (o ∷ os))) (omega (arith, length-drop 15 (o ∷ os))))

pub cut_next : (os : List ℕ) → 0 < length os → in_blocks os ≡ with_check (take 15 os) ++ in_blocks (drop 15 os)
cut_next [] h = absurd (omega (arith, h))
cut_next (o ∷ os) h =
    ap (λ x. with_check (take 15 (o ∷ os)) ++ x) (cut_enough (length os) (length (drop 15 (o ∷ os))) (drop 15 (o ∷ os)) (omega (arith, length-drop 15 (o ∷ os))) (omega arith))

-- the first block of octets, and the others
module _ (os block rest : List ℕ) (is : os ≡ block ++ rest) (most : length block ≡ min 15 (length os)) where
  block_alone : length block < 15 → rest ≡ []
  block_alone h = nil_from_length rest (omega (arith, ap length is, length-append block rest))

  first_block : take 15 os ≡ block
  first_block = elim (cases_lt (length block) 15) [
    | inl h ↦ take_all 15 os (omega arith) ∙ is ∙ ap (λ x. block ++ x) (block_alone h) ∙ append-nil block
    | inr h ↦ ap (take 15) is ∙ take_at block rest 15 (omega arith)
  ]

  other_blocks : drop 15 os ≡ rest
  other_blocks = elim (cases_lt (length block) 15) [
    | inl h ↦ drop_all 15 os (omega arith) ∙ sym (block_alone h)
    | inr h ↦ ap (drop 15) is ∙ drop_at block rest 15 (omega arith)
  ]

  blocks_next : 0 < length os → in_blocks os ≡ with_check block ++ in_blocks rest
  blocks_next h = cut_next os h ∙ ap₂ (λ x y. with_check x ++ in_blocks y) first_block other_blocks

-- blocks put from a place on complete what is to be put
pub record BlocksPut (os rest : List ℕ) (at : ℕ) (entry : List ℕ) (next : ℕ) (now : List ℕ) : Type 0 where
  pub room : next + length (marks_of (in_blocks rest)) ≤ length now
  pub completes : (k : ℕ) (then : List ℕ) → Put next (marks_of (in_blocks rest)) now k then → Put at (marks_of (in_blocks os)) entry k then

pub blocks_none : (os left : List ℕ) (at : ℕ) (entry : List ℕ) → left ≡ os → at + length (marks_of (in_blocks os)) ≤ length entry → BlocksPut os left at entry at entry
blocks_none os left at entry same room = subst (λ x. BlocksPut os x at entry at entry) (sym same) (record { room = room; completes = λ k then p. p })

-- one block more, as it is cut from what is left
module _ (os left block rest : List ℕ) (at size : ℕ) (entry : List ℕ) (next : ℕ) (now : List ℕ) (b : BlocksPut os left at entry next now) (fifteen : size ≡ 15) (cut : (left ≡ block ++ rest) × (length block ≡ min size (length left)) × (0 < length left)) where
  marks_next : marks_of (in_blocks left) ≡ marks_of (with_check block) ++ marks_of (in_blocks rest)
  marks_next = ap marks_of (blocks_next left block rest cut.0 (cut.1 ∙ ap (λ n. min n (length left)) fifteen) cut.2) ∙ marks_append (with_check block) (in_blocks rest)

  pub blocks_room : next + 8 * (length block + 1) ≤ length now
  blocks_room =
      omega (
        arith,
        b.room,
        ap length marks_next,
        length-append (marks_of (with_check block)) (marks_of (in_blocks rest)),
        length_marks (with_check block),
        length-append block (check_of block ∷ []),
      )

  pub blocks_more : (n : ℕ) (then : List ℕ) → length then ≡ length now → Put next (marks_of (with_check block)) now n then → BlocksPut os rest at entry n then
  blocks_more n then same p = record {
    room = omega (arith, b.room, p.behind, ap length marks_next, length-append (marks_of (with_check block)) (marks_of (in_blocks rest)));
    completes = λ k last q. b.completes k last (put_same (sym marks_next) (put_join (omega (arith, b.room)) p q));
  }

pub blocks_all : (os left : List ℕ) (at : ℕ) (entry : List ℕ) (next : ℕ) (now : List ℕ) → BlocksPut os left at entry next now → length left ≡ 0 → Put at (marks_of (in_blocks os)) entry next now
blocks_all os [] at entry next now b none = b.completes next now (put_none next now)
blocks_all os (o ∷ left) at entry next now b none = absurd (omega arith)
