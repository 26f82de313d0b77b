-- Eight marks and their octet.
use Rattle.std.proofs.Common.{◌≡◌, ℕ, ◌+◌, ◌*◌, ◌%◌, ◌^◌, ◌<◌, ◌≤◌, Bool, true, false, cond, ◌⊎◌, List, [], ◌∷◌, ◌++◌, map, length, sym, refl, ap, ◌∙◌, subst, inl, inr, arith}
use lib.ListN.{length-map}
use Rattle.checks.specs.Bits.{bit, bits, octet_bits, block_bits}
use Rattle.checks.specs.Bits as word
use Rattle.checks.proofs.Octets.{octet_of_eight, value_lt, value_octet}
use Rattle.checks.proofs.Words.{length_block}
use Rattle.lines.specs.Characters.{mark_if}
use Rattle.lines.specs.declared.mark.Mark.{Mark}
use Rattle.lines.specs.declared.mark.Mark.TheVariants.{Zero, One, Bad}
use Rattle.std.proofs.lemmas.List.{map-append}
use Rattle.ft2_laws.specs.Frames.{marks_of, octet_marks}
use Rattle.ft2_laws.specs.Reading.{moved_in, octet_of, value}

value_small : (m : Mark) → value m ≤ 1
value_small Zero = omega arith
value_small One = omega arith
value_small Bad = omega arith

-- marks moved in one after the other
abbrev pub moved : ℕ → List Mark → ℕ
moved o [] = o
moved o (m ∷ ms) = moved (moved_in o m) ms

abbrev pub eight : Mark → Mark → Mark → Mark → Mark → Mark → Mark → Mark → List Mark
eight a b c d e f g h = a ∷ (b ∷ (c ∷ (d ∷ (e ∷ (f ∷ (g ∷ (h ∷ [])))))))

-- one mark more, where there is room for it
push : (o m s : ℕ) → o ≡ s → s < 128 → o * 2 % 256 + m ≡ 2 * s + m
push o m s e h = omega arith

-- eight marks moved in are their octet
pub moved_eight : (a b c d e f g h : Mark) → moved 0 (eight a b c d e f g h) ≡ octet_of a b c d e f g h
moved_eight a b c d e f g h =
    let va = value_small a in
    let vb = value_small b in
    let vc = value_small c in
    let vd = value_small d in
    let ve = value_small e in
    let vf = value_small f in
    let vg = value_small g in
    let s1 = push 0 (value a) 0 refl (omega arith) in
    let s2 = push (moved 0 (a ∷ [])) (value b) (value a) (omega (arith, s1)) (omega (arith, va)) in
    let s3 = push (moved 0 (a ∷ (b ∷ []))) (value c) (2 * value a + value b) s2 (omega (arith, va, vb)) in
    let s4 = push (moved 0 (a ∷ (b ∷ (c ∷ [])))) (value d) (2 * (2 * value a + value b) + value c) s3 (omega (arith, va, vb, vc)) in
    let s5 = push (moved 0 (a ∷ (b ∷ (c ∷ (d ∷ []))))) (value e) (2 * (2 * (2 * value a + value b) + value c) + value d) s4 (omega (arith, va, vb, vc, vd)) in
    let s6 = push (moved 0 (a ∷ (b ∷ (c ∷ (d ∷ (e ∷ [])))))) (value f) (2 * (2 * (2 * (2 * value a + value b) + value c) + value d) + value e) s5 (omega (arith, va, vb, vc, vd, ve)) in
    let s7 = push (moved 0 (a ∷ (b ∷ (c ∷ (d ∷ (e ∷ (f ∷ []))))))) (value g) (2 * (2 * (2 * (2 * (2 * value a + value b) + value c) + value d) + value e) + value f) s6 (omega (arith, va, vb, vc, vd, ve, vf)) in
    let s8 = push (moved 0 (a ∷ (b ∷ (c ∷ (d ∷ (e ∷ (f ∷ (g ∷ [])))))))) (value h) (2 * (2 * (2 * (2 * (2 * (2 * value a + value b) + value c) + value d) + value e) + value f) + value g) s7 (omega (arith, va, vb, vc, vd, ve, vf, vg)) in
    s8 ∙ regroup (value a) (value b) (value c) (value d) (value e) (value f) (value g) (value h)
  where
    regroup : (a b c d e f g h : ℕ) → 2 * (2 * (2 * (2 * (2 * (2 * (2 * a + b) + c) + d) + e) + f) + g) + h ≡ 128 * a + 64 * b + 32 * c + 16 * d + 8 * e + 4 * f + 2 * g + h
    regroup a b c d e f g h = omega arith

times_value : (n : ℕ) (b : Bool) → n * value (mark_if b) ≡ cond b n 0
times_value n true = omega arith
times_value n false = omega arith

-- the octet of eight good marks is the number of their bits
pub octet_value : (a b c d e f g h : Bool) → octet_of (mark_if a) (mark_if b) (mark_if c) (mark_if d) (mark_if e) (mark_if f) (mark_if g) (mark_if h) ≡ word.value (a ∷ (b ∷ (c ∷ (d ∷ (e ∷ (f ∷ (g ∷ (h ∷ []))))))))
octet_value a b c d e f g h =
    omega (arith, times_value 128 a, times_value 64 b, times_value 32 c, times_value 16 d, times_value 8 e, times_value 4 f, times_value 2 g, times_value 1 h)

-- an octet's own marks move in as itself
pub moves_in : (o : ℕ) → o < 256 → moved 0 (octet_marks o) ≡ o
moves_in o fits =
    moved_eight (mark_if (bit o 7)) (mark_if (bit o 6)) (mark_if (bit o 5)) (mark_if (bit o 4)) (mark_if (bit o 3)) (mark_if (bit o 2)) (mark_if (bit o 1)) (mark_if (bit o 0))
    ∙ octet_value (bit o 7) (bit o 6) (bit o 5) (bit o 4) (bit o 3) (bit o 2) (bit o 1) (bit o 0)
    ∙ value_octet o fits

-- a bad mark is among the marks
abbrev pub HasBad : List Mark → Type 0
HasBad [] = ⊥
HasBad (Zero ∷ ms) = HasBad ms
HasBad (One ∷ ms) = HasBad ms
HasBad (Bad ∷ ms) = Unit {0}

-- marks are bits, or a bad one is among them
pub good_or_bad : (ms : List Mark) → ((bs : List Bool) × (ms ≡ map mark_if bs)) ⊎ HasBad ms
good_or_bad [] = inl ([], refl)
good_or_bad (Bad ∷ ms) = inr tt
good_or_bad (Zero ∷ ms) = elim (good_or_bad ms) [ inl g ↦ inl (false ∷ g.0, ap (λ x. Zero ∷ x) g.1) | inr b ↦ inr b ]
good_or_bad (One ∷ ms) = elim (good_or_bad ms) [ inl g ↦ inl (true ∷ g.0, ap (λ x. One ∷ x) g.1) | inr b ↦ inr b ]

-- eight marks are those of an octet, or a bad one is among them
pub octet_or_bad : (ms : List Mark) → length ms ≡ 8 → ((o : ℕ) × (o < 256) × (ms ≡ octet_marks o)) ⊎ HasBad ms
octet_or_bad ms l = go (good_or_bad ms)
  where
    go : ((bs : List Bool) × (ms ≡ map mark_if bs)) ⊎ HasBad ms → ((o : ℕ) × (o < 256) × (ms ≡ octet_marks o)) ⊎ HasBad ms
    go (inr b) = inr b
    go (inl g) =
        let count : length g.0 ≡ 8 = sym (length-map g.0 mark_if) ∙ ap length (sym g.1) ∙ l in
        inl (
          word.value g.0,
          subst (λ n. word.value g.0 < 2 ^ n) count (value_lt g.0),
          g.1 ∙ ap (map mark_if) (sym (octet_of_eight g.0 count)),
        )

-- the marks of octets are their bits
pub marks_bits : (os : List ℕ) → marks_of os ≡ map mark_if (block_bits os)
marks_bits [] = refl
marks_bits (o ∷ os) = ap (λ ms. octet_marks o ++ ms) (marks_bits os) ∙ sym (map-append mark_if (octet_bits o) (block_bits os))

pub length_marks : (os : List ℕ) → length (marks_of os) ≡ 8 * length os
length_marks os = ap length (marks_bits os) ∙ length-map (block_bits os) mark_if ∙ length_block os

pub marks_append : (os ps : List ℕ) → marks_of (os ++ ps) ≡ marks_of os ++ marks_of ps
marks_append [] ps = refl
marks_append (o ∷ os) ps = ap (λ ms. octet_marks o ++ ms) (marks_append os ps)
