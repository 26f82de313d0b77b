-- Lists of bits: their ones, their zeros, and the places where two of them differ.
use Rattle.std.proofs.Common.{◌≡◌, ℕ, zero, suc, ◌+◌, ◌*◌, ◌%◌, Bool, true, false, cond, not, List, [], ◌∷◌, ◌++◌, map, length, sym, refl, ap, ◌∙◌, arith, length-append}
use Rattle.checks.specs.Bits.{bits, octet_bits, block_bits, ones, zeros, odd_ones, differ, differences}
use Rattle.checks.proofs.Folding.{plus, added}

pub length_bits : (k n : ℕ) → length (bits k n) ≡ k
length_bits zero n = refl
length_bits (suc k) n = ap suc (length_bits k n)

pub length_block : (octets : List ℕ) → length (block_bits octets) ≡ 8 * length octets
length_block [] = refl
length_block (o ∷ os) = omega (arith, length-append (octet_bits o) (block_bits os), length_block os, length_bits 8 o)

pub length_added : (u v : List Bool) → length u ≡ length v → length (added u v) ≡ length u
length_added [] v e = refl
length_added (b ∷ u) [] e = absurd (omega (arith, e))
length_added (b ∷ u) (c ∷ v) e = ap suc (length_added u v (omega arith))

pub differences_append : (u v a b : List Bool) → length u ≡ length v → differences (u ++ a) (v ++ b) ≡ differences u v + differences a b
differences_append [] [] a b e = omega arith
differences_append [] (y ∷ v) a b e = absurd (omega (arith, e))
differences_append (x ∷ u) [] a b e = absurd (omega (arith, e))
differences_append (x ∷ u) (y ∷ v) a b e = omega (arith, differences_append u v a b (omega arith))

differ_not : (a b : Bool) → differ (not a) (not b) ≡ differ a b
differ_not true true = refl
differ_not true false = refl
differ_not false true = refl
differ_not false false = refl

-- both inverted, two lists differ where they differed
pub differences_not : (u v : List Bool) → length u ≡ length v → differences (map not u) (map not v) ≡ differences u v
differences_not [] [] e = refl
differences_not [] (y ∷ v) e = absurd (omega (arith, e))
differences_not (x ∷ u) [] e = absurd (omega (arith, e))
differences_not (x ∷ u) (y ∷ v) e = omega (arith, differ_not x y, differences_not u v (omega arith))

-- the ones of a sum stand where the two lists differ
pub ones_added : (u v : List Bool) → length u ≡ length v → ones (added u v) ≡ differences u v
ones_added [] [] e = refl
ones_added [] (y ∷ v) e = absurd (omega (arith, e))
ones_added (x ∷ u) [] e = absurd (omega (arith, e))
ones_added (true ∷ u) (true ∷ v) e = omega (arith, ones_added u v (omega arith))
ones_added (true ∷ u) (false ∷ v) e = omega (arith, ones_added u v (omega arith))
ones_added (false ∷ u) (true ∷ v) e = omega (arith, ones_added u v (omega arith))
ones_added (false ∷ u) (false ∷ v) e = omega (arith, ones_added u v (omega arith))

-- ones by their parity
pub ones_odd : (u : List Bool) → ones u % 2 ≡ cond (odd_ones u) 1 0
ones_odd [] = refl
ones_odd (true ∷ u) = go (odd_ones u) (ones_odd u)
  where
    go : (b : Bool) → ones u % 2 ≡ cond b 1 0 → suc (ones u) % 2 ≡ cond (not b) 1 0
    go true h = omega arith
    go false h = omega arith
ones_odd (false ∷ u) = ones_odd u

plus_not_l : (a b : Bool) → plus (not a) b ≡ not (plus a b)
plus_not_l true true = refl
plus_not_l true false = refl
plus_not_l false b = refl

plus_not_r : (a b : Bool) → plus a (not b) ≡ not (plus a b)
plus_not_r true b = refl
plus_not_r false b = refl

not_not : (b : Bool) → not (not b) ≡ b
not_not true = refl
not_not false = refl

pub odd_added : (u v : List Bool) → length u ≡ length v → odd_ones (added u v) ≡ plus (odd_ones u) (odd_ones v)
odd_added [] [] e = refl
odd_added [] (y ∷ v) e = absurd (omega (arith, e))
odd_added (x ∷ u) [] e = absurd (omega (arith, e))
odd_added (true ∷ u) (true ∷ v) e =
    odd_added u v (omega arith) ∙ sym (plus_not_l (odd_ones u) (not (odd_ones v)) ∙ ap not (plus_not_r (odd_ones u) (odd_ones v)) ∙ not_not (plus (odd_ones u) (odd_ones v)))
odd_added (true ∷ u) (false ∷ v) e = ap not (odd_added u v (omega arith)) ∙ sym (plus_not_l (odd_ones u) (odd_ones v))
odd_added (false ∷ u) (true ∷ v) e = ap not (odd_added u v (omega arith)) ∙ sym (plus_not_r (odd_ones u) (odd_ones v))
odd_added (false ∷ u) (false ∷ v) e = odd_added u v (omega arith)

pub odd_append : (u v : List Bool) → odd_ones (u ++ v) ≡ plus (odd_ones u) (odd_ones v)
odd_append [] v = refl
odd_append (true ∷ u) v = ap not (odd_append u v) ∙ sym (plus_not_l (odd_ones u) (odd_ones v))
odd_append (false ∷ u) v = odd_append u v

differ_plus : (a b : Bool) → differ a b ≡ cond (plus a b) 1 0
differ_plus true true = refl
differ_plus true false = refl
differ_plus false true = refl
differ_plus false false = refl

-- two parities differ where the lists differ in an odd number of places
pub differ_odd : (u v : List Bool) → length u ≡ length v → differ (odd_ones u) (odd_ones v) ≡ differences u v % 2
differ_odd u v e =
    differ_plus (odd_ones u) (odd_ones v)
    ∙ sym (ap (λ n. n % 2) (sym (ones_added u v e)) ∙ ones_odd (added u v) ∙ ap (λ b. cond b 1 0) (odd_added u v e))

pub ones_append : (u v : List Bool) → ones (u ++ v) ≡ ones u + ones v
ones_append [] v = omega arith
ones_append (true ∷ u) v = omega (arith, ones_append u v)
ones_append (false ∷ u) v = ones_append u v

pub zeros_append : (u v : List Bool) → zeros (u ++ v) ≡ zeros u + zeros v
zeros_append [] v = omega arith
zeros_append (true ∷ u) v = zeros_append u v
zeros_append (false ∷ u) v = omega (arith, zeros_append u v)

pub zeros_not : (u : List Bool) → zeros (map not u) ≡ ones u
zeros_not [] = refl
zeros_not (true ∷ u) = ap suc (zeros_not u)
zeros_not (false ∷ u) = zeros_not u

pub zeros_ones : (u : List Bool) → zeros u + ones u ≡ length u
zeros_ones [] = refl
zeros_ones (true ∷ u) = omega (arith, zeros_ones u)
zeros_ones (false ∷ u) = omega (arith, zeros_ones u)
