-- Bits in sending order, and the octets that they make.
use Rattle.std.specs.Prelude.{ℕ, zero, suc, ◌+◌, ◌/◌, ◌%◌, ◌^◌, Bool, true, false, cond, not, List, [], ◌∷◌, ◌++◌, length, ◌==◌}

-- whether bit k of a number is 1, the lowest being bit 0
abbrev pub bit : ℕ → ℕ → Bool
bit n k = n / (2 ^ k) % 2 == 1

-- the k low bits of a number, highest first
abbrev pub bits : ℕ → ℕ → List Bool
bits zero n = []
bits (suc k) n = bit n k ∷ bits k n

-- an octet is sent highest bit first
abbrev pub octet_bits : ℕ → List Bool
octet_bits octet = bits 8 octet

-- the octets of a block are sent one after the other, nothing between
abbrev pub block_bits : List ℕ → List Bool
block_bits [] = []
block_bits (octet ∷ octets) = octet_bits octet ++ block_bits octets

-- the number whose bits these are, highest first
abbrev pub value : List Bool → ℕ
value [] = 0
value (b ∷ bs) = cond b (2 ^ length bs) 0 + value bs

-- how many of the bits are 1
abbrev pub ones : List Bool → ℕ
ones [] = 0
ones (true ∷ bs) = suc (ones bs)
ones (false ∷ bs) = ones bs

-- how many of the bits are 0
abbrev pub zeros : List Bool → ℕ
zeros [] = 0
zeros (true ∷ bs) = zeros bs
zeros (false ∷ bs) = suc (zeros bs)

-- whether the ones are odd in number
abbrev pub odd_ones : List Bool → Bool
odd_ones [] = false
odd_ones (true ∷ bs) = not (odd_ones bs)
odd_ones (false ∷ bs) = odd_ones bs

-- 1 where two bits differ, else 0
abbrev pub differ : Bool → Bool → ℕ
differ true true = 0
differ true false = 1
differ false true = 1
differ false false = 0

-- in how many places two lists differ; where one is longer, each bit more is a difference
abbrev pub differences : List Bool → List Bool → ℕ
differences [] v = length v
differences (a ∷ u) [] = suc (length u)
differences (a ∷ u) (b ∷ v) = differ a b + differences u v
