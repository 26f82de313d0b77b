-- What alterations of a block and its check show.
use Rattle.std.specs.Prelude.{◌≡◌, ℕ, ◌%◌, ◌<◌, ◌≤◌, Bool, List, [], ◌∷◌, ◌++◌, length, ◌≢◌}
use Rattle.checks.specs.Bits.{block_bits, differences, zeros}
use Rattle.checks.specs.Check.{check_bits}

-- a block u of at most 120 bits with its check, and another block v of that length with eight bits c:
-- where the two differ in at least one place and in fewer than d, c is not the check of v
abbrev pub AlteredShows : ℕ → Type 0
AlteredShows d = (u v c : List Bool) → length u ≤ 120 → length v ≡ length u → length c ≡ 8 → 0 < differences (u ++ check_bits u) (v ++ c) → differences (u ++ check_bits u) (v ++ c) < d → c ≢ check_bits v

-- two blocks of one octet that differ, with their checks, in d places
abbrev pub Attained : ℕ → Type 0
Attained d = (a : ℕ) × (b : ℕ) × (differences (block_bits (a ∷ []) ++ check_bits (block_bits (a ∷ []))) (block_bits (b ∷ []) ++ check_bits (block_bits (b ∷ []))) ≡ d)

-- a block of 1 to 15 octets with its check has at least n zeros, so it is never ones only, and they are even in number
abbrev pub ZerosLaw : ℕ → Type 0
ZerosLaw n = (block : List ℕ) → 0 < length block → length block ≤ 15 → (n ≤ zeros (block_bits block ++ check_bits (block_bits block))) × (zeros (block_bits block ++ check_bits (block_bits block)) % 2 ≡ 0)

-- a block of one octet that has, with its check, n zeros
abbrev pub ZerosAttained : ℕ → Type 0
ZerosAttained n = (a : ℕ) × (zeros (block_bits (a ∷ []) ++ check_bits (block_bits (a ∷ []))) ≡ n)
