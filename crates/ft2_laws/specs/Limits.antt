-- What settings FT2 has.
use Rattle.std.specs.Prelude.{ℕ, ◌≤◌}

-- a fixed length of 1 to 30 and a header length of 1 to 15
abbrev pub Within : ℕ → ℕ → Type 0
Within fixed header = (1 ≤ fixed) × (fixed ≤ 30) × (1 ≤ header) × (header ≤ 15)
