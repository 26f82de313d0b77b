-- The FT1.2 character.
use Rattle.std.specs.Prelude.{ℕ, zero, suc, ◌/◌, ◌%◌, ◌^◌, Bool, true, false, not, List, [], ◌∷◌, ◌++◌, Some, None, Option, ◌==◌}
use Rattle.lines.specs.declared.mark.Mark.{Mark}
use Rattle.lines.specs.declared.mark.Mark.TheVariants.{Zero, One, Bad}

-- mark 1 where the test holds
abbrev pub mark_if : Bool → Mark
mark_if true = One
mark_if false = Zero

-- whether bit k of an octet is 1, the lowest being bit 0
abbrev pub bit : ℕ → ℕ → Bool
bit octet k = octet / (2 ^ k) % 2 == 1

-- the eight data marks, lowest bit first
abbrev pub data_marks : ℕ → List Mark
data_marks o = mark_if (bit o 0) ∷ (mark_if (bit o 1) ∷ (mark_if (bit o 2) ∷ (mark_if (bit o 3) ∷ (mark_if (bit o 4) ∷ (mark_if (bit o 5) ∷ (mark_if (bit o 6) ∷ (mark_if (bit o 7) ∷ [])))))))

-- whether the marks of 1 are odd in number
abbrev pub odd_ones : List Mark → Bool
odd_ones [] = false
odd_ones (Zero ∷ ms) = odd_ones ms
odd_ones (One ∷ ms) = not (odd_ones ms)
odd_ones (Bad ∷ ms) = odd_ones ms

-- the parity mark: with it the ones among data and parity marks are even in number
abbrev pub parity_mark : ℕ → Mark
parity_mark o = mark_if (odd_ones (data_marks o))

-- start mark 0, eight data marks, and a parity and a stop mark as given
abbrev pub framed : Mark → Mark → ℕ → List Mark
framed parity stop o = Zero ∷ (data_marks o ++ (parity ∷ (stop ∷ [])))

-- the character of an octet: its own parity mark, and stop mark 1
abbrev pub character : ℕ → List Mark
character o = framed (parity_mark o) One o

-- what stands at a place of a list, counted from 0; none past its end
abbrev pub at_place : List Mark → ℕ → Option Mark
at_place [] k = None
at_place (m ∷ ms) zero = Some m
at_place (m ∷ ms) (suc k) = at_place ms k
