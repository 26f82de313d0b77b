-- Noise by shifts and exclusive or, of numbers with 32 bits.
use Rattle.std.specs.Prelude.{ℕ, ◌+◌, ◌*◌, ◌/◌, ◌%◌, ◌^◌, bit_and, bit_xor, if◌then◌else◌, nat_lt}
use Rattle.lines.specs.declared.mark.Mark.{Mark}
use Rattle.lines.specs.declared.mark.Mark.TheVariants.{Zero, One, Bad}

-- a number with itself shifted to the left or to the right
abbrev pub with_left : ℕ → ℕ → ℕ
with_left k x = bit_xor x ((x * 2 ^ k) % 2 ^ 32)

abbrev pub with_right : ℕ → ℕ → ℕ
with_right k x = bit_xor x (x / 2 ^ k)

-- the state that comes after a state
abbrev pub shifted : ℕ → ℕ
shifted x = with_left 5 (with_right 17 (with_left 13 x))

-- bits 8 to 15
abbrev pub octet_of : ℕ → ℕ
octet_of x = bit_and (x / 2 ^ 8) 0xff

-- the mark that an octet of noise gives
abbrev pub mark_of : ℕ → ℕ → ℕ → Mark
mark_of zeros bad octet = if nat_lt octet zeros then Zero else (if nat_lt octet (zeros + bad) then Bad else One)
