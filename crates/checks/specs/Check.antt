-- The check octet of an FT2 block.
use Rattle.std.specs.Prelude.{◌≡◌, ℕ, ◌-◌, ◌/◌, ◌%◌, Bool, not, List, [], ◌∷◌, ◌++◌, map, replicate}
use Rattle.checks.specs.Bits.{bits, octet_bits, block_bits, value, ones, odd_ones}
use Rattle.checks.specs.Division.{RemainderOf, remainder}

-- x^7 + x^6 + x^5 + x^2 + 1
abbrev pub generator : ℕ
generator = 0xE5

-- the seven remainder bits, highest first
unfoldable pub remainder_bits : List Bool → List Bool
remainder_bits u = bits 7 (remainder 7 generator u)

-- makes the ones in block, remainder bits and itself even in number
abbrev pub parity_bit : List Bool → Bool
parity_bit u = odd_ones (u ++ remainder_bits u)

-- the eight check bits as they are sent: remainder bits and parity bit, all inverted
unfoldable pub check_bits : List Bool → List Bool
check_bits u = map not (remainder_bits u ++ (parity_bit u ∷ []))

-- the check octet
unfoldable pub check_octet : List Bool → ℕ
check_octet u = value (check_bits u)

-- the rule of the check octet: inverted again, its seven high bits are the one remainder of the block times x^7,
-- and the ones in block and check are then even in number
pub record Rule (u : List Bool) (octet : ℕ) : Type 0 where
  pub divided : RemainderOf 7 generator u ((255 - octet) / 2)
  pub only : (r : ℕ) → RemainderOf 7 generator u r → r ≡ (255 - octet) / 2
  pub even : ones (u ++ octet_bits (255 - octet)) % 2 ≡ 0

-- blocks with their check octets
pub record Worked : Type 0 where
  pub block_00 : check_octet (block_bits (0x00 ∷ [])) ≡ 0xFF
  pub block_01 : check_octet (block_bits (0x01 ∷ [])) ≡ 0x34
  pub block_80 : check_octet (block_bits (0x80 ∷ [])) ≡ 0xF8
  pub block_FF : check_octet (block_bits (0xFF ∷ [])) ≡ 0xBD
  pub fifteen_FF : check_octet (block_bits (replicate 15 0xFF)) ≡ 0x00
