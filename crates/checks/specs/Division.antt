-- Division of polynomials modulo 2. A polynomial is a list of coefficients from the highest power down,
-- or the number that has them for its bits; a sum is an exclusive or.
use Rattle.std.specs.Prelude.{◌≡◌, ℕ, suc, ◌*◌, ◌^◌, ◌<◌, ◌≤◌, Bool, cond, List, [], ◌∷◌, length, bit_xor, nat_lt}

-- p where a coefficient is 1, else 0
abbrev pub times_bit : Bool → ℕ → ℕ
times_bit b p = cond b p 0

-- the product of two polynomials
abbrev pub product : List Bool → ℕ → ℕ
product [] p = 0
product (b ∷ bs) p = bit_xor (times_bit b (p * 2 ^ length bs)) (product bs p)

-- r is a remainder of u times x^k at the division by P: below degree k, and with a multiple of P it makes u times x^k
abbrev pub RemainderOf : ℕ → ℕ → List Bool → ℕ → Type 0
RemainderOf k P u r = (r < 2 ^ k) × ((q : List Bool) × (product u (2 ^ k) ≡ bit_xor (product q P) r))

-- a polynomial of degree k
abbrev pub OfDegree : ℕ → ℕ → Type 0
OfDegree k P = (2 ^ k ≤ P) × (P < 2 ^ suc k)

-- less P where degree k is reached
abbrev pub reduced : ℕ → ℕ → ℕ → ℕ
reduced k P t = cond (nat_lt t (2 ^ k)) t (bit_xor t P)

-- one bit more: the remainder moves up by one power, the bit comes in at x^k
abbrev pub step : ℕ → ℕ → ℕ → Bool → ℕ
step k P r b = reduced k P (bit_xor (r * 2) (times_bit b (2 ^ k)))

-- the bits taken in from a remainder on
abbrev pub remainder_from : ℕ → ℕ → ℕ → List Bool → ℕ
remainder_from k P r [] = r
remainder_from k P r (b ∷ bs) = remainder_from k P (step k P r b) bs

-- the remainder of u times x^k at the division by P
abbrev pub remainder : ℕ → ℕ → List Bool → ℕ
remainder k P u = remainder_from k P 0 u

-- the bits taken in one by one give the one remainder that there is, whatever the block and the divisor
abbrev pub DivisionLaw : Type 0
DivisionLaw = (k P : ℕ) → OfDegree k P → (u : List Bool) → RemainderOf k P u (remainder k P u) × ((r : ℕ) → RemainderOf k P u r → r ≡ remainder k P u)
