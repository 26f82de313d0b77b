-- Octets written as two hex digits.
use Rattle.std.specs.Prelude.{ℕ, ◌+◌, ◌-◌, ◌*◌, cond, ◌&&◌, List, [], ◌∷◌, Some, None, Option, nat_le}

-- the value of a hex digit by its code: 0 to 9 are 48 to 57, A to F are 65 to 70, a to f are 97 to 102
abbrev pub digit_of : ℕ → Option ℕ
digit_of c = cond (nat_le 48 c && nat_le c 57) (Some (c - 48)) (cond (nat_le 65 c && nat_le c 70) (Some (c - 55)) (cond (nat_le 97 c && nat_le c 102) (Some (c - 87)) None))

-- sixteen times the first digit and the second
abbrev pub joined : Option ℕ → Option ℕ → Option ℕ
joined None l = None
joined (Some h) None = None
joined (Some h) (Some l) = Some (16 * h + l)

-- the octet that a word writes: two digits, and nothing else
abbrev pub octet_of : List ℕ → Option ℕ
octet_of [] = None
octet_of (h ∷ []) = None
octet_of (h ∷ (l ∷ [])) = joined (digit_of h) (digit_of l)
octet_of (h ∷ (l ∷ (x ∷ more))) = None
