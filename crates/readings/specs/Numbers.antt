-- Numbers as they are keyed, symbol by symbol: 0 to 9 are 48 to 57, and the point is 46.
use Rattle.std.specs.Prelude.{ℕ, ◌+◌, ◌-◌, ◌*◌, cond, ◌&&◌, List, [], ◌∷◌, length, take, drop, Some, None, Option, ◌==◌, nat_le, nat_lt}

-- a number with one digit more, up to seven digits
abbrev pub with_digit : ℕ → ℕ → Option ℕ
with_digit number symbol = cond (nat_lt number 1000000 && (nat_le 48 symbol && nat_le symbol 57)) (Some (10 * number + (symbol - 48))) None

abbrev pub longer : Option ℕ → ℕ → Option ℕ
longer None symbol = None
longer (Some number) symbol = with_digit number symbol

-- the number that goes on with these digits, if each is one
abbrev pub digits_on : Option ℕ → List ℕ → Option ℕ
digits_on number [] = number
digits_on number (symbol ∷ symbols) = digits_on (longer number symbol) symbols

abbrev pub digits_behind : Option ℕ → List ℕ → Option ℕ
digits_behind None decimals = None
digits_behind (Some whole) decimals = digits_on (Some whole) decimals

-- digits, a point and more digits, read as one number
abbrev pub pointed : List ℕ → List ℕ → Option ℕ
pointed whole [] = None
pointed whole (point ∷ decimals) = cond (point == 46) (digits_behind (digits_on (Some 0) whole) decimals) None

-- a number with so many decimals, at most nine, and at least one digit before its point
abbrev pub decimal_of : ℕ → List ℕ → Option ℕ
decimal_of places symbols =
    cond (nat_le places 9 && nat_le (places + 2) (length symbols)) (pointed (take (length symbols - places - 1) symbols) (drop (length symbols - places - 1) symbols)) None
