-- The FT1.2 frames.
use Rattle.std.specs.Prelude.{ℕ, ◌+◌, ◌%◌, Bool, true, false, cond, List, [], ◌∷◌, ◌++◌, length, Some, None, Option, ◌==◌, nat_lt}
use Rattle.lines.specs.Characters.{character}
use Rattle.lines.specs.declared.mark.Mark.{Mark}
use Rattle.ft12_laws.specs.declared.kind.Kind.{Kind}
use Rattle.ft12_laws.specs.declared.kind.Kind.TheVariants.{Fixed, Variable, SingleE5, SingleA2}

abbrev pub kind_number : Kind → ℕ
kind_number Fixed = 1
kind_number Variable = 2
kind_number SingleE5 = 3
kind_number SingleA2 = 4

-- the kind of a number
abbrev pub kind_of : ℕ → Option Kind
kind_of n = cond (n == 1) (Some Fixed) (cond (n == 2) (Some Variable) (cond (n == 3) (Some SingleE5) (cond (n == 4) (Some SingleA2) None)))

abbrev pub is_kind : Option Kind → Bool
is_kind None = false
is_kind (Some k) = true

-- whether so many user octets suit a kind, where the fixed length is given
abbrev pub count_suits : ℕ → Kind → ℕ → Bool
count_suits fixed Fixed n = n == fixed
count_suits fixed Variable n = nat_lt n 256
count_suits fixed SingleE5 n = n == 0
count_suits fixed SingleA2 n = n == 0

abbrev pub suits_kind : ℕ → Option Kind → ℕ → Bool
suits_kind fixed None n = false
suits_kind fixed (Some k) n = count_suits fixed k n

abbrev pub added_up : List ℕ → ℕ
added_up [] = 0
added_up (o ∷ os) = o + added_up os

-- the sum of all user octets modulo 256
abbrev pub sum_of : List ℕ → ℕ
sum_of os = added_up os % 256

-- the user octets, their sum and the end character
abbrev pub closed : List ℕ → List ℕ
closed os = os ++ (sum_of os ∷ (0x16 ∷ []))

-- the octets of a frame, by its kind and user octets
abbrev pub frame_octets : Kind → List ℕ → List ℕ
frame_octets Fixed os = 0x10 ∷ closed os
frame_octets Variable os = 0x68 ∷ (length os ∷ (length os ∷ (0x68 ∷ closed os)))
frame_octets SingleE5 os = 0xE5 ∷ []
frame_octets SingleA2 os = 0xA2 ∷ []

-- the characters of octets, one after the other
abbrev pub characters : List ℕ → List Mark
characters [] = []
characters (o ∷ os) = character o ++ characters os

-- the marks of a frame
abbrev pub frame_marks : Option Kind → List ℕ → List Mark
frame_marks None os = []
frame_marks (Some k) os = characters (frame_octets k os)
