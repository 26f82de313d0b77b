-- The FT2 frames.
use Rattle.std.specs.Prelude.{ℕ, zero, suc, ◌+◌, ◌-◌, ◌*◌, max, Bool, true, false, cond, ◌&&◌, List, [], ◌∷◌, ◌++◌, map, length, take, drop, Some, None, Option, ◌==◌, nat_le}
use Rattle.checks.specs.Bits.{block_bits, octet_bits}
use Rattle.checks.specs.Check.{check_octet}
use Rattle.lines.specs.Characters.{mark_if}
use Rattle.lines.specs.declared.mark.Mark.{Mark}
use Rattle.ft2_laws.specs.declared.kind.Kind.{Kind}
use Rattle.ft2_laws.specs.declared.kind.Kind.TheVariants.{Fixed, Variable}
use Rattle.ft2_laws.specs.declared.settings.Settings.{Settings}

abbrev pub kind_number : Kind → ℕ
kind_number Fixed = 1
kind_number Variable = 2

-- the kind of a number
abbrev pub kind_of : ℕ → Option Kind
kind_of n = cond (n == 1) (Some Fixed) (cond (n == 2) (Some Variable) None)

abbrev pub is_kind : Option Kind → Bool
is_kind None = false
is_kind (Some k) = true

-- whether so many user octets suit a kind
abbrev pub count_suits : Settings → Kind → ℕ → Bool
count_suits settings Fixed n = n == settings.fixed
count_suits settings Variable n = nat_le settings.header n && nat_le n (settings.header + 15)

abbrev pub suits_kind : Settings → Option Kind → ℕ → Bool
suits_kind settings None n = false
suits_kind settings (Some k) n = count_suits settings k n

abbrev pub first_octet : List ℕ → ℕ
first_octet [] = 0
first_octet (o ∷ os) = o

-- whether the first octet suits the others: in a variable frame it is the octet count less the header length
abbrev pub first_suits : Settings → Kind → List ℕ → Bool
first_suits settings Fixed os = true
first_suits settings Variable os = first_octet os == length os - settings.header

abbrev pub headed_kind : Settings → Option Kind → List ℕ → Bool
headed_kind settings None os = false
headed_kind settings (Some k) os = first_suits settings k os

-- the check octet of a block
abbrev pub check_of : List ℕ → ℕ
check_of block = check_octet (block_bits block)

-- a block, and behind it its check octet
abbrev pub with_check : List ℕ → List ℕ
with_check block = block ++ (check_of block ∷ [])

-- octets cut into at most n blocks of 15, the last possibly shorter, each with its check octet
abbrev pub cut_in : ℕ → List ℕ → List ℕ
cut_in zero os = []
cut_in (suc n) [] = []
cut_in (suc n) (o ∷ os) = with_check (take 15 (o ∷ os)) ++ cut_in n (drop 15 (o ∷ os))

-- octets cut into blocks; no octets are no block
abbrev pub in_blocks : List ℕ → List ℕ
in_blocks os = cut_in (length os) os

-- the octets of a frame, by its kind and user octets; the start octet belongs to no block
abbrev pub frame_octets : Settings → Kind → List ℕ → List ℕ
frame_octets settings Fixed os = 0x27 ∷ in_blocks os
frame_octets settings Variable os = 0x14 ∷ (with_check (take settings.header os) ++ in_blocks (drop settings.header os))

-- the eight marks of an octet, highest bit first
abbrev pub octet_marks : ℕ → List Mark
octet_marks o = map mark_if (octet_bits o)

-- the marks of octets, nothing between them
abbrev pub marks_of : List ℕ → List Mark
marks_of [] = []
marks_of (o ∷ os) = octet_marks o ++ marks_of os

-- the marks of a frame
abbrev pub frame_marks : Settings → Option Kind → List ℕ → List Mark
frame_marks settings None os = []
frame_marks settings (Some k) os = marks_of (frame_octets settings k os)

-- the marks of a quiet gap: eight for each octet of the longest frame
abbrev pub gap_marks : Settings → ℕ
gap_marks settings = 8 * (max settings.fixed (settings.header + 15) + 3)
