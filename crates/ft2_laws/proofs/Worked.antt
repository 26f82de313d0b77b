-- The frames worked by hand are those of the definitions.
use Rattle.std.proofs.Common.{◌≡◌, ℕ, ◌+◌, ◌*◌, max, List, [], ◌∷◌, ◌++◌, take, drop, refl, ap, ap₂, lit≤}
use Rattle.checks.specs.Check.{remainder_bits, check_bits, check_octet}
use Rattle.ft2_laws.specs.Frames.{in_blocks, marks_of, with_check}
use Rattle.ft2_laws.specs.Worked.{Worked}

-- a variable frame, by its header length
abbrev variable : List ℕ → ℕ → List ℕ
variable os header = 0x14 ∷ (with_check (take header os) ++ in_blocks (drop header os))

pub worked : Worked
unfolding check_octet check_bits remainder_bits
worked = record {
  at = record { fixed = 1; header = 2; limits = (lit≤ tt, lit≤ tt, lit≤ tt, lit≤ tt) };
  fixed_is = refl;
  header_is = refl;
  fixed_of_one = λ s e. refl;
  no_body = λ s e. ap (variable (0x00 ∷ (0x05 ∷ []))) e;
  body_of_one = λ s e. ap (variable (0x01 ∷ (0x05 ∷ (0x01 ∷ [])))) e;
  as_marks = λ s e. ap (λ header. marks_of (variable (0x01 ∷ (0x05 ∷ (0x01 ∷ []))) header)) e;
  gap = λ s f e. ap₂ (λ fixed header. 8 * (max fixed (header + 15) + 3)) f e;
}
