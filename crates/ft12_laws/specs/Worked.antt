-- Frames worked by hand.
use Rattle.std.specs.Prelude.{◌≡◌, [], ◌∷◌, length}
use Rattle.lines.specs.declared.mark.Mark.TheVariants.{Zero, One}
use Rattle.ft12_laws.specs.Frames.{characters, frame_octets, frame_marks, kind_of}
use Rattle.ft12_laws.specs.declared.kind.Kind.TheVariants.{Fixed, Variable}

pub record Worked : Type 0 where
  pub kind_3 : frame_marks (kind_of 3) [] ≡ Zero ∷ (One ∷ (Zero ∷ (One ∷ (Zero ∷ (Zero ∷ (One ∷ (One ∷ (One ∷ (One ∷ (One ∷ []))))))))))
  pub kind_4 : frame_marks (kind_of 4) [] ≡ Zero ∷ (Zero ∷ (One ∷ (Zero ∷ (Zero ∷ (Zero ∷ (One ∷ (Zero ∷ (One ∷ (One ∷ (One ∷ []))))))))))
  pub fixed_of_two : frame_octets Fixed (0x49 ∷ (0x01 ∷ [])) ≡ 0x10 ∷ (0x49 ∷ (0x01 ∷ (0x4A ∷ (0x16 ∷ []))))
  pub its_marks : length (frame_marks (kind_of 1) (0x49 ∷ (0x01 ∷ []))) ≡ 55
  pub none_inside : frame_octets Variable [] ≡ 0x68 ∷ (0x00 ∷ (0x00 ∷ (0x68 ∷ (0x00 ∷ (0x16 ∷ [])))))
  pub carry_dropped : frame_octets Variable (0xFF ∷ (0x02 ∷ [])) ≡ 0x68 ∷ (0x02 ∷ (0x02 ∷ (0x68 ∷ (0xFF ∷ (0x02 ∷ (0x01 ∷ (0x16 ∷ [])))))))
  pub as_marks : frame_marks (kind_of 2) (0xFF ∷ (0x02 ∷ [])) ≡ characters (0x68 ∷ (0x02 ∷ (0x02 ∷ (0x68 ∷ (0xFF ∷ (0x02 ∷ (0x01 ∷ (0x16 ∷ []))))))))
