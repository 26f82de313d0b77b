-- Frames worked by hand.
use Rattle.std.specs.Prelude.{◌≡◌, [], ◌∷◌}
use Rattle.ft2_laws.specs.Frames.{frame_octets, frame_marks, gap_marks, kind_of, marks_of}
use Rattle.ft2_laws.specs.declared.kind.Kind.TheVariants.{Fixed, Variable}
use Rattle.ft2_laws.specs.declared.settings.Settings.{Settings}

-- at a header length of 2, whatever the fixed length; and the gap at a fixed length of 1
pub record Worked : Type 0 where
  pub at : Settings
  pub fixed_is : at.fixed ≡ 1
  pub header_is : at.header ≡ 2
  pub fixed_of_one : (s : Settings) → s.header ≡ 2 → frame_octets s Fixed (0x01 ∷ []) ≡ 0x27 ∷ (0x01 ∷ (0x34 ∷ []))
  pub no_body : (s : Settings) → s.header ≡ 2 → frame_octets s Variable (0x00 ∷ (0x05 ∷ [])) ≡ 0x14 ∷ (0x00 ∷ (0x05 ∷ (0x88 ∷ [])))
  pub body_of_one : (s : Settings) → s.header ≡ 2 → frame_octets s Variable (0x01 ∷ (0x05 ∷ (0x01 ∷ []))) ≡ 0x14 ∷ (0x01 ∷ (0x05 ∷ (0x85 ∷ (0x01 ∷ (0x34 ∷ [])))))
  pub as_marks : (s : Settings) → s.header ≡ 2 → frame_marks s (kind_of 2) (0x01 ∷ (0x05 ∷ (0x01 ∷ []))) ≡ marks_of (0x14 ∷ (0x01 ∷ (0x05 ∷ (0x85 ∷ (0x01 ∷ (0x34 ∷ []))))))
  pub gap : (s : Settings) → s.fixed ≡ 1 → s.header ≡ 2 → gap_marks s ≡ 160
