-- FT2 made from its settings.
use Rattle.std.specs.Prelude.{◌≡◌, ℕ, [], Ok, Err, Result}
use Rattle.formats.specs.declared.refusal.SettingsRefusal.{SettingsRefusal}
use Rattle.formats.specs.declared.refusal.SettingsRefusal.TheVariants.{OutOfLimits}
use Rattle.ft2_laws.specs.Limits.{Within}
use Rattle.ft2.specs.Standing.{Standing}
use Rattle.ft2.specs.declared.format.Ft2.{Ft2}

-- a format with these settings that stands for the empty list, or a refusal where a number is outside its limits
abbrev pub Made : ℕ → ℕ → Result Ft2 SettingsRefusal → Type 0
Made fixed header (Ok f) = (f.settings.fixed ≡ fixed) × (f.settings.header ≡ header) × Standing f.settings f.reader []
Made fixed header (Err OutOfLimits) = Within fixed header → ⊥
