-- The number of each refusal, and number and layer of the fault that every format has.
use Rattle.std.specs.Prelude.{ℕ}
use Rattle.formats.specs.Verdicts.{Cause}
use Rattle.formats.specs.declared.fault.LineFault.{LineFault}
use Rattle.formats.specs.declared.fault.LineFault.TheVariants.{BadMark}
use Rattle.formats.specs.declared.fault.Layer.TheVariants as layer
use Rattle.formats.specs.declared.refusal.SettingsRefusal.{SettingsRefusal}
use Rattle.formats.specs.declared.refusal.SettingsRefusal.TheVariants.{OutOfLimits}
use Rattle.formats.specs.declared.refusal.WriteRefusal.{WriteRefusal}
use Rattle.formats.specs.declared.refusal.WriteRefusal.TheVariants.{NoSuchKind, WrongCount, WrongFirst, ShortBuffer}

abbrev pub line_cause : LineFault → Cause
line_cause BadMark = record { number = 21; layer = layer.Line }

abbrev pub settings_refusal_number : SettingsRefusal → ℕ
settings_refusal_number OutOfLimits = 1

abbrev pub write_refusal_number : WriteRefusal → ℕ
write_refusal_number NoSuchKind = 6
write_refusal_number WrongCount = 7
write_refusal_number WrongFirst = 8
write_refusal_number ShortBuffer = 9
