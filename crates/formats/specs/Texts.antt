-- What is printed of a layer and of the refusals.
use Rattle.std.specs.Prelude.{ℕ, List, codes}
use Rattle.formats.specs.declared.fault.Layer.{Layer}
use Rattle.formats.specs.declared.fault.Layer.TheVariants.{Line, Character, Frame}
use Rattle.formats.specs.declared.refusal.SettingsRefusal.{SettingsRefusal}
use Rattle.formats.specs.declared.refusal.SettingsRefusal.TheVariants.{OutOfLimits}
use Rattle.formats.specs.declared.refusal.WriteRefusal.{WriteRefusal}
use Rattle.formats.specs.declared.refusal.WriteRefusal.TheVariants.{NoSuchKind, WrongCount, WrongFirst, ShortBuffer}

abbrev pub layer_text : Layer → List ℕ
layer_text Line = codes "line"
layer_text Character = codes "character"
layer_text Frame = codes "frame"

abbrev pub settings_refusal_text : SettingsRefusal → List ℕ
settings_refusal_text OutOfLimits = codes "a setting is outside its limits"

abbrev pub write_refusal_text : WriteRefusal → List ℕ
write_refusal_text NoSuchKind = codes "no such kind"
write_refusal_text WrongCount = codes "octet count does not suit the kind"
write_refusal_text WrongFirst = codes "first octet does not suit the octet count"
write_refusal_text ShortBuffer = codes "mark buffer too short"
