-- Why no frame can be made of user octets.
use Rattle.std.specs.Prelude.{◌≡◌, ℕ, true, false, List, length}
use Rattle.formats.specs.declared.refusal.WriteRefusal.{WriteRefusal}
use Rattle.formats.specs.declared.refusal.WriteRefusal.TheVariants.{NoSuchKind, WrongCount, WrongFirst, ShortBuffer}
use Rattle.ft2_laws.specs.Frames.{count_suits, first_suits}
use Rattle.ft2_laws.specs.declared.kind.Kind.{Kind}
use Rattle.ft2_laws.specs.declared.settings.Settings.{Settings}

-- the octet count does not suit the kind; or it does, and the first octet does not suit the octet count
abbrev pub Unsuited : Settings → Kind → List ℕ → WriteRefusal → Type 0
Unsuited settings kind octets NoSuchKind = ⊥
Unsuited settings kind octets WrongCount = count_suits settings kind (length octets) ≡ false
Unsuited settings kind octets WrongFirst = (count_suits settings kind (length octets) ≡ true) × (first_suits settings kind octets ≡ false)
Unsuited settings kind octets ShortBuffer = ⊥
