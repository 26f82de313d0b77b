-- What a sound frame says.
use Rattle.std.specs.Prelude.{◌≡◌, ℕ, List, ◌≢◌, Ok, Err}
use Rattle.readings.specs.Octets.{Misfits, octets_of}
use Rattle.readings.specs.declared.reading.Reading.{Reading}
use Rattle.day.specs.Batches.{Entry}
use Rattle.day.specs.declared.entry.Lost.TheVariants.{Kind, Octets, NotBath, Damaged}
use Rattle.day.specs.declared.entry.Site.{Site}
use Rattle.day.specs.declared.entry.Site.TheVariants.{Line, Lab}

-- a site can have the reading: the lab's are at 40.0 degrees
abbrev pub Suits : Site → Reading → Type 0
Suits Line x = Unit {0}
Suits Lab x = x.temperature ≡ 400

-- the octets are the reading
abbrev pub Spells : List ℕ → Reading → Type 0
Spells octets x = octets ≡ octets_of x.batch x.temperature x.viscosity

-- what a sound frame of a kind with these user octets says at a site
abbrev pub Decoded : Site → ℕ → List ℕ → Entry → Type 0
Decoded site kind octets (Ok x) = (kind ≡ 1) × Spells octets x × Suits site x
Decoded site kind octets (Err (Kind k)) = (k ≡ kind) × (kind ≢ 1)
Decoded site kind octets (Err (Octets e)) = (kind ≡ 1) × Misfits octets e
Decoded site kind octets (Err NotBath) = (kind ≡ 1) × ((x : Reading) × Spells octets x × (Suits site x → ⊥))
Decoded site kind octets (Err (Damaged d)) = ⊥
