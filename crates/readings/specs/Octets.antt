-- A reading as octets: numbers with the high octet first.
use Rattle.std.specs.Prelude.{◌≡◌, ℕ, ◌+◌, ◌*◌, ◌/◌, ◌%◌, ◌<◌, ◌≤◌, List, [], ◌∷◌, length, slice_index}
use Rattle.readings.specs.declared.refusal.NoReading.{NoReading}
use Rattle.readings.specs.declared.refusal.NoReading.TheVariants.{WrongCount, OutOfLimits}
use Rattle.readings.specs.declared.refusal.Part.{Part}
use Rattle.readings.specs.declared.refusal.Part.TheVariants.{Batch, Temperature, Viscosity}

-- two octets of batch, two of temperature, three of viscosity
abbrev pub octets_of : ℕ → ℕ → ℕ → List ℕ
octets_of batch temperature viscosity =
    batch / 256 ∷ (batch % 256 ∷ (temperature / 256 ∷ (temperature % 256 ∷ (viscosity / 65536 ∷ ((viscosity / 256) % 256 ∷ (viscosity % 256 ∷ []))))))

-- the numbers in octets
abbrev pub batch_in : List ℕ → ℕ
batch_in octets = slice_index octets 0 * 256 + slice_index octets 1

abbrev pub temperature_in : List ℕ → ℕ
temperature_in octets = slice_index octets 2 * 256 + slice_index octets 3

abbrev pub viscosity_in : List ℕ → ℕ
viscosity_in octets = slice_index octets 4 * 65536 + slice_index octets 5 * 256 + slice_index octets 6

-- the first part that is outside its limits
abbrev pub Unfit : ℕ → ℕ → ℕ → Part → Type 0
Unfit batch temperature viscosity Batch = batch ≡ 0
Unfit batch temperature viscosity Temperature = (1 ≤ batch) × (2000 < temperature)
Unfit batch temperature viscosity Viscosity = (1 ≤ batch) × (temperature ≤ 2000) × (1 ≤ viscosity → viscosity ≤ 9999999 → ⊥)

-- why octets are no reading
abbrev pub Misfits : List ℕ → NoReading → Type 0
Misfits octets WrongCount = length octets ≡ 7 → ⊥
Misfits octets (OutOfLimits part) = (length octets ≡ 7) × Unfit (batch_in octets) (temperature_in octets) (viscosity_in octets) part
