-- How readings and refusals are printed, octet by octet. A square is the octets 194 178, and a degree sign 194 176.
use Rattle.std.specs.Prelude.{ℕ, ◌/◌, ◌%◌, ◌-◌, ◌^◌, false, List, [], ◌∷◌, ◌++◌, codes}
use Rattle.std.specs.Fmt.{decimal, format_spec, padded_integral}
use Rattle.readings.specs.declared.reading.Reading.{Reading}
use Rattle.readings.specs.declared.refusal.Miskeyed.{Miskeyed}
use Rattle.readings.specs.declared.refusal.Miskeyed.TheVariants.{WrongCount, NoNumber, OutOfLimits}
use Rattle.readings.specs.declared.refusal.NoReading.{NoReading}
use Rattle.readings.specs.declared.refusal.NoReading.TheVariants as octets
use Rattle.readings.specs.declared.refusal.Part.{Part}
use Rattle.readings.specs.declared.refusal.Part.TheVariants.{Batch, Temperature, Viscosity}

-- a number in at least two digits
abbrev pub two_digits : ℕ → List ℕ
two_digits n = padded_integral (format_spec 32 0 4 2 (2 ^ 64 - 1)) false [] (decimal n)

abbrev pub hundredths_text : ℕ → List ℕ
hundredths_text n = decimal (n / 100) ++ (codes "." ++ two_digits (n % 100))

abbrev pub tenths_text : ℕ → List ℕ
tenths_text n = decimal (n / 10) ++ (codes "." ++ decimal (n % 10))

-- square millimetres a second, and degrees Celsius
abbrev pub unit : List ℕ
unit = codes " mm" ++ (194 ∷ (178 ∷ codes "/s"))

abbrev pub celsius : List ℕ
celsius = 32 ∷ (194 ∷ (176 ∷ codes "C"))

abbrev pub reading_text : Reading → List ℕ
reading_text x = hundredths_text x.viscosity ++ ((unit ++ codes " at ") ++ (tenths_text x.temperature ++ celsius))

abbrev pub part_name : Part → List ℕ
part_name Batch = codes "batch"
part_name Temperature = codes "temperature"
part_name Viscosity = codes "viscosity"

abbrev pub out_of_limits_text : Part → List ℕ
out_of_limits_text part = part_name part ++ codes " out of limits"

abbrev pub no_reading_text : NoReading → List ℕ
no_reading_text octets.WrongCount = codes "a reading has seven octets"
no_reading_text (octets.OutOfLimits part) = out_of_limits_text part

-- the form of a part where it is keyed
abbrev pub form_of : Part → List ℕ
form_of Batch = codes "a whole number"
form_of Temperature = codes "a number with one decimal"
form_of Viscosity = codes "a number with two decimals"

abbrev pub limits_of : Part → List ℕ
limits_of Batch = codes "a batch is 1 to 65535"
limits_of Temperature = codes "the bath is at 40.0"
limits_of Viscosity = codes "a viscosity is 0.01 to 99999.99"

abbrev pub miskeyed_text : Miskeyed → List ℕ
miskeyed_text WrongCount = codes "key batch, temperature and viscosity, as 1207 40.0 95.31"
miskeyed_text (NoNumber part) = codes "the " ++ (part_name part ++ (codes " is " ++ form_of part))
miskeyed_text (OutOfLimits part) = limits_of part
