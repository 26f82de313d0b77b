-- How sites, rows and lost frames are printed, octet by octet. A degree sign is the octets 194 176.
use Rattle.std.specs.Prelude.{ℕ, ℤ, List, [], ◌++◌, codes, Some, None, Option, unsigned_abs, if◌then◌else◌}
use Rattle.std.specs.Fmt.{decimal}
use Rattle.std.specs.Int.{is_negative}
use Rattle.formats.specs.Texts.{layer_text}
use Rattle.readings.specs.Texts.{celsius, hundredths_text, no_reading_text, reading_text, unit}
use Rattle.readings.specs.declared.reading.Reading.{Reading}
use Rattle.day.specs.Batches.{difference_of}
use Rattle.day.specs.declared.batches.Row.{Row}
use Rattle.day.specs.declared.entry.Lost.{Lost}
use Rattle.day.specs.declared.entry.Lost.TheVariants.{Kind, Octets, NotBath, Damaged}
use Rattle.day.specs.declared.entry.Site.{Site}
use Rattle.day.specs.declared.entry.Site.TheVariants.{Line, Lab}

-- a difference, with its sign
abbrev pub difference_text : ℤ → List ℕ
difference_text z = (if is_negative z then codes "-" else codes "+") ++ hundredths_text (unsigned_abs z)

abbrev pub site_text : Site → List ℕ
site_text Line = codes "line"
site_text Lab = codes "lab"

-- the reading of a site, or that there is none
abbrev pub side_text : Site → Option Reading → List ℕ
side_text site None = codes "no " ++ (site_text site ++ codes " reading")
side_text site (Some x) = site_text site ++ (codes " " ++ reading_text x)

-- the difference, if there is one
abbrev pub apart_text : Option ℤ → List ℕ
apart_text None = []
apart_text (Some z) = codes ", lab less line " ++ (difference_text z ++ unit)

abbrev pub row_text : Row → List ℕ
row_text row =
    (codes "batch " ++ (decimal row.batch ++ (codes ": " ++ (side_text Line row.line ++ (codes ", " ++ side_text Lab row.lab))))) ++ apart_text (difference_of row.line row.lab)

-- what is wrong with a frame
abbrev pub lost_text : Lost → List ℕ
lost_text (Kind kind) = codes "no reading: a frame of kind " ++ decimal kind
lost_text (Octets why) = codes "no reading: " ++ no_reading_text why
lost_text NotBath = codes "no reading: the bath is at 40.0" ++ celsius
lost_text (Damaged fault) = codes "damaged: fault " ++ (decimal fault.number ++ (codes ", layer " ++ (layer_text fault.layer ++ (codes ", at mark " ++ decimal fault.place))))
