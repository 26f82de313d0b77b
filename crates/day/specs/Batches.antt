-- The readings of a day by batch.
use Rattle.std.specs.Prelude.{ℕ, min, Bool, true, cond, List, [], ◌∷◌, ℤ, pos, ◌-ℤ◌, Some, None, Option, Ok, Err, Result, ◌==◌, nat_lt}
use Rattle.readings.specs.declared.reading.Reading.{Reading}
use Rattle.day.specs.declared.batches.Row.{Row}
use Rattle.day.specs.declared.entry.Lost.{Lost}

-- the reading of a frame, or why it shows none
abbrev pub Entry : Type 0
Entry = Result Reading Lost

-- the reading of an entry, if it has one
abbrev pub reading_in : Entry → Option Reading
reading_in (Ok x) = Some x
reading_in (Err lost) = None

-- a reading of the batch, or any reading
abbrev pub is_wanted : Option ℕ → Reading → Bool
is_wanted None x = true
is_wanted (Some batch) x = x.batch == batch

-- the reading that counts after one entry more
abbrev pub after_entry : Option ℕ → Option Reading → Entry → Option Reading
after_entry batch found (Ok x) = cond (is_wanted batch x) (Some x) found
after_entry batch found (Err lost) = found

-- the last reading of the batch, or of all
abbrev pub last_of : Option ℕ → Option Reading → List Entry → Option Reading
last_of batch found [] = found
last_of batch found (e ∷ es) = last_of batch (after_entry batch found e) es

-- the lower of two batches
abbrev pub lower : Option ℕ → Option ℕ → Option ℕ
lower None b = b
lower (Some a) None = Some a
lower (Some a) (Some b) = Some (min a b)

abbrev pub lower_entry : ℕ → Option ℕ → Entry → Option ℕ
lower_entry after found (Ok x) = cond (nat_lt after x.batch) (lower found (Some x.batch)) found
lower_entry after found (Err lost) = found

-- the lowest batch above a number of which there is a reading
abbrev pub least_above : ℕ → Option ℕ → List Entry → Option ℕ
least_above after found [] = found
least_above after found (e ∷ es) = least_above after (lower_entry after found e) es

-- what there is of a batch: the last reading of the line and the last of the lab
abbrev pub row_of : List Entry → List Entry → Option ℕ → Option Row
row_of line lab None = None
row_of line lab (Some batch) = Some (record { batch = batch; line = last_of (Some batch) None line; lab = last_of (Some batch) None lab })

-- the row of the next batch above a number
abbrev pub row_after : List Entry → List Entry → ℕ → Option Row
row_after line lab after = row_of line lab (lower (least_above after None line) (least_above after None lab))

-- the batch of the row that came last, after one row more
abbrev pub standing_after : ℕ → Option Row → ℕ
standing_after after None = after
standing_after after (Some row) = row.batch

-- lab less line, where there are both
abbrev pub difference_of : Option Reading → Option Reading → Option ℤ
difference_of None lab = None
difference_of (Some line) None = None
difference_of (Some line) (Some lab) = Some (pos lab.viscosity -ℤ pos line.viscosity)
