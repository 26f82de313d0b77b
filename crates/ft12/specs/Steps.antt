-- What a mark makes of a character.
use Rattle.std.specs.Prelude.{◌≡◌, ℕ, Ok, Err, Result}
use Rattle.lines.specs.declared.mark.Mark.{Mark}
use Rattle.formats.specs.Verdicts.{Verdict, open_list, tells, frame_of, fault_of}
use Rattle.ft12_laws.specs.Faults.{faulty}
use Rattle.ft12_laws.specs.Machine.{after_at, beginning, says_at}
use Rattle.ft12_laws.specs.Reading.{judge, next}
use Rattle.ft12_laws.specs.declared.fault.CharacterFault.{CharacterFault}
use Rattle.ft12_laws.specs.declared.fault.Ft12Fault.TheVariants as fault
use Rattle.ft12_laws.specs.declared.reading.Part.{Part}
use Rattle.ft12_laws.specs.declared.reading.Place.{Place}
use Rattle.ft12_laws.specs.declared.reading.Place.TheVariants.{First}
use Rattle.ft12_laws.specs.declared.reading.Reading.{Reading}
use Rattle.ft12.specs.declared.characters.Step.{Step}
use Rattle.ft12.specs.declared.characters.Step.TheVariants.{Within, Whole}

-- within a character the list stays open; a whole one is judged by its octet; a fault is told as it is
abbrev pub Stepped : Place → ℕ → Part → Mark → Result Step CharacterFault → Type 0
Stepped p fixed part m (Ok (Within q)) = (says_at p part m ≡ open_list) × (after_at fixed p part m ≡ record { place = p; part = q })
Stepped p fixed part m (Ok (Whole o)) = (says_at p part m ≡ judge p o) × (after_at fixed p part m ≡ beginning (next fixed p o))
Stepped p fixed part m (Err e) = says_at p part m ≡ faulty (fault.Character e)

-- where reading goes on after a verdict: behind the mark while the list is open, else at the beginning
abbrev pub left_after : Verdict → Reading → Reading
left_after open_list after = after
left_after (tells octet) after = after
left_after (frame_of kind) after = beginning First
left_after (fault_of why) after = beginning First
