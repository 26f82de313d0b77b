-- The number and the layer of each FT1.2 fault.
use Rattle.formats.specs.Numbers.{line_cause}
use Rattle.formats.specs.Verdicts.{Cause, Verdict, fault_of}
use Rattle.formats.specs.declared.fault.Layer.TheVariants as layer
use Rattle.ft12_laws.specs.declared.fault.CharacterFault.{CharacterFault}
use Rattle.ft12_laws.specs.declared.fault.CharacterFault.TheVariants as character
use Rattle.ft12_laws.specs.declared.fault.Ft12Fault.{Ft12Fault}
use Rattle.ft12_laws.specs.declared.fault.Ft12Fault.TheVariants as frame

abbrev pub character_cause : CharacterFault → Cause
character_cause (character.Line f) = line_cause f
character_cause character.StartMark = record { number = 22; layer = layer.Character }
character_cause character.ParityMark = record { number = 23; layer = layer.Character }
character_cause character.StopMark = record { number = 24; layer = layer.Character }

abbrev pub ft12_cause : Ft12Fault → Cause
ft12_cause (frame.Character f) = character_cause f
ft12_cause frame.FirstCharacter = record { number = 25; layer = layer.Frame }
ft12_cause frame.LengthsDiffer = record { number = 26; layer = layer.Frame }
ft12_cause frame.FourthCharacter = record { number = 27; layer = layer.Frame }
ft12_cause frame.Sum = record { number = 28; layer = layer.Frame }
ft12_cause frame.EndCharacter = record { number = 29; layer = layer.Frame }

-- the verdict of a fault
abbrev pub faulty : Ft12Fault → Verdict
faulty f = fault_of (ft12_cause f)
