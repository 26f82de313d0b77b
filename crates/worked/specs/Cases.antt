-- The cases worked by hand, gathered into one statement.
use Rattle.std.specs.Prelude.{List, ◌++◌, ◌≡◌, ℕ, length, replicate, take}
use Rattle.lines.specs.Characters.{character}
use Rattle.lines.specs.Entries.{entry}
use Rattle.lines.specs.declared.character.Status.TheVariants.{ParityReversed}
use Rattle.lines.specs.declared.mark.Mark.{Mark}
use Rattle.formats.specs.Marks.{ones}
use Rattle.formats.specs.declared.fault.Layer.TheVariants as layer
use Rattle.hearing.specs.Calls.{Brings}
use Rattle.hearing.specs.Rules.{Hearer, Stage, holding, ready, waiting}
use Rattle.hearing.specs.declared.answer.Ending.{Ending}
use Rattle.hearing.specs.declared.answer.Ending.TheVariants as ending
use Rattle.hearing.specs.declared.fault.ReceiverFault.{ReceiverFault}
use Rattle.ft12_laws.specs.Faults.{ft12_cause}
use Rattle.ft12_laws.specs.Reading.{ft12_model}
use Rattle.ft12_laws.specs.Worked as ft12
use Rattle.ft12_laws.specs.declared.fault.Ft12Fault.{Ft12Fault}
use Rattle.ft12_laws.specs.declared.fault.Ft12Fault.TheVariants as fault
use Rattle.ft12_laws.specs.declared.fault.CharacterFault.TheVariants as character_fault
use Rattle.checks.specs.Check as checks
use Rattle.ft2_laws.specs.Worked as ft2

-- a receiver at a stage with a run, and a frame buffer of 255 octets
abbrev pub at_stage : Stage → ℕ → Hearer
at_stage stage run = record { stage = stage; run = run; buffer = replicate 255 0 }

-- from a new FT1.2 receiver, or from one at a stage, the marks bring the ending and leave the receiver so
abbrev pub Hears : Hearer → List Mark → Ending (ReceiverFault Ft12Fault) → Hearer → Type 0
Hears from marks end to = Brings ft12_cause (ft12_model 2) from marks end to

pub record AllWorked : Type 0 where
  pub ft12_frames : ft12.Worked
  pub check_octets : checks.Worked
  pub ft2_frames : ft2.Worked
  -- a new receiver, 33 quiet marks, then E5: 44 marks taken, kind 3
  pub heard_after_33 : Hears (at_stage waiting 0) (ones 33 ++ character 0xE5) (ending.Frame 3 0) (at_stage (holding 3 0) 5)
  pub of_44_marks : length (ones 33 ++ character 0xE5) ≡ 44
  -- with 32 quiet marks, a budget of 43 is spent: waiting, run 5
  pub not_after_32 : Hears (at_stage waiting 0) (ones 32 ++ character 0xE5) ending.Spent (at_stage waiting 5)
  pub of_43_marks : length (ones 32 ++ character 0xE5) ≡ 43
  -- ready, E5 with its parity mark reversed: fault 23, layer character, place 9, at the tenth mark
  pub parity_reversed : Hears (at_stage ready 33) (take 10 (entry ParityReversed 0xE5)) (ending.Fault (record { fault = fault.Character character_fault.ParityMark; place = 9 })) (at_stage waiting 0)
  pub its_cause : ft12_cause (fault.Character character_fault.ParityMark) ≡ record { number = 23; layer = layer.Character }
  -- ready, E6 in place of E5: fault 25, layer frame, place 10
  pub another_octet : Hears (at_stage ready 33) (character 0xE6) (ending.Fault (record { fault = fault.FirstCharacter; place = 10 })) (at_stage waiting 5)
  pub cause_of_it : ft12_cause fault.FirstCharacter ≡ record { number = 25; layer = layer.Frame }
