use mathlib.Core.List.{◌++◌}
use mathlib.Core.Path.{refl}
use lib.ListN.{take}
use Rattle.lines.specs.Characters.{character}
use Rattle.lines.specs.Entries.{entry}
use Rattle.lines.specs.declared.character.Status.TheVariants.{ParityReversed}
use Rattle.lines.specs.declared.mark.Mark.TheVariants.{Zero, One}
use Rattle.formats.specs.Marks.{ones}
use Rattle.hearing.specs.Rules.{ready, waiting}
use Rattle.hearing.specs.declared.answer.Ending.TheVariants as ending
use Rattle.ft12_laws.specs.Faults.{ft12_cause}
use Rattle.ft12_laws.specs.Reading.{ft12_model}
use Rattle.ft12_laws.specs.declared.fault.Ft12Fault.TheVariants as fault
use Rattle.ft12_laws.specs.declared.fault.CharacterFault.TheVariants as character_fault
use Rattle.ft12_laws.proofs.Worked as ft12
use Rattle.checks.proofs.Octets as checks
use Rattle.ft2_laws.proofs.Worked as ft2
use Rattle.worked.proofs.Events.{all_quiet, quiet_all, quiet_by, quiet_then}
use Rattle.worked.specs.Cases.{at_stage}
use Rattle.worked.proofs.all_worked.Goals as goal

pub returns : goal.returns
unfolding all_quiet
returns c =
    let m = ft12_model 2 in
    let new = at_stage waiting 0 in
    let is_ready = at_stage ready 33 in
    let e5 = ones 33 ++ take 10 (character 0xE5) in
    let reversed = take 9 (entry ParityReversed 0xE5) in
    let e6 = take 10 (character 0xE6) in
    record {
      count = refl;
      hold = record {
        ft12_frames = ft12.worked;
        check_octets = checks.worked;
        ft2_frames = ft2.worked;
        heard_after_33 = quiet_then ft12_cause m new e5 One (ending.Frame 3 0) (quiet_by m new e5 refl) refl;
        of_44_marks = refl;
        not_after_32 = quiet_all ft12_cause m new (ones 32 ++ character 0xE5) ending.Spent (quiet_by m new (ones 32 ++ character 0xE5) refl) tt;
        of_43_marks = refl;
        parity_reversed = quiet_then ft12_cause m is_ready reversed Zero (ending.Fault (record { fault = fault.Character character_fault.ParityMark; place = 9 })) (quiet_by m is_ready reversed refl) refl;
        its_cause = refl;
        another_octet = quiet_then ft12_cause m is_ready e6 One (ending.Fault (record { fault = fault.FirstCharacter; place = 10 })) (quiet_by m is_ready e6 refl) refl;
        cause_of_it = refl;
      };
    }
