-- What a step within a character makes of the list: the answer, and what is left.
use Rattle.std.proofs.Common.{◌≡◌, ℕ, Ok, Err, Result, sym, refl, ap, ◌∙◌, subst}
use Rattle.lines.specs.declared.mark.Mark.{Mark}
use Rattle.formats.proofs.Machines.{state_after}
use Rattle.formats.specs.Answers.{Tells}
use Rattle.formats.specs.Verdicts.{Verdict, open_list, tells, frame_of, fault_of}
use Rattle.formats.specs.declared.format.Progress.{Progress}
use Rattle.formats.specs.declared.format.Progress.TheVariants as progress
use Rattle.ft12_laws.specs.Faults.{ft12_cause}
use Rattle.ft12_laws.specs.Machine.{after_at, beginning, says_at}
use Rattle.ft12_laws.specs.Reading.{judge, next}
use Rattle.ft12_laws.specs.declared.fault.CharacterFault.{CharacterFault}
use Rattle.ft12_laws.specs.declared.fault.Ft12Fault.{Ft12Fault}
use Rattle.ft12_laws.specs.declared.fault.Ft12Fault.TheVariants.{Character}
use Rattle.ft12_laws.specs.declared.reading.Part.{Part}
use Rattle.ft12_laws.specs.declared.reading.Place.TheVariants.{First}
use Rattle.ft12_laws.specs.declared.reading.Reading.{Reading}
use Rattle.ft12.specs.Steps.{Stepped, left_after}
use Rattle.ft12.specs.declared.characters.Step.TheVariants.{Within, Whole}

-- the answer to a mark, and the reading that it leaves
module _ (fixed : ℕ) (s : Reading) (m : Mark) where
  abbrev pub Answered : Result Progress Ft12Fault → Reading → Type 0
  Answered r left = Tells ft12_cause (says_at s.place s.part m) r × (left ≡ left_after (says_at s.place s.part m) (after_at fixed s.place s.part m))

  pub within : (q : Part) → Stepped s.place fixed s.part m (Ok (Within q)) → Answered (Ok progress.Open) (record { place = s.place; part = q })
  within q h = (subst (λ v. Tells ft12_cause v (Ok progress.Open)) (sym h.0) refl, sym (ap (λ v. left_after v (after_at fixed s.place s.part m)) h.0 ∙ h.1))

  pub whole : (o : ℕ) (r : Result Progress Ft12Fault) (left : Reading) → Stepped s.place fixed s.part m (Ok (Whole o)) → Tells ft12_cause (judge s.place o) r → left ≡ left_after (judge s.place o) (beginning (next fixed s.place o)) → Answered r left
  whole o r left h told is = (subst (λ v. Tells ft12_cause v r) (sym h.0) told, is ∙ sym (ap (λ v. left_after v (after_at fixed s.place s.part m)) h.0 ∙ ap (left_after (judge s.place o)) h.1))

  pub broken : (e : CharacterFault) (r : Result Progress Ft12Fault) (left : Reading) → Stepped s.place fixed s.part m (Err e) → r ≡ Err (Character e) → left ≡ beginning First → Answered r left
  broken e r left h told is = (subst (λ v. Tells ft12_cause v r) (sym h) (Character e, told, refl), is ∙ sym (ap (λ v. left_after v (after_at fixed s.place s.part m)) h))

pub left_by : (v : Verdict) (s after : Reading) → s ≡ left_after v after → s ≡ state_after v after (beginning First)
left_by v s after e = e ∙ left_is v
  where
    left_is : (v : Verdict) → left_after v after ≡ state_after v after (beginning First)
    left_is open_list = refl
    left_is (tells octet) = refl
    left_is (frame_of kind) = refl
    left_is (fault_of why) = refl
