use Rattle.std.proofs.Common.{◌≡◌, Ok, rules, tests, sym, refl, subst}
use Rattle.lines.specs.declared.mark.Mark.TheVariants.{One}
use Rattle.formats.proofs.Machines.{added_of}
use Rattle.formats.specs.Answers.{Added}
use Rattle.formats.specs.Machine.{StandsFor}
use Rattle.formats.specs.declared.format.Progress.TheVariants.{Open}
use Rattle.ft12_laws.proofs.Bounds.{leaves}
use Rattle.ft12_laws.proofs.Laws.{ft12_agrees}
use Rattle.ft12_laws.specs.Faults.{ft12_cause}
use Rattle.ft12_laws.specs.Machine.{after_at, beginning, ft12_machine, says_at}
use Rattle.ft12_laws.specs.Reading.{judge_list}
use Rattle.ft12_laws.specs.declared.reading.Place.TheVariants.{First}
use Rattle.ft12.proofs.Judging.{left_by}
use Rattle.ft12.proofs.format.Ft12ReadFormat.add.Goals as goal
use Rattle.ft12.proofs.format.Ft12ReadFormat.add.Goals.{else-eq-via-then-eq+else-eq-2, else-eq-via-else-eq}

-- a 1 before a frame
pub returns-then-eq-2-clause-added : goal.returns-then-eq-2-clause-added
returns-then-eq-2-clause-added c =
    let before = c.args.self.now.reading in
    let fixed = c.args.self.now.settings.fixed_length in
    let is : before ≡ beginning First = search (tests, rules) in
    let one : c.args.mark ≡ One = search (tests, rules) in
    added_of (ft12_machine fixed) (judge_list fixed First) (ft12_agrees fixed) (leaves fixed) ft12_cause before before c.args.mark (Ok Open)
    (λ e one. (refl, is)) (λ other. absurd (other is one))

-- any other mark
pub returns-clause-added : goal.returns-clause-added
returns-clause-added c =
    let before = c.args.self.now.reading in
    let fixed = c.args.self.now.settings.fixed_length in
    let mark = c.args.mark in
    let later = c.judge_mark.new.self.reading in
    let v = says_at before.place before.part mark in
    let other : before ≡ beginning First → mark ≡ One → ⊥ = λ e one. elim c.else-eq.branch [ else-eq-via-then-eq+else-eq-2 w ↦ search (tests, rules) | else-eq-via-else-eq w ↦ search (tests, rules) ] in
    let here = added_of (ft12_machine fixed) (judge_list fixed First) (ft12_agrees fixed) (leaves fixed) ft12_cause before later mark c.judge_mark.result
    (λ e one. absurd (other e one))
    (λ _. (c.judge_mark.ensures.judged, left_by v later (after_at fixed before.place before.part mark) c.judge_mark.ensures.left)) in
    subst (λ s. Added ft12_cause (StandsFor (ft12_machine fixed) before) (StandsFor (ft12_machine s.fixed_length) later) (judge_list fixed First) mark c.judge_mark.result) (sym c.judge_mark.ensures.same) here
