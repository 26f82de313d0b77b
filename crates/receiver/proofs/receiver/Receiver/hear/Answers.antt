use Rattle.std.proofs.Common.{◌≡◌, ap, ◌∙◌, rules, tests}
use Rattle.lines.specs.declared.mark.Mark.TheVariants.{One}
use Rattle.hearing.specs.Rules.{run_after}
use Rattle.receiver.proofs.Taking.{empty_by, takes_first, takes_open}
use Rattle.receiver.specs.declared.stage.Stage.TheVariants as stage
use Rattle.receiver.proofs.receiver.Receiver.hear.Goals as goal

pub returns-in-Ready-clause-takes : goal.returns-in-Ready-clause-takes
returns-in-Ready-clause-takes g c =
    let self = c.args.self.now in
    let counts = c.run_after-self.ensures ∙ ap (λ n. run_after n self.run c.args.mark) c.gap-gap.ensures in
    let none = empty_by c.default.result c.default.ensures.0 c.default.ensures.1 in
    let other : c.args.mark ≡ One → ⊥ = search (tests, rules) in
    λ rest. takes_first g.F.Fault.Fault.cause g.F.ReadFormat.model g.F.ReadFormat.stands self c.args.mark c.run_after-self.result counts c.add.new.self _ _ c.add.result c.default.result none c.in-Ready.is other (c.add.ensures.judges rest)

pub returns-in-Open-clause-takes : goal.returns-in-Open-clause-takes
returns-in-Open-clause-takes g c =
    let self = c.args.self.now in
    let counts = c.run_after-self.ensures ∙ ap (λ n. run_after n self.run c.args.mark) c.gap-gap.ensures in
    λ rest. takes_open g.F.Fault.Fault.cause g.F.ReadFormat.model g.F.ReadFormat.stands self c.args.mark c.run_after-self.result counts c.add-in-Open.new.self _ _ c.add-in-Open.result _ (c.in-Open.is ∙ ap stage.Open (search rules)) (c.add-in-Open.ensures.judges rest)
