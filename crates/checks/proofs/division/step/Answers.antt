use Rattle.std.proofs.Common.{◌<◌, sym, subst}
use Rattle.checks.specs.Check.{generator}
use Rattle.checks.proofs.Distances.{degree}
use Rattle.checks.proofs.Folding.{step_lt}
use Rattle.checks.proofs.Registers.{step_above}
use Rattle.checks.proofs.division.step.Goals as goal

pub returns-else-taken-lt-TOP-clause-bound : goal.returns-else-taken-lt-TOP-clause-bound
returns-else-taken-lt-TOP-clause-bound c =
    subst (λ x. x < 128) (sym (step_above c.args.rest c.from.result c.args.bit c.requires c.from.ensures c.if-taken-lt-TOP.false)) (step_lt 7 generator degree c.args.rest c.args.bit c.requires)
