use Rattle.std.proofs.Common.{◌<◌, IfSome, sym, subst, ◌∙◌}
use Rattle.day.proofs.Above.{either_is_above}
use Rattle.day.proofs.batches.next_row.Goals as goal

pub returns-clause-above : goal.returns-clause-above
returns-clause-above c =
    subst (λ o. IfSome o (λ b. c.args.after < b)) (sym c.next_of_either.ensures ∙ c.in_ok-batch.was) (either_is_above c.args.line.now c.args.lab.now c.args.after)
