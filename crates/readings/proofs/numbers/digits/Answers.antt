use Rattle.std.proofs.Common.{rules, ap, ◌∙◌, Some}
use Rattle.readings.specs.Numbers.{digits_on}
use Rattle.readings.proofs.Digits.{taken}
use Rattle.readings.proofs.numbers.digits.Goals as goal

pub returns : goal.returns
returns c =
    let ran = c.try_fold.ensures.ran in
    taken _ _ (λ f f' number symbol v k. search rules) _ _ ran.0 ran.1 _ ran.2 c.args.number ran.3 c.try_fold.result ran.4 ran.5 ran.6 ∙ ap (digits_on (Some c.args.number)) c.iter.ensures.rest
