use Rattle.std.proofs.lemmas.Result.{err_from_is_err_and}
use Rattle.commands.specs.declared.command.Order.TheVariants as order
use Rattle.stacks.specs.declared.layer.Layer.TheVariants as layer
use Rattle.stacks.specs.declared.record.RecordKind.TheVariants as kind
use Rattle.commands.proofs.Naming.{alone_said, named, said_chosen, said_no_take}
use Rattle.commands.proofs.command.Command.read.Goals as goal

pub returns-in-Some-characters : goal.returns-in-Some-characters
returns-in-Some-characters c =
    let first = named _ _ _ c.split_whitespace-words.ensures.rest c.in-Some-characters.is-characters c.in-Some.ensures.steps in
    said_chosen _ _ c.choose-in-Some-characters.result kind.Characters first c.choose-in-Some-characters.ensures

pub returns-in-Some-reversal : goal.returns-in-Some-reversal
returns-in-Some-reversal c =
    alone_said (order.Put layer.Reversal) c.alone.result _ _ _ c.split_whitespace-words.ensures.rest c.in-Some-reversal.is-reversal c.in-Some.ensures.steps (λ first. first) c.alone.ensures

pub returns-in-Some-sampling : goal.returns-in-Some-sampling
returns-in-Some-sampling c =
    alone_said (order.Put layer.Sampling) c.alone-in-Some-sampling.result _ _ _ c.split_whitespace-words.ensures.rest c.in-Some-sampling.is-sampling c.in-Some.ensures.steps (λ first. first) c.alone-in-Some-sampling.ensures

pub returns-in-Some-bare : goal.returns-in-Some-bare
returns-in-Some-bare c =
    alone_said order.Uncover c.alone-in-Some-bare.result _ _ _ c.split_whitespace-words.ensures.rest c.in-Some-bare.is-bare c.in-Some.ensures.steps (λ first. first) c.alone-in-Some-bare.ensures

pub returns-in-Some-line : goal.returns-in-Some-line
returns-in-Some-line c =
    alone_said order.Describe c.alone-in-Some-line.result _ _ _ c.split_whitespace-words.ensures.rest c.in-Some-line.is-line c.in-Some.ensures.steps (λ first. first) c.alone-in-Some-line.ensures

pub returns-in-Some-help : goal.returns-in-Some-help
returns-in-Some-help c =
    alone_said order.Help c.alone-in-Some-help.result _ _ _ c.split_whitespace-words.ensures.rest c.in-Some-help.is-help c.in-Some.ensures.steps (λ first. first) c.alone-in-Some-help.ensures

pub returns-in_err-one_number-in-Some-take : goal.returns-in_err-one_number-in-Some-take
returns-in_err-one_number-in-Some-take c =
    let first = named _ _ _ c.split_whitespace-words.ensures.rest c.in-Some-take.is-take c.in-Some.ensures.steps in
    let p = err_from_is_err_and c.from_residual.result c.from_residual.ensures.1 in
    rw (p.1, p.2) (said_no_take _ _ _ first c.in_err-one_number-in-Some-take.ensures)
