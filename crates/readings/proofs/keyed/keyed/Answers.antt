use Rattle.std.proofs.Common.{rules}
use Rattle.std.proofs.lemmas.Bool.{MatchBool-at_false as asked}
use Rattle.readings.proofs.Worded.{fourth_word, no_word, one_word, three_words, two_words}
use Rattle.readings.proofs.keyed.keyed.Goals as goal

pub returns-in-Some-Some-Some-None : goal.returns-in-Some-Some-Some-None
returns-in-Some-Some-Some-None c =
    let w = c.in-Some-Some-Some-None in
    let first = asked _ _ c.fuse-words.ensures.done w.ensures.steps.0 in
    let second = asked _ _ w.ensures.steps.1 w.ensures'.steps.0 in
    let third = asked _ _ w.ensures'.steps.1 w.ensures''.steps.0 in
    let fourth = asked _ _ w.ensures''.steps.1 w.ensures'''.steps.0 in
    three_words _ _ w.batch.now _ w.temperature.now _ w.viscosity.now _ (search rules) first second third fourth.1 c.of_words.result c.of_words.ensures

pub returns-in_default : goal.returns-in_default
returns-in_default c =
    let w = c.in_default in
    let first = asked _ _ c.fuse-words.ensures.done w.ensures.steps.0 in
    let second = asked _ _ w.ensures.steps.1 w.ensures'.steps.0 in
    let third = asked _ _ w.ensures'.steps.1 w.ensures''.steps.0 in
    let fourth = asked _ _ w.ensures''.steps.1 w.ensures'''.steps.0 in
    fourth_word _ _ w.field-0-0.now _ w.field-0-1.now _ w.field-0-2.now _ w.field-0-3.now _ (search rules) first second third fourth

pub returns-in_default-2 : goal.returns-in_default-2
returns-in_default-2 c =
    let w = c.in_default in
    let first = asked _ _ c.fuse-words.ensures.done w.ensures.steps.0 in
    let second = asked _ _ w.ensures.steps.1 w.ensures'.steps.0 in
    let third = asked _ _ w.ensures'.steps.1 w.ensures''.steps.0 in
    two_words _ _ w.field-0-0.now _ w.field-0-1.now _ (search rules) first second third.1

pub returns-in_default-3 : goal.returns-in_default-3
returns-in_default-3 c =
    let w = c.in_default in
    let first = asked _ _ c.fuse-words.ensures.done w.ensures.steps.0 in
    let second = asked _ _ w.ensures.steps.1 w.ensures'.steps.0 in
    one_word _ _ w.field-0-0.now _ (search rules) first second.1

pub returns-in_default-4 : goal.returns-in_default-4
returns-in_default-4 c =
    let first = asked _ _ c.fuse-words.ensures.done c.in_default.ensures.steps.0 in
    no_word _ _ (search rules) first.1
