use Rattle.std.proofs.Common.{[], ◌∷◌, ◌++◌, Some, ap, ◌∙◌}
use Rattle.std.specs.Option.{option_or}
use Rattle.ft2.proofs.Places.{head_push, user_taken}
use Rattle.ft2.proofs.reader.Reader.take_user.Goals as goal

pub returns : goal.returns
returns c = λ os at.
    user_taken c.args.self.now _ c.args.block c.args.left c.args.octet os at
    (c.to_come-self.ensures (os ++ (c.args.octet ∷ [])))
    (c.or-self.ensures ∙ ap (λ f. option_or f (Some c.args.octet)) at.first_is ∙ head_push os c.args.octet)
    c.take_octet.ensures
