use Rattle.std.proofs.Common.{◌-◌, ◌*◌, ◌%◌, ap, ◌∙◌}
use lib.Bits.{bit_or}
use Rattle.checks.proofs.Registers.{coded_check}
use Rattle.checks.proofs.register.Register.check.Goals as goal

pub returns : goal.returns
returns c = λ u is.
    ap (λ p. 255 - bit_or (c.args.self.now.rest * 2 % 256) p) c.from.ensures
    ∙ coded_check c.args.self.now.rest c.args.self.now.odd u c.args.self.now.bounded is.0 is.1
