use Rattle.checks.proofs.Registers.{rest_push, odd_push}
use Rattle.checks.proofs.register.Register.take.Goals as goal

pub returns : goal.returns
returns c = λ u is. (
  rest_push c.args.self.now.rest c.step-self.result c.args.bit u c.step-self.ensures.value is.0,
  odd_push c.args.self.now.odd c.args.bit u is.1,
)
