use Rattle.checks.proofs.Quotients.{division_law}
use Rattle.checks.proofs.division.divisor.Goals as goal

pub returns-clause-law : goal.returns-clause-law
returns-clause-law c = division_law
