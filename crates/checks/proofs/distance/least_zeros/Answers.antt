use Rattle.checks.proofs.Zeros.{zeros_law, zeros_attained}
use Rattle.checks.proofs.distance.least_zeros.Goals as goal

pub returns : goal.returns
returns c = record { law = zeros_law; attained = zeros_attained }
