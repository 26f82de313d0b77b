use Rattle.checks.proofs.Distances.{altered_shows, attained}
use Rattle.checks.proofs.distance.distance.Goals as goal

pub returns : goal.returns
returns c = record { shows = altered_shows; attained = attained }
