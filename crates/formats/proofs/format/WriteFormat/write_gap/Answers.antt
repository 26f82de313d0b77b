use Rattle.std.proofs.Common.{rules}
use Rattle.formats.proofs.Gaps.{gap_filled}
use Rattle.formats.proofs.format.WriteFormat.write_gap.Goals as goal

pub returns : goal.returns
returns g c = search (rules, gap_filled)
