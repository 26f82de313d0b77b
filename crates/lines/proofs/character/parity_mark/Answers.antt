use Rattle.std.proofs.Common.{ap, ◌∙◌}
use Rattle.lines.specs.Characters.{mark_if}
use Rattle.lines.proofs.Octets.{parity_of}
use Rattle.lines.proofs.character.parity_mark.Goals as goal

pub returns : goal.returns
returns c = c.mark_if.ensures ∙ ap mark_if (parity_of c.args.octet c.ranges.octet.fits)
