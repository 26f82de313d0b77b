use Rattle.std.proofs.Common.{refl}
use Rattle.commands.proofs.command.choose.Goals as goal

pub returns : goal.returns
returns c = (c.in_ok-octets.field-0, refl, c.in_ok-octets.ensures)
