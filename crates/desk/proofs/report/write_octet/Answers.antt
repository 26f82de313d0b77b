use Rattle.std.proofs.Common.{rules, true}
use Rattle.std.proofs.lemmas.Fmt.{hex_byte}
use Rattle.desk.proofs.report.write_octet.Goals as goal

pub returns : goal.returns
returns g c =
    rw (hex_byte true c.args.octet (search rules)) at rw (c.laid_out.ensures, c.in_radix.ensures) at c.write.ensures.writes
