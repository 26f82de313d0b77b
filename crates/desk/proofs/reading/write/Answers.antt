use Rattle.std.proofs.Common.{refl}
use Rattle.desk.proofs.reading.write.Goals as goal

pub returns : goal.returns
returns c =
    let kind = c.in_ok-kind.ensures in
    (_, c.in_ok-octets.field-0, refl, (_, kind.0, kind.1, c.in_ok-octets.ensures))
