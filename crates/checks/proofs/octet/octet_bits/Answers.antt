use Rattle.std.proofs.Common.{rules}
use Rattle.checks.proofs.Octets.{octet_coded}
use Rattle.checks.proofs.octet.octet_bits.Goals as goal

pub returns : goal.returns
returns c =
    let calls = c.from_fn.ensures.items.each in
    octet_coded c.args.octet c.from_fn.result c.from_fn.ensures.items.long (search rules) (search rules) (search rules) (search rules) (search rules) (search rules) (search rules) (search rules)
