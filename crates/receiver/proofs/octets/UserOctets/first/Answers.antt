use Rattle.std.proofs.Common.{sym, arith}
use Rattle.std.proofs.lemmas.List.{take-append-le}
use Rattle.receiver.proofs.octets.UserOctets.first.Goals as goal

pub returns : goal.returns
returns c = λ rest. sym (take-append-le c.args.count c.args.frame.now rest (omega arith))
