use Rattle.std.proofs.Common.{rules, ◌≡◌, ◌+◌, ◌%◌, fold, ◌∙◌}
use Rattle.ft12.proofs.Writing.{sum_fold}
use Rattle.ft12.proofs.frames.sum.Goals as goal

pub returns : goal.returns
returns c =
    let e : c.fold.result ≡ fold (λ sum o. (sum + o) % 256) 0 c.args.octets.now = search rules in
    e ∙ sum_fold c.args.octets.now
