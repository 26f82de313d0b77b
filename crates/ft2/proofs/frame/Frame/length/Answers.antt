use Rattle.std.proofs.Common.{◌≡◌, ◌+◌, ◌*◌, length, sym, ap, ◌∙◌, rules}
use Rattle.ft2.proofs.Lengths.{checks_of, length_frame}
use Rattle.ft2.proofs.frame.Frame.length.Goals as goal
use Rattle.ft2.proofs.frame.Frame.length.Goals.{in-Fixed, in-Variable}

pub returns : goal.returns
returns c =
    let f = c.args.self.now in
    let os = f.octets.now in
    let checks : c.match-self.checks ≡ checks_of f.settings f.kind (length os) = elim c.match-self.branch [ in-Fixed w ↦ search rules | in-Variable w ↦ search rules ] in
    ap (λ n. 8 * (1 + length os + n)) checks ∙ sym (length_frame f.settings f.kind os f.counted)
