use Rattle.std.proofs.Common.{◌≡◌, suc, ◌-◌, ◌<◌, Some, sym, ap, ◌∙◌, arith}
use Rattle.lines.specs.Characters.{at_place, framed}
use Rattle.lines.proofs.Characters.{data_at}
use Rattle.lines.proofs.character.framed_mark.Goals as goal

pub returns-in-1-to-8 : goal.returns-in-1-to-8
returns-in-1-to-8 c =
    let octet = c.args.octet in
    let place = c.args.place in
    let next : suc (place - 1) ≡ place = omega arith in
    let below : place - 1 < 8 = omega arith in
    ap Some c.data_mark.ensures ∙ sym (data_at c.args.parity c.args.stop octet (place - 1) below) ∙ ap (at_place (framed c.args.parity c.args.stop octet)) next
