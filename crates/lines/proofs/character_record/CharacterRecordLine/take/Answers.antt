use Rattle.std.proofs.Common.{◌+◌, ◌∷◌, sym, ap, ◌∙◌}
use Rattle.lines.specs.Characters.{at_place}
use Rattle.lines.specs.Entries.{entry, left_from}
use Rattle.lines.proofs.Entries.{entry_next}
use Rattle.lines.proofs.character_record.CharacterRecordLine.take.Goals as goal

pub returns-then-self-lt10 : goal.returns-then-self-lt10
returns-then-self-lt10 c =
    let status = c.in_ok-status.status.now in
    let octet = c.in_ok-octet.octet.now in
    let place = c.args.self.now.place in
    let mark = c.in_ok-mark.mark in
    let whole = c.in_ok-status.ensures.cases.0 ∙ ap (λ r. status ∷ r) c.in_ok-octet.ensures.cases.0 in
    let here = sym (c.in_ok-mark.ensures ∙ ap (λ s. at_place (entry s octet) place) c.from.ensures) in
    ap (left_from place) whole ∙ entry_next status octet c.in_ok-octet.later.now place mark here
    ∙ ap (λ octets. mark ∷ left_from (place + 1) octets) (sym whole)
