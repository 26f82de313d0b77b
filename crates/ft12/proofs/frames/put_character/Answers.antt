use Rattle.std.proofs.Common.{rules, map, refl, ap, ◌∙◌, arith}
use Rattle.std.proofs.lemmas.Slice.{put_mid-paste}
use Rattle.lines.specs.Characters.{character}
use Rattle.lines.specs.Records.{mark_octet}
use Rattle.lines.specs.declared.mark.Mark.TheVariants.{Zero}
use Rattle.ft12.proofs.Writing.{map_by_place}
use Rattle.ft12.proofs.frames.put_character.Goals as goal

pub returns : goal.returns
returns c =
    let octets = map_by_place mark_octet Zero c.character.result c.map.result (search rules) (λ i h. let at = c.map.ensures.items.at i Zero 0 (search rules) in search rules) in
    record {
      behind = refl;
      held = put_mid-paste c.args.at _ c.args.marks.now _ (map mark_octet (character c.args.octet)) 11 (c.copy_from_slice.ensures.after ∙ octets ∙ ap (map mark_octet) c.character.ensures) (omega arith) refl;
    }
