use Rattle.std.proofs.Common.{take, arith}
use Rattle.std.proofs.lemmas.List.{length-take-le}
use Rattle.formats.proofs.Putting.{put_join, put_same}
use Rattle.ft12.proofs.Writing.{characters_length, characters_more}
use Rattle.ft12.proofs.frames.put_characters.Goals as goal

pub put_character-next-requires : goal.put_character-next-requires
put_character-next-requires c =
    let i = c.loop-octet.octet-index in
    let os = c.args.octets.now in
    omega (arith, c.loop-octet.invariant.behind, characters_length (take i os), length-take-le i os (omega arith))

pub loop-octet-preserved : goal.loop-octet-preserved
loop-octet-preserved c = put_same (characters_more c.args.octets.now c.loop-octet.octet-index (omega arith)) (put_join (omega arith) c.loop-octet.invariant c.put_character-next.ensures)
