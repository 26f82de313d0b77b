use Rattle.std.proofs.Common.{[], ◌∷◌, ◌++◌, ap, ◌∙◌, sym, arith}
use Rattle.ft12_laws.specs.Frames.{characters, sum_of}
use Rattle.formats.proofs.Putting.{put_join, put_same}
use Rattle.ft12.proofs.Writing.{characters_append, characters_length}
use Rattle.ft12.proofs.frames.Frame.put_closed.Goals as goal

pub put_characters-requires : goal.put_characters-requires
put_characters-requires c = omega (arith, c.put_characters-next.ensures.behind, characters_length c.args.self.now.octets.now)

pub returns : goal.returns
returns c =
    let os = c.args.self.now.octets.now in
    put_same (ap (λ sum. characters os ++ characters (sum ∷ (0x16 ∷ []))) c.sum.ensures ∙ sym (characters_append os (sum_of os ∷ (0x16 ∷ []))))
    (put_join (omega arith) c.put_characters-next.ensures c.put_characters.ensures)
