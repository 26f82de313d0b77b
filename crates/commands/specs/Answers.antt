-- What is printed of what an order answers, and where it is not carried out.
use Rattle.std.specs.Prelude.{ℕ, List, [], ◌∷◌, ◌++◌, flat_map, length, codes, vec_items}
use Rattle.std.specs.Fmt.{decimal}
use Rattle.lines.specs.Refusals.{record_refusal_number}
use Rattle.lines.specs.Texts.{mark_text, record_refusal_text}
use Rattle.lines.specs.declared.mark.Mark.{Mark}
use Rattle.lines.specs.declared.sampling.Kept.{Kept}
use Rattle.lines.specs.declared.sampling.Kept.TheVariants as kept
use Rattle.stacks.specs.Texts.{kind_name, layer_name}
use Rattle.stacks.specs.declared.layer.Layers.{Layers}
use Rattle.stacks.specs.declared.layer.Layers.TheVariants.{Bare, Single, Double}
use Rattle.commands.specs.declared.answer.Answer.{Answer}
use Rattle.commands.specs.declared.answer.Answer.TheVariants as answer
use Rattle.commands.specs.declared.answer.Setup.{Setup}
use Rattle.commands.specs.declared.answer.Undone.{Undone}
use Rattle.commands.specs.declared.answer.Undone.TheVariants.{TwoLayers, NoLayer, NoMemory}

-- the layers, uppermost first
abbrev pub layers_text : Layers → List ℕ → List ℕ
layers_text Bare below = below
layers_text (Single layer) below = layer_name layer ++ (codes " over " ++ below)
layers_text (Double upper lower) below = layer_name upper ++ (codes " over " ++ (layer_name lower ++ (codes " over " ++ below)))

-- and the record
abbrev pub setup_text : Setup → List ℕ
setup_text setup = layers_text setup.layers (kind_name setup.kind)

-- the marks that were kept
abbrev pub kept_text : Kept → List ℕ
kept_text kept.Nothing = []
kept_text (kept.Single first) = codes ", kept " ++ (mark_text first ++ codes " given up")
kept_text (kept.Couple first second) = codes ", kept " ++ (mark_text first ++ (mark_text second ++ codes " given up"))

-- how many marks there are, and the marks
abbrev pub took_text : List Mark → List ℕ
took_text [] = codes "took 0"
took_text (m ∷ ms) = codes "took " ++ (decimal (length (m ∷ ms)) ++ (codes ": " ++ flat_map mark_text (m ∷ ms)))

-- the names of all commands
abbrev pub help_text : List ℕ
help_text = codes "commands: marks HH.., characters HH.., reversal, sampling, bare, take N, line, ft12 F, ft2 F H, receiver, markbuffer N, framebuffer N, write K HH.., gap, showmarks, showframe, listen B, look, release, state, help"

abbrev pub answer_text : Answer → List ℕ
answer_text answer.Nothing = []
answer_text (answer.Chosen kind count) = codes "ok " ++ (kind_name kind ++ (codes ", " ++ (decimal count ++ codes " octets")))
answer_text (answer.Refused refusal) = codes "refused " ++ (decimal (record_refusal_number refusal) ++ (codes ": " ++ record_refusal_text refusal))
answer_text (answer.Line setup) = codes "ok " ++ setup_text setup
answer_text (answer.Uncovered setup kept) = codes "ok " ++ (setup_text setup ++ kept_text kept)
answer_text (answer.Took marks) = took_text (vec_items marks)
answer_text (answer.TookAll marks) = took_text (vec_items marks) ++ codes ", none left"
answer_text answer.Help = help_text

abbrev pub undone_text : Undone → List ℕ
undone_text (TwoLayers setup) = codes "error: two layers at most, the line is " ++ setup_text setup
undone_text (NoLayer setup) = codes "error: no layer to take off, the line is " ++ setup_text setup
undone_text NoMemory = codes "error: no memory"
