-- A line with one layer over it.
use Rattle.std.specs.Prelude.{List, ◌++◌, map}
use Rattle.lines.specs.declared.mark.Mark.{Mark}
use Rattle.lines.specs.declared.sampling.Kept.{Kept}
use Rattle.lines.specs.declared.sampling.Kept.TheVariants.{Nothing}
use Rattle.lines.specs.Layers.{exchanged, held, threes}
use Rattle.stacks.specs.declared.layer.Layer.{Layer}
use Rattle.stacks.specs.declared.layer.Layer.TheVariants as layer
use Rattle.stacks.specs.declared.layered.Layered.{Layered}
use Rattle.stacks.specs.declared.layered.Layered.TheVariants.{Reversal, Sampling}

-- what a layer gives of the marks that come to it
abbrev pub through : Layer → List Mark → List Mark
through layer.Reversal marks = map exchanged marks
through layer.Sampling marks = threes marks

-- what is still to come, by the list of the line below: the same with 0 and 1 exchanged, or the threes of what is kept and
-- then the same
abbrev pub layered : {L : Type 0} → (L → List Mark) → Layered L → List Mark
layered p (Reversal r) = map exchanged (p r.below)
layered p (Sampling s) = threes (held s.kept ++ p s.below)

-- the layer's name
abbrev pub layer_on : {L : Type 0} → Layered L → Layer
layer_on (Reversal r) = layer.Reversal
layer_on (Sampling s) = layer.Sampling

-- the line below the layer
abbrev pub below_of : {L : Type 0} → Layered L → L
below_of (Reversal r) = r.below
below_of (Sampling s) = s.below

-- what the layer keeps
abbrev pub kept_of : {L : Type 0} → Layered L → Kept
kept_of (Reversal r) = Nothing
kept_of (Sampling s) = s.kept
