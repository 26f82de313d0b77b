-- The marks of a record through layers.
use Rattle.std.specs.Prelude.{ℕ, List, map, codes, ◌≢◌}
use Rattle.lines.specs.Layers.{exchanged, threes}
use Rattle.lines.specs.declared.mark.Mark.{Mark}
use Rattle.day.specs.declared.layers.Layers.{Layers}
use Rattle.day.specs.declared.layers.Layers.TheVariants.{Plain, Reversed, Sampled, ReversedSampled}

-- the word that names the layers
abbrev pub layers_word : Layers → List ℕ
layers_word Plain = codes "plain"
layers_word Reversed = codes "reversed"
layers_word Sampled = codes "sampled"
layers_word ReversedSampled = codes "reversed-sampled"

-- a word that names none
abbrev pub NoLayers : List ℕ → Type 0
NoLayers word = (l : Layers) → word ≢ layers_word l

-- the marks that come through
abbrev pub layered : Layers → List Mark → List Mark
layered Plain marks = marks
layered Reversed marks = map exchanged marks
layered Sampled marks = threes marks
layered ReversedSampled marks = map exchanged (threes marks)
