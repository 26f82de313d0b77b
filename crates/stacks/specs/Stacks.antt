-- A line with up to two layers over it.
use Rattle.std.specs.Prelude.{◌≡◌, ℕ, ◌<◌, ◌≤◌, List, [], ◌∷◌, ◌++◌, map, length, Some, None, Option}
use Rattle.lines.specs.declared.mark.Mark.{Mark}
use Rattle.lines.specs.declared.sampling.Kept.{Kept}
use Rattle.lines.specs.Layers.{exchanged, held, threes}
use Rattle.stacks.specs.Layering.{below_of, kept_of, layered, layer_on, through}
use Rattle.stacks.specs.declared.layer.Layer.{Layer}
use Rattle.stacks.specs.declared.layer.Layer.TheVariants as layer
use Rattle.stacks.specs.declared.layer.Layers.{Layers}
use Rattle.stacks.specs.declared.layer.Layers.TheVariants as layers
use Rattle.stacks.specs.declared.layered.Layered.TheVariants as one
use Rattle.stacks.specs.declared.stack.Stack.{Stack}
use Rattle.stacks.specs.declared.stack.Stack.TheVariants.{Bare, Single, OverReversal, OverSampling}

-- what is still to come, by the list of the line below all layers
abbrev pub stacked : {L : Type 0} → (L → List Mark) → Stack L → List Mark
stacked p (Bare l) = p l
stacked p (Single u) = layered p u
stacked p (OverReversal u) = layered (λ r. map exchanged (p r.below)) u
stacked p (OverSampling u) = layered (λ s. threes (held s.kept ++ p s.below)) u

-- the names of the layers, uppermost first
abbrev pub layers_on : {L : Type 0} → Stack L → List Layer
layers_on (Bare l) = []
layers_on (Single u) = layer_on u ∷ []
layers_on (OverReversal u) = layer_on u ∷ (layer.Reversal ∷ [])
layers_on (OverSampling u) = layer_on u ∷ (layer.Sampling ∷ [])

-- the names that are told
abbrev pub names_in : Layers → List Layer
names_in layers.Bare = []
names_in (layers.Single l) = l ∷ []
names_in (layers.Double u l) = u ∷ (l ∷ [])

-- the stack without its uppermost layer, and what that layer kept; none where there is no layer
abbrev pub uncovered : {L : Type 0} → Stack L → Option (Stack L × Kept)
uncovered (Bare l) = None
uncovered (Single u) = Some (Bare (below_of u), kept_of u)
uncovered (OverReversal u) = Some (Single (one.Reversal (below_of u)), kept_of u)
uncovered (OverSampling u) = Some (Single (one.Sampling (below_of u)), kept_of u)

-- before, after, what was kept: one layer is gone, and of what was kept and what is then to come it gave what was to come
abbrev pub Uncovers : {L : Type 0} → (Stack L → List Mark) → Stack L → Stack L → Kept → Type 0
Uncovers p before after kept = (l : Layer) × (layers_on before ≡ l ∷ layers_on after) × (p before ≡ through l (held kept ++ p after))

-- before, how many were asked for, the answered marks, after: the marks and then what is left are what was to come, and
-- fewer than asked for only where nothing is left
pub record TookMarks (before : List Mark) (count : ℕ) (marks after : List Mark) : Type 0 where
  pub joined : before ≡ marks ++ after
  pub most : length marks ≤ count
  pub fewer : length marks < count → after ≡ []
