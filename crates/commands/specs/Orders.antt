-- What the orders do at a line.
use Rattle.std.specs.Prelude.{◌≡◌, ℕ, ◌<◌, ◌⊎◌, List, [], ◌∷◌, ◌++◌, length, Some, Ok, Err, Result, vec_items}
use Rattle.std.specs.Global.{Vec}
use Rattle.lines.specs.declared.mark.Mark.{Mark}
use Rattle.lines.specs.declared.sampling.Kept.{Kept}
use Rattle.lines.specs.declared.sampling.Kept.TheVariants.{Nothing}
use Rattle.stacks.specs.Layering.{through}
use Rattle.stacks.specs.Stacks.{layers_on, names_in, uncovered}
use Rattle.commands.specs.declared.answer.Answer.{Answer}
use Rattle.commands.specs.declared.answer.Answer.TheVariants as answer
use Rattle.commands.specs.declared.answer.Setup.{Setup}
use Rattle.commands.specs.declared.answer.Undone.{Undone}
use Rattle.commands.specs.declared.answer.Undone.TheVariants as undone
use Rattle.commands.specs.declared.command.Order.{Order}
use Rattle.commands.specs.declared.command.Order.TheVariants as order
use Rattle.stacks.specs.declared.record.RecordKind.{RecordKind}
use Rattle.stacks.specs.declared.stack.Stack.{Stack}

-- the description names the layers, uppermost first, and the record
abbrev pub Describes : {L : Type 0} → RecordKind → Stack L → Setup → Type 0
Describes kind line setup = (names_in setup.layers ≡ layers_on line) × (setup.kind ≡ kind)

-- all marks asked for are shown; or fewer, and none is left; or there is no memory and the line is as before
abbrev pub Took : {L : Type 0} → (Stack L → List Mark) → Stack L → ℕ → Result Answer Undone → Stack L → Type 0
Took p before count a after =
    ((v : Vec Mark) × (a ≡ Ok (answer.Took v)) × (length (vec_items v) ≡ count) × (p before ≡ vec_items v ++ p after))
    ⊎ (((v : Vec Mark) × (a ≡ Ok (answer.TookAll v)) × (length (vec_items v) < count) × (p before ≡ vec_items v) × (p after ≡ []))
    ⊎ ((a ≡ Err undone.NoMemory) × (after ≡ before)))

-- the marks to come of a line, the kind of its record, the line before, the order, the answer, the line after
abbrev pub Obeyed : {L : Type 0} → (Stack L → List Mark) → RecordKind → Stack L → Order → Result Answer Undone → Stack L → Type 0
Obeyed p kind before order.Nothing a after = (a ≡ Ok answer.Nothing) × (after ≡ before)
-- the layer is put over the line, and taking it off again would give the line back; or two stand there and nothing changes
Obeyed p kind before (order.Put layer) a after =
    ((s : Setup) × (a ≡ Ok (answer.Line s)) × Describes kind after s × (layers_on after ≡ layer ∷ layers_on before) × (uncovered after ≡ Some (before, Nothing)) × (p after ≡ through layer (p before)))
    ⊎ ((s : Setup) × (a ≡ Err (undone.TwoLayers s)) × Describes kind before s × (length (layers_on before) ≡ 2) × (after ≡ before))
-- the uppermost layer is taken off, and what it kept is named; or none stands there and nothing changes
Obeyed p kind before order.Uncover a after =
    ((s : Setup) × (k : Kept) × (a ≡ Ok (answer.Uncovered s k)) × Describes kind after s × (uncovered before ≡ Some (after, k)))
    ⊎ ((s : Setup) × (a ≡ Err (undone.NoLayer s)) × Describes kind before s × (layers_on before ≡ []) × (after ≡ before))
-- marks are taken and shown, no layer changes; without memory nothing changes
Obeyed p kind before (order.Take count) a after =
    (layers_on after ≡ layers_on before) × Took p before count a after
Obeyed p kind before order.Describe a after = (s : Setup) × (a ≡ Ok (answer.Line s)) × Describes kind before s × (after ≡ before)
Obeyed p kind before order.Help a after = (a ≡ Ok answer.Help) × (after ≡ before)
