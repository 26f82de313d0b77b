use Rattle.std.proofs.Common.{◌≡◌, ◌≤◌, ◌++◌, vec_items, vec_len, vec_capacity}
use Rattle.stacks.specs.Stacks.{stacked, layers_on}
use Rattle.stacks.proofs.stack.Stack.take_marks.Given as goal

-- the marks so far, and what is then to come, are what was to come at first
abbrev pub invariant-loop-taken : goal.invariant-loop-taken
invariant-loop-taken g l =
    (vec_len l.marks ≡ l.taken) × (l.count ≤ vec_capacity l.marks)
    × (stacked g.L.Line.pending l.initial.self ≡ vec_items l.marks ++ stacked g.L.Line.pending l.self)
    × (layers_on l.self ≡ layers_on l.initial.self)
