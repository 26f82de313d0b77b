use Rattle.std.proofs.Common.{vec_items}
use Rattle.stacks.specs.Records.{Suits}
use Rattle.console.proofs.main.Given as goal

-- the record that is chosen is none that is refused
abbrev pub invariant-loop : goal.invariant-loop
invariant-loop l = Suits l.choice.kind (vec_items l.choice.octets)
