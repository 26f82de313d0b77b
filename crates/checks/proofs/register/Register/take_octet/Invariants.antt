use Rattle.std.proofs.Common.{Bool, List, ◌++◌, take}
use Rattle.checks.specs.Standing.{Stands}
use Rattle.checks.proofs.register.Register.take_octet.Given as goal

-- the bits so far are taken
abbrev pub invariant-loop-bit : goal.invariant-loop-bit
invariant-loop-bit l = (u : List Bool) → Stands l.initial.self u → Stands l.self (u ++ take l.bit-index l.bit-items)
