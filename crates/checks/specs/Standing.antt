-- What a register stands for.
use Rattle.std.specs.Prelude.{◌≡◌, Bool, List}
use Rattle.checks.specs.Bits.{odd_ones}
use Rattle.checks.specs.Division.{remainder}
use Rattle.checks.specs.Check.{generator}
use Rattle.checks.specs.declared.register.Register.{Register}

-- a register stands for the bits u: it holds their remainder, and whether their ones are odd in number
abbrev pub Stands : Register → List Bool → Type 0
Stands register u = (register.rest ≡ remainder 7 generator u) × (register.odd ≡ odd_ones u)
