use Rattle.std.proofs.Common.{take}
use Rattle.checks.specs.Bits.{block_bits}
use Rattle.checks.specs.Standing.{Stands}
use Rattle.checks.proofs.block.check_octet.Given as goal

abbrev pub invariant-loop-octet : goal.invariant-loop-octet
invariant-loop-octet l = Stands l.register (block_bits (take l.octet-index l.block))
