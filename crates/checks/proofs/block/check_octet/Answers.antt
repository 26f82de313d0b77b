use Rattle.std.proofs.Common.{◌≡◌, get_or, take, sym, ap, ◌∙◌, subst}
use Rattle.std.proofs.lemmas.Grind.{common_steps}
use Rattle.std.proofs.Common.{arith}
use Rattle.std.proofs.lemmas.List.{take_more}
use Rattle.checks.specs.Bits.{block_bits}
use Rattle.checks.specs.Check.{Rule, check_octet}
use Rattle.checks.specs.Standing.{Stands}
use Rattle.checks.proofs.Octets.{check_rule, worked}
use Rattle.checks.proofs.Registers.{block_push}
use Rattle.checks.proofs.block.check_octet.Goals as goal

pub loop-octet-preserved : goal.loop-octet-preserved
loop-octet-preserved c =
    let block = c.args.block.now in
    let i = c.loop-octet.octet-index in
    let longer = ap block_bits (take_more block i 0 c.loop-octet-test.true) ∙ block_push (take i block) (get_or block i 0) in
    subst (Stands c.take_octet.new.self) (sym longer) (c.take_octet.ensures (block_bits (take i block)) c.loop-octet.invariant)

pub returns-clause-rule : goal.returns-clause-rule
returns-clause-rule c =
    let is : c.check.result ≡ check_octet (block_bits c.args.block.now) = grind (arith, common_steps) in
    subst (Rule (block_bits c.args.block.now)) (sym is) (check_rule (block_bits c.args.block.now))

pub returns-clause-worked : goal.returns-clause-worked
returns-clause-worked c = worked
