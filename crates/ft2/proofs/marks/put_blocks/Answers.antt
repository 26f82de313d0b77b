use Rattle.std.proofs.Common.{arith, rules}
use Rattle.ft2.proofs.Filling.{blocks_room, blocks_more}
use Rattle.ft2.proofs.marks.put_blocks.Goals as goal

pub put_block-next-requires : goal.put_block-next-requires
put_block-next-requires c = blocks_room _ _ _ _ _ _ _ _ _ c.loop-block.invariant.so_far c.loop-block.invariant.size c.in-Some.ensures.steps.1

pub loop-block-preserved : goal.loop-block-preserved
loop-block-preserved c = record {
  size = search rules;
  so_far = blocks_more _ _ _ _ _ _ _ _ _ c.loop-block.invariant.so_far c.loop-block.invariant.size c.in-Some.ensures.steps.1 _ _ (omega arith) c.put_block-next.ensures;
}
