use Rattle.std.proofs.Common.{get_or, refl, arith}
use Rattle.ft2.proofs.Filling.{octets_more, block_put}
use Rattle.ft2.proofs.marks.put_block.Goals as goal

pub loop-octet-preserved : goal.loop-octet-preserved
loop-octet-preserved c = record {
  place = omega (arith, c.put_octet-next.ensures.behind);
  so_far = octets_more c.args.block.now c.loop-octet.octet-index (get_or c.args.block.now c.loop-octet.octet-index 0) c.args.at (omega arith) (omega arith) refl c.loop-octet.invariant.so_far c.put_octet-next.ensures;
}

pub returns : goal.returns
returns c =
    block_put c.args.block.now c.loop-octet.octet-index c.check_octet.result c.args.at (omega arith) (omega arith) c.check_octet.ensures.octet c.loop-octet.invariant.so_far c.put_octet.ensures
