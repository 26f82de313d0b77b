use Rattle.std.proofs.Common.{◌≡◌}
use Rattle.std.specs.Slice.Iter.{chunks_rest, chunks_size}
use Rattle.ft2.proofs.Filling.{BlocksPut}
use Rattle.ft2.proofs.marks.put_blocks.Given as goal

-- the blocks so far are put
abbrev pub invariant-loop-block : goal.invariant-loop-block
invariant-loop-block l = record {
  size : chunks_size l.block-iterator ≡ 15;
  so_far : BlocksPut l.octets (chunks_rest l.block-iterator) l.at l.initial.marks l.next l.marks;
}
