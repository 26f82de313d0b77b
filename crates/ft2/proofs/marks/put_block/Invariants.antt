use Rattle.std.proofs.Common.{◌≡◌, ◌+◌, ◌*◌, take}
use Rattle.formats.specs.Putting.{Put}
use Rattle.ft2_laws.specs.Frames.{marks_of}
use Rattle.ft2.proofs.marks.put_block.Given as goal

-- the octets so far are put
abbrev pub invariant-loop-octet : goal.invariant-loop-octet
invariant-loop-octet l = record {
  place : l.next ≡ l.at + 8 * l.octet-index;
  so_far : Put l.at (marks_of (take l.octet-index l.block)) l.initial.marks l.next l.marks;
}
