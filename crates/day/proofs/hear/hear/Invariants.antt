use Rattle.std.proofs.Common.{length, vec_items}
use Rattle.day.proofs.Sofar.{Sofar}
use Rattle.day.proofs.hear.hear.Given as goal

abbrev pub invariant-loop-entries : goal.invariant-loop-entries
invariant-loop-entries g l = Sofar g.F.ReadFormat.model g.F.ReadFormat.stands l.site (g.F.ReadFormat.model l.fn.format) (g.L.Line.pending l.fn.line) l.receiver (g.L.Line.pending l.line) l.buffer (vec_items l.entries)

abbrev pub decreases-loop-entries : goal.decreases-loop-entries
decreases-loop-entries g l = length (g.L.Line.pending l.line)
