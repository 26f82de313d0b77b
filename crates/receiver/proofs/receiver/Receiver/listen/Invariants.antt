use Rattle.std.proofs.Common.{◌++◌, drop}
use Rattle.receiver.proofs.Listening.{Passes}
use Rattle.receiver.proofs.receiver.Receiver.listen.Given as goal

abbrev pub invariant-loop-taken : goal.invariant-loop-taken
invariant-loop-taken g l =
    Passes g.F.ReadFormat.model g.F.ReadFormat.stands l.initial.self l.self (g.L.Line.pending l.initial.line) (g.L.Line.pending l.line) (l.initial.frame ++ drop 255 l.fn.buffer) (l.frame ++ drop 255 l.fn.buffer) l.taken
