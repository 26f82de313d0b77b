-- The promise, of the receivers of one format over lines of one kind: what the format reads, its faults, and which marks
-- such a line means to come.
use Rattle.std.specs.Prelude.{List}
use Rattle.lines.specs.declared.mark.Mark.{Mark}
use Rattle.formats.specs.declared.fault.Fault.{Ghosts as Faults}
use Rattle.formats.specs.declared.format.ReadFormat.{Ghosts as Reads}
use Rattle.hearing.specs.Promise.{Promise}
use Rattle.receiver.specs.Places.{At, model_of, standing_of}

abbrev pub ReceiverPromise : {F E L : Type 0} → Reads F E → Faults E → (L → List Mark) → Type 0
ReceiverPromise read fault pending = Promise fault.cause (At read.model read.stands) (model_of read.model) standing_of pending
