-- The receiver's promise for FT2, over lines of one kind.
use Rattle.std.specs.Prelude.{List}
use Rattle.lines.specs.declared.mark.Mark.{Mark}
use Rattle.formats.specs.Laws.{Model}
use Rattle.formats.specs.declared.fault.Fault.{Ghosts as Faults}
use Rattle.formats.specs.declared.format.ReadFormat.{Ghosts as Reads}
use Rattle.receiver.specs.Promise.{ReceiverPromise}
use Rattle.ft2_laws.specs.Faults.{ft2_cause}
use Rattle.ft2_laws.specs.Reading.{ft2_model}
use Rattle.ft2_laws.specs.declared.fault.Ft2Fault.{Ft2Fault}
use Rattle.ft2.specs.declared.format.Ft2.{Ft2}
use Rattle.ft2.specs.Standing.{Standing}

-- what FT2 means at its settings
abbrev pub ft2_meaning : Ft2 → Model
ft2_meaning f = ft2_model f.settings

-- the lists for which its state stands
abbrev pub ft2_stands : Ft2 → List Mark → Type 0
ft2_stands f = Standing f.settings f.reader

-- what it reads, and its faults
abbrev pub ft2_reads : Reads Ft2 Ft2Fault
ft2_reads = record { model = ft2_meaning; stands = ft2_stands }

abbrev pub ft2_faults : Faults Ft2Fault
ft2_faults = record { cause = ft2_cause }

-- an FT2 receiver over lines that mean these marks to come is never deaf and never deceived
abbrev pub Ft2Promise : {L : Type 0} → (L → List Mark) → Type 0
Ft2Promise pending = ReceiverPromise ft2_reads ft2_faults pending
