-- The receiver's promise for FT1.2, over lines of one kind.
use Rattle.std.specs.Prelude.{List}
use Rattle.lines.specs.declared.mark.Mark.{Mark}
use Rattle.formats.specs.Laws.{Model}
use Rattle.formats.specs.Machine.{StandsFor}
use Rattle.formats.specs.declared.fault.Fault.{Ghosts as Faults}
use Rattle.formats.specs.declared.format.ReadFormat.{Ghosts as Reads}
use Rattle.receiver.specs.Promise.{ReceiverPromise}
use Rattle.ft12_laws.specs.Faults.{ft12_cause}
use Rattle.ft12_laws.specs.Machine.{ft12_machine}
use Rattle.ft12_laws.specs.Reading.{ft12_model}
use Rattle.ft12_laws.specs.declared.fault.Ft12Fault.{Ft12Fault}
use Rattle.ft12.specs.declared.format.Ft12.{Ft12}

-- what FT1.2 means at its settings
abbrev pub ft12_meaning : Ft12 → Model
ft12_meaning f = ft12_model f.settings.fixed_length

-- the lists for which its state stands
abbrev pub ft12_stands : Ft12 → List Mark → Type 0
ft12_stands f = StandsFor (ft12_machine f.settings.fixed_length) f.reading

-- what it reads, and its faults
abbrev pub ft12_reads : Reads Ft12 Ft12Fault
ft12_reads = record { model = ft12_meaning; stands = ft12_stands }

abbrev pub ft12_faults : Faults Ft12Fault
ft12_faults = record { cause = ft12_cause }

-- an FT1.2 receiver over lines that mean these marks to come is never deaf and never deceived
abbrev pub Ft12Promise : {L : Type 0} → (L → List Mark) → Type 0
Ft12Promise pending = ReceiverPromise ft12_reads ft12_faults pending
