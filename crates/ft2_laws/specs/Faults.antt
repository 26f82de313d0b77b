-- The number and the layer of each FT2 fault.
use Rattle.formats.specs.Numbers.{line_cause}
use Rattle.formats.specs.Verdicts.{Cause, Verdict, fault_of}
use Rattle.formats.specs.declared.fault.Layer.TheVariants as layer
use Rattle.ft2_laws.specs.declared.fault.Ft2Fault.{Ft2Fault}
use Rattle.ft2_laws.specs.declared.fault.Ft2Fault.TheVariants as fault

abbrev pub ft2_cause : Ft2Fault → Cause
ft2_cause (fault.Line f) = line_cause f
ft2_cause fault.StartOctet = record { number = 25; layer = layer.Frame }
ft2_cause fault.CheckOctet = record { number = 30; layer = layer.Frame }
ft2_cause fault.BodyCount = record { number = 31; layer = layer.Frame }

-- the verdict of a fault
abbrev pub faulty : Ft2Fault → Verdict
faulty f = fault_of (ft2_cause f)
