-- A fault and an ending as they are told, whatever the format.
use Rattle.formats.specs.Verdicts.{Cause}
use Rattle.hearing.specs.declared.answer.Ending.{Ending}
use Rattle.hearing.specs.declared.answer.Ending.TheVariants.{Frame, Fault, Spent, Empty}
use Rattle.hearing.specs.declared.fault.ReceiverFault.{ReceiverFault}
use Rattle.hearing.specs.declared.fault.ToldFault.{ToldFault}

-- number and layer of the fault's cause, and its place
abbrev pub told_fault : {E : Type 0} → (E → Cause) → ReceiverFault E → ToldFault
told_fault cause why = record { number = (cause why.fault).number; layer = (cause why.fault).layer; place = why.place }

-- the same ending, its fault told
abbrev pub told : {E : Type 0} → (E → Cause) → Ending (ReceiverFault E) → Ending ToldFault
told cause (Frame kind octets) = Frame kind octets
told cause (Fault why) = Fault (told_fault cause why)
told cause Spent = Spent
told cause Empty = Empty
