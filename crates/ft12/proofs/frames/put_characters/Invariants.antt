use Rattle.std.proofs.Common.{take}
use Rattle.ft12_laws.specs.Frames.{characters}
use Rattle.formats.specs.Putting.{Put}
use Rattle.ft12.proofs.frames.put_characters.Given as goal

-- the characters so far are put
abbrev pub invariant-loop-octet : goal.invariant-loop-octet
invariant-loop-octet l = Put l.at (characters (take l.octet-index l.octets)) l.initial.marks l.next l.marks
