-- The entries of a character record.
use Rattle.std.specs.Prelude.{ℕ, cond, List, [], ◌∷◌, ◌++◌, drop, ◌==◌}
use Rattle.lines.specs.declared.mark.Mark.{Mark}
use Rattle.lines.specs.declared.mark.Mark.TheVariants.{Zero, One, Bad}
use Rattle.lines.specs.declared.character.Status.{Status}
use Rattle.lines.specs.declared.character.Status.TheVariants as status
use Rattle.lines.specs.Characters.{character, framed, parity_mark}
use Rattle.lines.specs.Layers.{exchanged}

-- what a status octet says
abbrev pub status_of : ℕ → Status
status_of octet = cond (octet == 0) status.Sound (cond (octet == 1) status.ParityReversed (cond (octet == 2) status.StopZero (cond (octet == 3) status.Idle status.Bad)))

-- eleven equal marks
abbrev pub eleven : Mark → List Mark
eleven m = m ∷ (m ∷ (m ∷ (m ∷ (m ∷ (m ∷ (m ∷ (m ∷ (m ∷ (m ∷ (m ∷ []))))))))))

-- the eleven marks of an entry: the character of its data octet, the same with the parity mark reversed, the same with
-- stop mark 0, an idle line, or eleven bad marks
abbrev pub entry : Status → ℕ → List Mark
entry status.Sound o = character o
entry status.ParityReversed o = framed (exchanged (parity_mark o)) One o
entry status.StopZero o = framed (parity_mark o) Zero o
entry status.Idle o = eleven One
entry status.Bad o = eleven Bad

-- the marks of a whole record, two octets an entry: status, then data
abbrev pub entries : List ℕ → List Mark
entries [] = []
entries (s ∷ []) = []
entries (s ∷ (o ∷ rest)) = entry (status_of s) o ++ entries rest

-- what is left of a record from a place of its first entry on
abbrev pub left_from : ℕ → List ℕ → List Mark
left_from place octets = drop place (entries octets)
