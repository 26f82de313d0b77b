-- An octet of a mark record, and the mark that it stands for.
use Rattle.std.specs.Prelude.{ℕ, cond, ◌==◌}
use Rattle.lines.specs.declared.mark.Mark.{Mark}
use Rattle.lines.specs.declared.mark.Mark.TheVariants.{Zero, One, Bad}

-- an octet of a mark record: 00 is mark 0, 01 is mark 1, any other is bad
abbrev pub mark_of : ℕ → Mark
mark_of octet = cond (octet == 0) Zero (cond (octet == 1) One Bad)

-- the octet that is written for a mark
abbrev pub mark_octet : Mark → ℕ
mark_octet Zero = 0
mark_octet One = 1
mark_octet Bad = 2
