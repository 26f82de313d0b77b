-- Marks put into a mark buffer.
use Rattle.std.specs.Prelude.{◌≡◌, ℕ, ◌+◌, List, map, length}
use Rattle.std.proofs.Math.Seq.{paste}
use Rattle.lines.specs.declared.mark.Mark.{Mark}
use Rattle.lines.specs.Records.{mark_octet}

-- the buffer holds the marks from the octet `at` on and is else as it was, and `end` is behind them
pub record Put (at : ℕ) (marks : List Mark) (before : List ℕ) (end : ℕ) (after : List ℕ) : Type 0 where
  pub behind : end ≡ at + length marks
  pub held : after ≡ paste before at (map mark_octet marks) (length marks)
