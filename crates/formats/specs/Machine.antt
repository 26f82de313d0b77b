-- A format that judges mark by mark: states, what a state says of a mark, and the state after it.
use Rattle.std.specs.Prelude.{◌≡◌, List, [], ◌∷◌}
use Rattle.lines.specs.declared.mark.Mark.{Mark}
use Rattle.formats.specs.Verdicts.{Verdict, Open}

pub record Machine (S : Type 0) : Type 0 where
  -- the state of the empty list
  pub start : S
  pub says : S → Mark → Verdict
  pub after : S → Mark → S

module _ {S : Type 0} (t : Machine S) where
  -- the state that marks lead to
  abbrev pub reached : S → List Mark → S
  reached s [] = s
  reached s (m ∷ ms) = reached (t.after s m) ms

  -- every one of the marks leaves the list open
  abbrev pub Opened : S → List Mark → Type 0
  Opened s [] = Unit {0}
  Opened s (m ∷ ms) = Open (t.says s m) × Opened (t.after s m) ms

  -- a state stands for the open lists that lead to it
  abbrev pub StandsFor : S → List Mark → Type 0
  StandsFor s ms = (reached t.start ms ≡ s) × Opened t.start ms
