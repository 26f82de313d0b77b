-- Words about lists of marks.
use Rattle.std.specs.Prelude.{◌≡◌, ℕ, ◌+◌, ◌<◌, ◌≤◌, List, [], ◌∷◌, ◌++◌, length, replicate}
use Rattle.lines.specs.declared.mark.Mark.{Mark}
use Rattle.lines.specs.declared.mark.Mark.TheVariants.{Zero, One, Bad}

-- so many marks of 1
abbrev pub ones : ℕ → List Mark
ones n = replicate n One

-- the list begins with 0 or bad, as every list does that a format judges
abbrev pub Begins : List Mark → Type 0
Begins [] = ⊥
Begins (Zero ∷ ms) = Unit {0}
Begins (One ∷ ms) = ⊥
Begins (Bad ∷ ms) = Unit {0}

-- 1 where two marks are different values, else 0
abbrev pub change : Mark → Mark → ℕ
change Zero Zero = 0
change Zero One = 1
change Zero Bad = 1
change One Zero = 1
change One One = 0
change One Bad = 1
change Bad Zero = 1
change Bad One = 1
change Bad Bad = 0

-- in how many places a list has another mark than the one written
abbrev pub changes : List Mark → List Mark → ℕ
changes [] ns = 0
changes (m ∷ ms) [] = 0
changes (m ∷ ms) (n ∷ ns) = change m n + changes ms ns

-- what is heard of a list sent where 1 to d - 1 marks are altered, the first not among them
abbrev pub Altered : ℕ → List Mark → List Mark → Type 0
Altered d [] heard = ⊥
Altered d (m ∷ ms) [] = ⊥
Altered d (m ∷ ms) (n ∷ ns) = (n ≡ m) × (length ns ≡ length ms) × (1 ≤ changes ms ns) × (changes ms ns < d)

-- what follows the first mark
abbrev pub behind_first : List Mark → List Mark
behind_first [] = []
behind_first (m ∷ ms) = ms

-- somewhere in the list stand n marks of 1 in a row
abbrev pub Quiet : ℕ → List Mark → Type 0
Quiet n ms = (before : List Mark) × (after : List Mark) × (ms ≡ before ++ (ones n ++ after))
