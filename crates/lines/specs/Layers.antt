-- What the two layers make of the marks below them.
use Rattle.std.specs.Prelude.{◌≡◌, List, [], ◌∷◌, Some, None, Option}
use Rattle.lines.specs.declared.mark.Mark.{Mark}
use Rattle.lines.specs.declared.mark.Mark.TheVariants.{Zero, One, Bad}
use Rattle.lines.specs.declared.sampling.Kept.{Kept}
use Rattle.lines.specs.declared.sampling.Kept.TheVariants.{Nothing, Single, Couple}

-- reversal: 0 and 1 change places, bad stays
abbrev pub exchanged : Mark → Mark
exchanged Zero = One
exchanged One = Zero
exchanged Bad = Bad

-- sampling: three equal good marks give that mark, any other three give bad
abbrev pub agreed : Mark → Mark → Mark → Mark
agreed Zero Zero Zero = Zero
agreed Zero Zero One = Bad
agreed Zero Zero Bad = Bad
agreed Zero One c = Bad
agreed Zero Bad c = Bad
agreed One One Zero = Bad
agreed One One One = One
agreed One One Bad = Bad
agreed One Zero c = Bad
agreed One Bad c = Bad
agreed Bad b c = Bad

-- the marks that sampling keeps, in the order in which they came
abbrev pub held : Kept → List Mark
held Nothing = []
held (Single a) = a ∷ []
held (Couple a b) = a ∷ (b ∷ [])

-- a list cut into threes; a rest of one or two is no mark yet
abbrev pub threes : List Mark → List Mark
threes [] = []
threes (a ∷ []) = []
threes (a ∷ (b ∷ [])) = []
threes (a ∷ (b ∷ (c ∷ rest))) = agreed a b c ∷ threes rest

-- the answer on the first two of the next three, what is kept, what is to come below:
-- both are kept, or fewer are and nothing is to come
abbrev pub Coupled : Option (Mark × Mark) → Kept → List Mark → Type 0
Coupled None kept below = (threes (held kept) ≡ []) × (below ≡ [])
Coupled (Some p) kept below = kept ≡ Couple p.0 p.1

-- what take at a sampled line does to the marks kept and to come: the first three are gone and agreed on,
-- or there are fewer than three and all of them stay
abbrev pub ThreeTaken : List Mark → Option Mark → List Mark → Type 0
ThreeTaken before None after = (after ≡ before) × (threes before ≡ [])
ThreeTaken before (Some m) after = (a : Mark) × (b : Mark) × (c : Mark) × (before ≡ a ∷ (b ∷ (c ∷ after))) × (m ≡ agreed a b c)
