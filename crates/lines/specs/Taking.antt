-- What take does to a line's list of marks to come.
use Rattle.std.specs.Prelude.{◌≡◌, List, [], ◌∷◌, Some, None, Option}
use Rattle.lines.specs.declared.mark.Mark.{Mark}

-- before the call, the answer, after the call: the first mark is answered and removed;
-- none is answered where no mark is to come, and none is to come then
abbrev pub Taken : List Mark → Option Mark → List Mark → Type 0
Taken before None after = (before ≡ []) × (after ≡ [])
Taken before (Some m) after = before ≡ m ∷ after
