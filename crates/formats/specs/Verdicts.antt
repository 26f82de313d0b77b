-- What a format says of a list of marks, and of the beginnings of a list.
use Rattle.std.specs.Prelude.{◌≡◌, ℕ, ◌⊎◌, List, [], ◌∷◌, ◌++◌}
use Rattle.lines.specs.declared.mark.Mark.{Mark}
use Rattle.formats.specs.declared.fault.Layer.{Layer}

-- why a list is no frame: the number of the fault and its layer
pub record Cause : Type 0 where
  pub number : ℕ
  pub layer : Layer

-- open, open and telling the user octet that the last mark completes, a frame of a kind, or a fault
pub data Verdict : Type 0 where
  open_list : Verdict
  tells : ℕ → Verdict
  frame_of : ℕ → Verdict
  fault_of : Cause → Verdict

-- the list is open, whether or not it tells an octet
abbrev pub Open : Verdict → Type 0
Open open_list = Unit {0}
Open (tells octet) = Unit {0}
Open (frame_of kind) = ⊥
Open (fault_of cause) = ⊥

abbrev pub Fault : Verdict → Type 0
Fault open_list = ⊥
Fault (tells octet) = ⊥
Fault (frame_of kind) = ⊥
Fault (fault_of cause) = Unit {0}

abbrev pub octet_told : Verdict → List ℕ
octet_told open_list = []
octet_told (tells octet) = octet ∷ []
octet_told (frame_of kind) = []
octet_told (fault_of cause) = []

-- Below, `done` is the list so far, and `ms` are the marks that follow it, judged one by one.

-- every one of the marks leaves the list open
abbrev pub OpenAlong : (List Mark → Verdict) → List Mark → List Mark → Type 0
OpenAlong v done [] = Unit {0}
OpenAlong v done (m ∷ ms) = Open (v (done ++ (m ∷ []))) × OpenAlong v (done ++ (m ∷ [])) ms

-- every mark but the last leaves the list open, and at the last it is judged w
abbrev pub JudgedAlong : (List Mark → Verdict) → List Mark → List Mark → Verdict → Type 0
JudgedAlong v done [] w = ⊥
JudgedAlong v done (m ∷ []) w = v (done ++ (m ∷ [])) ≡ w
JudgedAlong v done (m ∷ (n ∷ ms)) w = Open (v (done ++ (m ∷ []))) × JudgedAlong v (done ++ (m ∷ [])) (n ∷ ms) w

-- one of the marks brings a fault, and those before it leave the list open
abbrev pub FaultAlong : (List Mark → Verdict) → List Mark → List Mark → Type 0
FaultAlong v done [] = ⊥
FaultAlong v done (m ∷ ms) = Fault (v (done ++ (m ∷ []))) ⊎ (Open (v (done ++ (m ∷ []))) × FaultAlong v (done ++ (m ∷ [])) ms)

-- the user octets that the marks tell, in order
abbrev pub told_along : (List Mark → Verdict) → List Mark → List Mark → List ℕ
told_along v done [] = []
told_along v done (m ∷ ms) = octet_told (v (done ++ (m ∷ []))) ++ told_along v (done ++ (m ∷ [])) ms
