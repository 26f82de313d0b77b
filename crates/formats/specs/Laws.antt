-- What a format means, and the laws that it keeps.
use Rattle.std.specs.Prelude.{◌≡◌, ℕ, ◌<◌, ◌≤◌, Bool, true, List, [], ◌∷◌, length}
use Rattle.lines.specs.declared.mark.Mark.{Mark}
use Rattle.lines.specs.declared.mark.Mark.TheVariants.{Zero}
use Rattle.formats.specs.Marks.{Altered, Begins, Quiet, behind_first, ones}
use Rattle.formats.specs.Verdicts.{Verdict, frame_of, FaultAlong, JudgedAlong, OpenAlong, told_along}

-- a format at its settings
pub record Model : Type 0 where
  -- so many marks of 1 are a quiet gap
  pub gap : ℕ
  -- fewer altered marks than this are always noticed
  pub distance : ℕ
  -- what it says of a list of marks
  pub verdict : List Mark → Verdict
  -- whether there is a kind of this number
  pub known : ℕ → Bool
  -- whether so many user octets suit the kind
  pub suits : ℕ → ℕ → Bool
  -- whether the first octet suits the others
  pub headed : ℕ → List ℕ → Bool
  -- the marks of a kind with its user octets
  pub frame : ℕ → List ℕ → List Mark

-- every number of the list is an octet
abbrev pub Octets : List ℕ → Type 0
Octets [] = Unit {0}
Octets (o ∷ os) = (o < 256) × Octets os

-- a lawful kind with lawful octets
pub record Lawful (m : Model) (kind : ℕ) (octets : List ℕ) : Type 0 where
  pub kind_known : m.known kind ≡ true
  pub count_suits : m.suits kind (length octets) ≡ true
  pub first_suits : m.headed kind octets ≡ true
  pub are_octets : Octets octets

-- the format judges the list a frame of the kind, tells these octets along it, and leaves its shorter beginnings open
pub record Reads (m : Model) (marks : List Mark) (kind : ℕ) (octets : List ℕ) : Type 0 where
  pub judged : JudgedAlong m.verdict [] marks (frame_of kind)
  pub told : told_along m.verdict [] marks ≡ octets

pub record Laws (m : Model) : Type 0 where
  pub gap_least : 1 ≤ m.gap
  pub distance_least : 2 ≤ m.distance
  -- a frame begins with 0
  pub begins : (kind : ℕ) (octets : List ℕ) → Lawful m kind octets → (rest : List Mark) × (m.frame kind octets ≡ Zero ∷ rest)
  -- a frame is read as its own kind and octets
  pub frame_reads : (kind : ℕ) (octets : List ℕ) → Lawful m kind octets → Reads m (m.frame kind octets) kind octets
  -- and no other list is read as a frame
  pub only_frames : (marks : List Mark) (kind : ℕ) (octets : List ℕ) → Begins marks → Reads m marks kind octets → Lawful m kind octets × (marks ≡ m.frame kind octets)
  -- a frame with fewer marks altered than the distance, the first not among them, comes to a fault by its last mark, and to no frame before
  pub alteration_shows : (kind : ℕ) (octets : List ℕ) (heard : List Mark) → Lawful m kind octets → Altered m.distance (m.frame kind octets) heard → FaultAlong m.verdict [] heard
  -- an open list followed by a gap ceases to be open by the last mark of the gap
  pub gap_closes : (marks : List Mark) → Begins marks → OpenAlong m.verdict [] marks → OpenAlong m.verdict marks (ones m.gap) → ⊥
  -- a frame so altered has no gap behind its first mark
  pub no_gap_within : (kind : ℕ) (octets : List ℕ) (heard : List Mark) → Lawful m kind octets → Altered m.distance (m.frame kind octets) heard → Quiet m.gap (behind_first heard) → ⊥
  -- an open list has fewer than 65,535 marks, and the octets that it tells are numbered from 0 and below 255
  pub open_is_short : (marks : List Mark) → Begins marks → OpenAlong m.verdict [] marks → length marks < 65535
  pub few_told : (marks : List Mark) → Begins marks → OpenAlong m.verdict [] marks → length (told_along m.verdict [] marks) ≤ 255
