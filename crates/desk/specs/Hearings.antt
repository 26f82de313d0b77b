-- What is done at the format chosen.
use Rattle.std.specs.Prelude.{◌≡◌, ℕ, ◌≤◌, ◌⊎◌, List, Some, None, Ok, Err, Option, Result}
use Rattle.lines.specs.declared.mark.Mark.{Mark}
use Rattle.formats.specs.Laws.{Model}
use Rattle.formats.specs.Machine.{StandsFor}
use Rattle.formats.specs.declared.refusal.SettingsRefusal.TheVariants.{OutOfLimits}
use Rattle.ft12_laws.specs.Faults.{ft12_cause}
use Rattle.ft12_laws.specs.Machine.{ft12_machine}
use Rattle.ft12_laws.specs.Reading.{ft12_model}
use Rattle.ft12.specs.declared.format.Ft12.{Ft12}
use Rattle.ft2_laws.specs.Faults.{ft2_cause}
use Rattle.ft2_laws.specs.Limits.{Within}
use Rattle.ft2_laws.specs.Reading.{ft2_model}
use Rattle.ft2_laws.specs.declared.settings.Settings.{Settings}
use Rattle.ft2.specs.Standing.{Standing}
use Rattle.ft2.specs.declared.format.Ft2.{Ft2}
use Rattle.desk.specs.Calls.{CarriedOut, New}
use Rattle.desk.specs.declared.answer.DeskAnswer.{DeskAnswer}
use Rattle.desk.specs.declared.answer.DeskAnswer.TheVariants as answer
use Rattle.desk.specs.declared.answer.DeskRefusal.TheVariants as refusal
use Rattle.desk.specs.declared.answer.Undone.{Undone}
use Rattle.desk.specs.declared.answer.Undone.TheVariants.{NoFormat, Refused}
use Rattle.desk.specs.declared.hearings.Buffers.{Buffers}
use Rattle.desk.specs.declared.hearings.Call.{Call}
use Rattle.desk.specs.declared.hearings.Hearing.{Hearing}
use Rattle.desk.specs.declared.hearings.Hearing.TheVariants as hearing

-- what FT1.2 means at its settings, and the lists for which its state stands
abbrev pub ft12_means : Ft12 → Model
ft12_means f = ft12_model f.settings.fixed_length

abbrev pub ft12_stands : Ft12 → List Mark → Type 0
ft12_stands f = StandsFor (ft12_machine f.settings.fixed_length) f.reading

-- and so FT2
abbrev pub ft2_means : Ft2 → Model
ft2_means f = ft2_model f.settings

abbrev pub ft2_stands : Ft2 → List Mark → Type 0
ft2_stands f = Standing f.settings f.reader

-- the fixed length is within its limits: a new receiver, and the gap and the distance are answered; or it is not, and nothing is changed
abbrev pub ChoseFt12 : ℕ → Option Hearing → Option Hearing → Result DeskAnswer Undone → Type 0
ChoseFt12 n h h' a =
    ((1 ≤ n) × (n ≤ 255) × (a ≡ Ok (answer.Ft12 n (ft12_model n).gap (ft12_model n).distance)) × ((r : _) × (h' ≡ Some (hearing.Ft12 r)) × New ft12_means ft12_stands (ft12_model n) r))
    ⊎ ((1 ≤ n → n ≤ 255 → ⊥) × (a ≡ Err (Refused (refusal.Settings OutOfLimits))) × (h' ≡ h))

-- and so for FT2 with its two lengths
abbrev pub ChoseFt2 : ℕ → ℕ → Option Hearing → Option Hearing → Result DeskAnswer Undone → Type 0
ChoseFt2 m n h h' a =
    ((s : Settings) × (s.fixed ≡ m) × (s.header ≡ n) × (a ≡ Ok (answer.Ft2 m n (ft2_model s).gap (ft2_model s).distance)) × ((r : _) × (h' ≡ Some (hearing.Ft2 r)) × New ft2_means ft2_stands (ft2_model s) r))
    ⊎ ((Within m n → ⊥) × (a ≡ Err (Refused (refusal.Settings OutOfLimits))) × (h' ≡ h))

-- A call at the format chosen, and its receiver, the line and the buffers before and after it. Where there is no format that
-- is answered, and nothing is changed.
abbrev pub AtHearing : {L : Type 0} → (L → List Mark) → Call → Option Hearing → Option Hearing → L → L → Buffers → Buffers → Result DeskAnswer Undone → Type 0
AtHearing pending call None h' l l' b b' a = (a ≡ Err NoFormat) × (h' ≡ None) × (l' ≡ l) × (b' ≡ b)
AtHearing pending call (Some (hearing.Ft12 r)) h' l l' b b' a =
    (r' : _) × (h' ≡ Some (hearing.Ft12 r')) × CarriedOut ft12_means ft12_stands ft12_cause pending call r r' l l' b b' a
AtHearing pending call (Some (hearing.Ft2 r)) h' l l' b b' a =
    (r' : _) × (h' ≡ Some (hearing.Ft2 r')) × CarriedOut ft2_means ft2_stands ft2_cause pending call r r' l l' b b' a
