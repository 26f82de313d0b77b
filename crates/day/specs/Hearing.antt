-- What listening to a whole capture comes to, mark by mark, where each frame is released at once.
use Rattle.std.specs.Prelude.{◌≡◌, ℕ, List, [], ◌∷◌, ◌++◌, Err, take, replicate}
use Rattle.lines.specs.declared.mark.Mark.{Mark}
use Rattle.formats.specs.Laws.{Model}
use Rattle.formats.specs.Verdicts.{Cause}
use Rattle.hearing.specs.Rules.{Event, Hearer, Stage, fault, frame, hears, holding, nothing, ready, waiting, within}
use Rattle.day.specs.Batches.{Entry}
use Rattle.day.specs.Decoding.{Decoded}
use Rattle.day.specs.declared.entry.Lost.TheVariants.{Damaged}
use Rattle.day.specs.declared.entry.Site.{Site}

-- a frame was sound, of a kind with its user octets; or it was damaged, with the cause and the place
pub data Outcome : Type 0 where
  sound : ℕ → List ℕ → Outcome
  damaged : Cause → ℕ → Outcome

abbrev pub outcomes : Event → List ℕ → List Outcome
outcomes nothing buffer = []
outcomes (frame kind count) buffer = sound kind (take count buffer) ∷ []
outcomes (fault cause place) buffer = damaged cause place ∷ []

-- a receiver that goes on after a mark: a frame is released
abbrev pub going_on : Event → Hearer → Hearer
going_on nothing a = a
going_on (frame kind count) a = record { stage = ready; run = a.run; buffer = a.buffer }
going_on (fault cause place) a = a

-- what the marks come to, in their order
abbrev pub run : Model → Hearer → List Mark → List Outcome
run m a [] = []
run m a (x ∷ xs) = outcomes (hears m a x).event (hears m a x).hearer.buffer ++ run m (going_on (hears m a x).event (hears m a x).hearer) xs

-- a new receiver with an empty frame buffer
abbrev pub begin : Hearer
begin = record { stage = waiting; run = 0; buffer = replicate 255 0 }

-- an entry tells an outcome
abbrev pub Tells : Site → Outcome → Entry → Type 0
Tells site (sound kind octets) e = Decoded site kind octets e
Tells site (damaged cause place) e = e ≡ Err (Damaged (record { number = cause.number; layer = cause.layer; place = place }))

-- the entries tell the outcomes, one each and in their order
abbrev pub Told : Site → List Outcome → List Entry → Type 0
Told site [] [] = Unit {0}
Told site [] (e ∷ es) = ⊥
Told site (o ∷ os) [] = ⊥
Told site (o ∷ os) (e ∷ es) = Tells site o e × Told site os es

-- no frame is held
abbrev pub Free : Stage → Type 0
Free waiting = Unit {0}
Free ready = Unit {0}
Free (within list) = Unit {0}
Free (holding kind octets) = ⊥

-- A frame of a kind that was held is decoded from the frame buffer, and the receiver is ready.
pub record Handed {R : Type 0} (site : Site) (at : R → List ℕ → Hearer → Type 0) (model : R → Model) (r r' : R) (buffer : List ℕ) (kind : ℕ) (entry : Entry) : Type 0 where
  pub same_format : model r' ≡ model r
  pub each : (a : Hearer) → at r buffer a → at r' buffer (record { stage = ready; run = a.run; buffer = a.buffer }) × ((k count : ℕ) → a.stage ≡ holding k count → Decoded site kind (take count buffer) entry)
