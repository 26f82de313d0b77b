-- What each call to a receiver answers, and what it leaves.
-- R is the type of the receivers, L that of the lines and E that of the format's faults. A format's state may stand for
-- several lists, so a receiver may be `at` several hearers; what a call does is said of each of them.
use Rattle.std.specs.Prelude.{◌≡◌, ℕ, ◌<◌, ◌≤◌, ◌⊎◌, List, [], ◌∷◌, ◌++◌, length, take, Ok, Err, Result, ◌≢◌}
use Rattle.lines.specs.declared.mark.Mark.{Mark}
use Rattle.formats.specs.Laws.{Model}
use Rattle.formats.specs.Verdicts.{Cause}
use Rattle.hearing.specs.Rules.{Event, Hearer, hears, holding, ready, waiting, nothing}
use Rattle.hearing.specs.Rules as rules
use Rattle.hearing.specs.declared.answer.Ending.{Ending}
use Rattle.hearing.specs.declared.answer.Ending.TheVariants as ending
use Rattle.hearing.specs.declared.answer.Heard.{Heard}
use Rattle.hearing.specs.declared.answer.Standing.{Standing}
use Rattle.hearing.specs.declared.answer.State.TheVariants as state
use Rattle.hearing.specs.declared.fault.ReceiverFault.{ReceiverFault}
use Rattle.hearing.specs.declared.refusal.ReceiverRefusal.{ReceiverRefusal}
use Rattle.hearing.specs.declared.refusal.ReceiverRefusal.TheVariants.{ShortBuffer, Holding, NotHolding}

-- a new receiver: waiting, with no run and at the empty list, whatever the buffer
pub record Begun {R : Type 0} (at : R → List ℕ → Hearer → Type 0) (standing : R → Standing) (r : R) : Type 0 where
  pub stands : standing r ≡ record { state = state.Waiting; run = 0 }
  pub begins : (buffer : List ℕ) → at r buffer (record { stage = waiting; run = 0; buffer = buffer })

-- the event that ends a listen: a frame with kind and count, or a fault with cause and place
abbrev pub Ends : {E : Type 0} → (E → Cause) → Event → Ending (ReceiverFault E) → Type 0
Ends cause event (ending.Frame kind octets) = event ≡ rules.frame kind octets
Ends cause event (ending.Fault why) = event ≡ rules.fault (cause why.fault) why.place
Ends cause event ending.Spent = ⊥
Ends cause event ending.Empty = ⊥

-- an ending that no mark brings
abbrev pub Quietly : {E : Type 0} → Ending E → Type 0
Quietly (ending.Frame kind octets) = ⊥
Quietly (ending.Fault why) = ⊥
Quietly ending.Spent = Unit {0}
Quietly ending.Empty = Unit {0}

-- from hearer to hearer along the marks taken: none of them brings anything, but for the last where a frame or a fault ends the listen
abbrev pub Brings : {E : Type 0} → (E → Cause) → Model → Hearer → List Mark → Ending (ReceiverFault E) → Hearer → Type 0
Brings cause m a [] end b = Quietly end × (b ≡ a)
Brings cause m a (x ∷ xs) end b = (((hears m a x).event ≡ nothing) × Brings cause m (hears m a x).hearer xs end b) ⊎ (Ends cause (hears m a x).event end × (xs ≡ []) × (b ≡ (hears m a x).hearer))

-- the budget is used up, or no mark is to come before it is
abbrev pub Over : {E : Type 0} → ℕ → ℕ → List Mark → Ending E → Type 0
Over budget count after (ending.Frame kind octets) = Unit {0}
Over budget count after (ending.Fault why) = Unit {0}
Over budget count after ending.Spent = count ≡ budget
Over budget count after ending.Empty = (count < budget) × (after ≡ [])

-- A listen that is not refused: which marks it takes from the line, their count, and what they bring.
pub record Listens {R E : Type 0} (cause : E → Cause) (at : R → List ℕ → Hearer → Type 0) (model : R → Model) (budget : ℕ) (r r' : R) (before after : List Mark) (buffer buffer' : List ℕ) (heard : Heard (ReceiverFault E)) : Type 0 where
  pub marks : List Mark
  pub taken : before ≡ marks ++ after
  pub counted : heard.taken ≡ length marks
  pub afforded : length marks ≤ budget
  pub over : Over budget (length marks) after heard.ending
  pub same_format : model r' ≡ model r
  pub brought : (a : Hearer) → at r buffer a → (b : Hearer) × at r' buffer' b × Brings cause (model r) a marks heard.ending b

-- nothing is changed: neither receiver, line nor buffer
abbrev pub Unchanged : {R L : Type 0} → R → R → L → L → List ℕ → List ℕ → Type 0
Unchanged r r' l l' buffer buffer' = (r' ≡ r) × (l' ≡ l) × (buffer' ≡ buffer)

-- listen
abbrev pub Listened : {R L E : Type 0} → (E → Cause) → (R → List ℕ → Hearer → Type 0) → (R → Model) → (R → Standing) → (L → List Mark) → ℕ → R → R → L → L → List ℕ → List ℕ → Result (Heard (ReceiverFault E)) ReceiverRefusal → Type 0
Listened cause at model standing pending budget r r' l l' buffer buffer' (Ok heard) =
    (255 ≤ length buffer) × ((standing r).state ≢ state.Holding) × Listens cause at model budget r r' (pending l) (pending l') buffer buffer' heard
Listened cause at model standing pending budget r r' l l' buffer buffer' (Err ShortBuffer) = (length buffer < 255) × Unchanged r r' l l' buffer buffer'
Listened cause at model standing pending budget r r' l l' buffer buffer' (Err Holding) = (255 ≤ length buffer) × ((standing r).state ≡ state.Holding) × Unchanged r r' l l' buffer buffer'
Listened cause at model standing pending budget r r' l l' buffer buffer' (Err NotHolding) = ⊥

-- look: the user octets are the first octets of the buffer, as many as the frame has
abbrev pub Looked : {R : Type 0} → (R → List ℕ → Hearer → Type 0) → (R → Standing) → R → List ℕ → Result (List ℕ) ReceiverRefusal → Type 0
Looked at standing r buffer (Ok octets) =
    (255 ≤ length buffer) × ((standing r).state ≡ state.Holding) × ((a : Hearer) → at r buffer a → (kind : ℕ) × (count : ℕ) × (a.stage ≡ holding kind count) × (octets ≡ take count buffer))
Looked at standing r buffer (Err ShortBuffer) = length buffer < 255
Looked at standing r buffer (Err Holding) = ⊥
Looked at standing r buffer (Err NotHolding) = (255 ≤ length buffer) × ((standing r).state ≢ state.Holding)

-- release: a holding receiver is ready, and all else is as before
pub record Freed {R : Type 0} (at : R → List ℕ → Hearer → Type 0) (model : R → Model) (standing : R → Standing) (r r' : R) : Type 0 where
  pub held : (standing r).state ≡ state.Holding
  pub is_ready : standing r' ≡ record { state = state.Ready; run = (standing r).run }
  pub same_format : model r' ≡ model r
  pub goes_on : (buffer : List ℕ) (a : Hearer) → at r buffer a → at r' buffer (record { stage = ready; run = a.run; buffer = a.buffer })

abbrev pub Released : {R : Type 0} → (R → List ℕ → Hearer → Type 0) → (R → Model) → (R → Standing) → R → R → Result (Unit {0}) ReceiverRefusal → Type 0
Released at model standing r r' (Ok done) = Freed at model standing r r'
Released at model standing r r' (Err ShortBuffer) = ⊥
Released at model standing r r' (Err Holding) = ⊥
Released at model standing r r' (Err NotHolding) = ((standing r).state ≢ state.Holding) × (r' ≡ r)
