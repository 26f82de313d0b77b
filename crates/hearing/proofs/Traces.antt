-- A chain of calls, mark by mark.
use Rattle.std.proofs.Common.{◌≡◌, ℕ, suc, ◌≤◌, Bool, true, false, cond, ltb, List, [], ◌∷◌, ◌++◌, length, take, Ok, Err, Result, sym, refl, ap, ◌∙◌, subst, inl, inr}
use Rattle.std.proofs.lemmas.List.{length-set}
use Rattle.lines.specs.declared.mark.Mark.{Mark}
use Rattle.lines.specs.declared.mark.Mark.TheVariants.{Zero, One, Bad}
use Rattle.formats.specs.Laws.{Model}
use Rattle.formats.specs.Verdicts.{Cause, Verdict, open_list, tells, frame_of, fault_of}
use Rattle.hearing.specs.Calls.{Brings, Ends, Listened, Quietly, Released, Unchanged}
use Rattle.hearing.specs.Promise.{Chain, Entry, World, handed, last_note, no_frame, noted, notes, none, listen, look, release, ask}
use Rattle.hearing.specs.Rules.{Event, Hearer, Sound, Stage, Step, by_stage, comes_to, fault, frame, hears, holding, nothing, ready, state_of, waiting, within}
use Rattle.hearing.specs.declared.answer.Ending.{Ending}
use Rattle.hearing.specs.declared.answer.Ending.TheVariants as ending
use Rattle.hearing.specs.declared.answer.Heard.{Heard}
use Rattle.hearing.specs.declared.answer.Standing.{Standing}
use Rattle.hearing.specs.declared.answer.State.TheVariants as state
use Rattle.hearing.specs.declared.fault.ReceiverFault.{ReceiverFault}
use Rattle.hearing.specs.declared.refusal.ReceiverRefusal.{ReceiverRefusal}
use Rattle.hearing.specs.declared.refusal.ReceiverRefusal.TheVariants.{ShortBuffer, Holding, NotHolding}

-- the entry of a mark
abbrev pub note : Event → List ℕ → Entry
note nothing buffer = no_frame
note (frame kind octets) buffer = handed kind (take octets buffer)
note (fault cause place) buffer = no_frame

abbrev pub entry : Step → Entry
entry s = note s.event s.hearer.buffer

abbrev pub freed : Hearer → Hearer
freed a = record { stage = ready; run = a.run; buffer = a.buffer }

abbrev pub Free : Stage → Type 0
Free waiting = Unit {0}
Free ready = Unit {0}
Free (within list) = Unit {0}
Free (holding kind octets) = ⊥

-- marks taken one by one, and frames released
pub data Trace (m : Model) : Hearer → List Mark → List Entry → Hearer → List Mark → Type 0 where
  stop : {a : Hearer} {ms : List Mark} → Trace m a ms [] a ms
  mark : {a b : Hearer} {x : Mark} {ms ns : List Mark} {h : List Entry} → Free a.stage → 255 ≤ length a.buffer → Trace m (hears m a x).hearer ms h b ns → Trace m a (x ∷ ms) (entry (hears m a x) ∷ h) b ns
  free : {a b : Hearer} {ms ns : List Mark} {h : List Entry} (kind count : ℕ) → a.stage ≡ holding kind count → Trace m (freed a) ms h b ns → Trace m a ms h b ns

-- a list that is judged leaves the buffer as long as it was
comes_length : (gap run : ℕ) (buffer : List ℕ) (place count : ℕ) (longer : List Mark) (v : Verdict) → length (comes_to gap run buffer place count longer v).hearer.buffer ≡ length buffer
comes_length gap run buffer place count longer open_list = refl
comes_length gap run buffer place count longer (tells octet) = length-set buffer count octet
comes_length gap run buffer place count longer (frame_of kind) = refl
comes_length gap run buffer place count longer (fault_of cause) = refl

by_stage_length : (m : Model) (s : Stage) (run : ℕ) (buffer : List ℕ) (x : Mark) → length (by_stage m s run buffer x).hearer.buffer ≡ length buffer
by_stage_length m waiting run buffer x = refl
by_stage_length m ready run buffer Zero = comes_length _ _ buffer _ _ _ (m.verdict (Zero ∷ []))
by_stage_length m ready run buffer One = refl
by_stage_length m ready run buffer Bad = comes_length _ _ buffer _ _ _ (m.verdict (Bad ∷ []))
by_stage_length m (within list) run buffer x = comes_length _ _ buffer _ _ _ (m.verdict (list ++ (x ∷ [])))
by_stage_length m (holding kind octets) run buffer x = refl

pub hears_length : (m : Model) (a : Hearer) (x : Mark) → length (hears m a x).hearer.buffer ≡ length a.buffer
hears_length m a x = by_stage_length m a.stage _ a.buffer x

resting_free : (b : Bool) → Free (cond b waiting ready)
resting_free true = tt
resting_free false = tt

-- a mark that brings nothing leaves no frame held
comes_free : (gap run : ℕ) (buffer : List ℕ) (place count : ℕ) (longer : List Mark) (v : Verdict) → (comes_to gap run buffer place count longer v).event ≡ nothing → Free (comes_to gap run buffer place count longer v).hearer.stage
comes_free gap run buffer place count longer open_list e = tt
comes_free gap run buffer place count longer (tells octet) e = tt
comes_free gap run buffer place count longer (frame_of kind) e = cc
comes_free gap run buffer place count longer (fault_of cause) e = resting_free (ltb run gap)

by_stage_free : (m : Model) (s : Stage) (run : ℕ) (buffer : List ℕ) (x : Mark) → Free s → (by_stage m s run buffer x).event ≡ nothing → Free (by_stage m s run buffer x).hearer.stage
by_stage_free m waiting run buffer x f e = resting_free (ltb run m.gap)
by_stage_free m ready run buffer Zero f e = comes_free _ _ _ _ _ _ (m.verdict (Zero ∷ [])) e
by_stage_free m ready run buffer One f e = tt
by_stage_free m ready run buffer Bad f e = comes_free _ _ _ _ _ _ (m.verdict (Bad ∷ [])) e
by_stage_free m (within list) run buffer x f e = comes_free _ _ _ _ _ _ (m.verdict (list ++ (x ∷ []))) e
by_stage_free m (holding kind octets) run buffer x f e = absurd f

pub hears_free : (m : Model) (a : Hearer) (x : Mark) → Free a.stage → (hears m a x).event ≡ nothing → Free (hears m a x).hearer.stage
hears_free m a x f e = by_stage_free m a.stage _ a.buffer x f e

-- the entry of the mark that ended a listen
loud : {E : Type 0} (cause : E → Cause) (s : Step) (end : Ending (ReceiverFault E)) → Ends cause s.event end → entry s ≡ last_note end s.hearer.buffer
loud cause s (ending.Frame kind octets) e = ap (λ v. note v s.hearer.buffer) e
loud cause s (ending.Fault why) e = ap (λ v. note v s.hearer.buffer) e
loud cause s ending.Spent e = absurd e
loud cause s ending.Empty e = absurd e

silent : {E : Type 0} (end : Ending E) (buffer : List ℕ) → Quietly end → last_note end buffer ≡ no_frame
silent (ending.Frame kind octets) buffer q = absurd q
silent (ending.Fault why) buffer q = absurd q
silent ending.Spent buffer q = refl
silent ending.Empty buffer q = refl

module _ {E : Type 0} (cause : E → Cause) (m : Model) (after : List Mark) (end : Ending (ReceiverFault E)) (b : Hearer) (h : List Entry) (c : Hearer) (ns : List Mark) (t : Trace m b after h c ns) where
  -- the marks of one listen, and what follows
  pub along : (a : Hearer) (marks : List Mark) → Brings cause m a marks end b → Free a.stage → 255 ≤ length a.buffer → Trace m a (marks ++ after) (notes (length marks) end b.buffer ++ h) c ns
  along a [] p f l = subst (λ s. Trace m s after h c ns) p.1 t
  along a (x ∷ []) (inl p) f l =
      let rest = along (hears m a x).hearer [] p.1 (hears_free m a x f p.0) (subst (λ n. 255 ≤ n) (sym (hears_length m a x)) l) in
      let same : entry (hears m a x) ≡ last_note end b.buffer = ap (λ v. note v (hears m a x).hearer.buffer) p.0 ∙ sym (silent end b.buffer p.1.0) in
      subst (λ e. Trace m a (x ∷ after) (e ∷ h) c ns) same (mark f l rest)
  along a (x ∷ []) (inr p) f l =
      let rest = subst (λ s. Trace m s after h c ns) p.2 t in
      let same : entry (hears m a x) ≡ last_note end b.buffer = loud cause (hears m a x) end p.0 ∙ ap (λ s. last_note end s.buffer) (sym p.2) in
      subst (λ e. Trace m a (x ∷ after) (e ∷ h) c ns) same (mark f l rest)
  along a (x ∷ (y ∷ ys)) (inl p) f l =
      let rest = along (hears m a x).hearer (y ∷ ys) p.1 (hears_free m a x f p.0) (subst (λ n. 255 ≤ n) (sym (hears_length m a x)) l) in
      subst (λ e. Trace m a (x ∷ (y ∷ (ys ++ after))) (e ∷ (notes (suc (length ys)) end b.buffer ++ h)) c ns) (ap (λ v. note v (hears m a x).hearer.buffer) p.0) (mark f l rest)
  along a (x ∷ (y ∷ ys)) (inr p) f l = let e = p.1 in cc

free_of : (s : Stage) → (state_of s ≡ state.Holding → ⊥) → Free s
free_of waiting n = tt
free_of ready n = tt
free_of (within list) n = tt
free_of (holding kind octets) n = n refl

held_of : (s : Stage) → state_of s ≡ state.Holding → (kind : ℕ) × (count : ℕ) × (s ≡ holding kind count)
held_of waiting e = cc
held_of ready e = cc
held_of (within list) e = cc
held_of (holding kind octets) e = (kind, octets, refl)

pub ready_of : (s : Stage) → state_of s ≡ state.Ready → s ≡ ready
ready_of waiting e = cc
ready_of ready e = refl
ready_of (within list) e = cc
ready_of (holding kind octets) e = cc

-- what a receiver has of a hearer that it is at
pub record Tied (m : Model) (standing : Standing) (buffer : List ℕ) (a : Hearer) : Type 0 where
  pub state_tied : standing.state ≡ state_of a.stage
  pub run_tied : standing.run ≡ a.run
  pub buffer_tied : a.buffer ≡ buffer
  pub sound : Sound m a.stage

module _ {R L E : Type 0} (cause : E → Cause) (at : R → List ℕ → Hearer → Type 0) (model : R → Model) (standing : R → Standing) (pending : L → List Mark) (tied : (r : R) (buffer : List ℕ) (a : Hearer) → at r buffer a → Tied (model r) (standing r) buffer a) where
  -- from a receiver to a world, by a trace
  pub record Reaches (m : Model) (a : Hearer) (ms : List Mark) (h : List Entry) (v : World R L) : Type 0 where
    pub last : Hearer
    pub arrives : at v.receiver v.buffer last
    pub same_model : model v.receiver ≡ m
    pub trace : Trace m a ms h last (pending v.line)

  abbrev pub Onward : R → L → List ℕ → List Entry → World R L → Type 0
  Onward r l buffer h v = (m : Model) → model r ≡ m → (a : Hearer) → at r buffer a → Reaches m a (pending l) h v

  refused : (r r' : R) (l l' : L) (buffer buffer' : List ℕ) (h : List Entry) (v : World R L) → Unchanged r r' l l' buffer buffer' → Onward r' l' buffer' h v → Onward r l buffer h v
  refused r r' l l' buffer buffer' h v u go =
      subst (λ q. Onward q l buffer h v) u.0 (subst (λ q. Onward r' q buffer h v) u.1 (subst (λ q. Onward r' l' q h v) u.2 go))

  listening : (budget : ℕ) (r r' : R) (l l' : L) (buffer buffer' : List ℕ) (answer : Result (Heard (ReceiverFault E)) ReceiverRefusal) (h : List Entry) (v : World R L) → Listened cause at model standing pending budget r r' l l' buffer buffer' answer → Onward r' l' buffer' h v → Onward r l buffer (noted answer buffer' ++ h) v
  listening budget r r' l l' buffer buffer' (Ok heard) h v p go = λ m e a at_a.
      let (room, not_held, listens) = p in
      let known = tied r buffer a at_a in
      let (b, at_b, brings) = listens.brought a at_a in
      let rest = go m (listens.same_format ∙ e) b at_b in
      let f = free_of a.stage (λ q. not_held (known.state_tied ∙ q)) in
      let room' : 255 ≤ length a.buffer = subst (λ q. 255 ≤ length q) (sym known.buffer_tied) room in
      let brings' = subst (λ k. Brings cause k a listens.marks heard.ending b) e brings in
      let t = along cause m (pending l') heard.ending b h rest.last (pending v.line) rest.trace a listens.marks brings' f room' in
      let t₁ = subst (λ q. Trace m a q (notes (length listens.marks) heard.ending b.buffer ++ h) rest.last (pending v.line)) (sym listens.taken) t in
      let t₂ = subst (λ n. Trace m a (pending l) (notes n heard.ending b.buffer ++ h) rest.last (pending v.line)) (sym listens.counted) t₁ in
      let t₃ = subst (λ q. Trace m a (pending l) (notes heard.taken heard.ending q ++ h) rest.last (pending v.line)) (tied r' buffer' b at_b).buffer_tied t₂ in
      record { last = rest.last; arrives = rest.arrives; same_model = rest.same_model; trace = t₃ }
  listening budget r r' l l' buffer buffer' (Err ShortBuffer) h v p go = refused r r' l l' buffer buffer' h v p.1 go
  listening budget r r' l l' buffer buffer' (Err Holding) h v p go = refused r r' l l' buffer buffer' h v p.2 go
  listening budget r r' l l' buffer buffer' (Err NotHolding) h v p go = absurd p

  releasing : (r r' : R) (l : L) (buffer : List ℕ) (answer : Result (Unit {0}) ReceiverRefusal) (h : List Entry) (v : World R L) → Released at model standing r r' answer → Onward r' l buffer h v → Onward r l buffer h v
  releasing r r' l buffer (Ok done) h v p go = λ m e a at_a.
      let known = tied r buffer a at_a in
      let (kind, count, held) = held_of a.stage (sym known.state_tied ∙ p.held) in
      let rest = go m (p.same_format ∙ e) (freed a) (p.goes_on buffer a at_a) in
      record { last = rest.last; arrives = rest.arrives; same_model = rest.same_model; trace = free kind count held rest.trace }
  releasing r r' l buffer (Err ShortBuffer) h v p go = absurd p
  releasing r r' l buffer (Err Holding) h v p go = absurd p
  releasing r r' l buffer (Err NotHolding) h v p go = subst (λ q. Onward q l buffer h v) p.1 go

  -- every chain of calls is a trace, from any hearer that the receiver is at
  pub traced : {w v : World R L} {h : List Entry} → Chain cause at model standing pending w h v → Onward w.receiver w.line w.buffer h v
  traced none = λ m e a at_a. record { last = a; arrives = at_a; same_model = e; trace = stop }
  traced {w} {v} (listen {h = h} budget r l buffer answer p c) = listening budget w.receiver r w.line l w.buffer buffer answer h v p (traced c)
  traced (look answer p c) = traced c
  traced {w} {v} {h} (release r answer p c) = releasing w.receiver r w.line w.buffer answer h v p (traced c)
  traced (ask answer p c) = traced c
