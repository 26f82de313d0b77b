-- The promise, over the relations of the calls.
use Rattle.std.proofs.Common.{◌≡◌, ℕ, ◌≤◌, min, List, [], ◌∷◌, ◌++◌, length, drop, Ok, Err, Result, sym, refl, ap, ◌∙◌, subst, arith}
use Rattle.lines.specs.declared.mark.Mark.{Mark}
use Rattle.lines.specs.declared.mark.Mark.TheVariants.{Zero}
use Rattle.formats.specs.Laws.{Lawful, Laws, Model, Reads}
use Rattle.formats.specs.Marks.{Altered, Quiet, behind_first, ones}
use Rattle.formats.specs.Verdicts.{Cause, FaultAlong}
use Rattle.hearing.specs.Calls.{Begun, Brings, Listened, Over, Quietly, Released}
use Rattle.hearing.specs.Promise.{Chain, Entry, HandedOver, NothingHandedOver, Promise, Promised, TookAMark, WasFreed, World}
use Rattle.hearing.specs.Rules.{Hearer, ready, waiting}
use Rattle.hearing.specs.declared.answer.Ending.{Ending}
use Rattle.hearing.specs.declared.answer.Ending.TheVariants as ending
use Rattle.hearing.specs.declared.answer.Heard.{Heard}
use Rattle.hearing.specs.declared.answer.Standing.{Standing}
use Rattle.hearing.specs.declared.answer.State.TheVariants as state
use Rattle.hearing.specs.declared.fault.ReceiverFault.{ReceiverFault}
use Rattle.hearing.specs.declared.refusal.ReceiverRefusal.{ReceiverRefusal}
use Rattle.hearing.specs.declared.refusal.ReceiverRefusal.TheVariants.{ShortBuffer, Holding, NotHolding}
use Rattle.hearing.proofs.Alterations.{start_altered}
use Rattle.hearing.proofs.Frames.{Part, through_gap}
use Rattle.hearing.proofs.Gap.{Passing, passing_none, rested}
use Rattle.hearing.proofs.Runs.{run_along, run_is, trace_taken}
use Rattle.hearing.proofs.Traces.{Reaches, Tied, Trace, ready_of, traced}

-- the frame behind the gap, from any hearer that waits only for want of the gap
frame_heard : (m : Model) → Laws m → (a b : Hearer) (ms ns : List Mark) (h : List Entry) → Trace m a ms h b ns → Passing m 0 a.run a.stage → (kind : ℕ) (octets : List ℕ) (more : List Mark) → Lawful m kind octets → ms ≡ ones m.gap ++ (m.frame kind octets ++ more) → HandedOver (m.frame kind octets) kind octets (drop m.gap h)
frame_heard m laws a b ms ns h t p kind octets more lawful same =
    let (rest, begins) = laws.begins kind octets lawful in
    let reads = laws.frame_reads kind octets lawful in
    let reads' = subst (λ f. Reads m f kind octets) begins reads in
    let whole : Part m laws kind octets [] (Zero ∷ rest) [] = record { judges = reads'.judged; opened = tt; all_told = reads'.told; kept = refl } in
    let same' : ms ≡ ones m.gap ++ (Zero ∷ (rest ++ more)) = same ∙ ap (λ f. ones m.gap ++ (f ++ more)) begins in
    subst (λ f. HandedOver f kind octets (drop m.gap h)) (sym begins) (through_gap m laws kind octets rest whole t m.gap 0 more same' (omega arith) p)

altered_heard : (m : Model) → Laws m → (a b : Hearer) (ms ns : List Mark) (h : List Entry) → Trace m a ms h b ns → a.stage ≡ ready → (kind : ℕ) (octets : List ℕ) (altered more : List Mark) → Lawful m kind octets → Altered m.distance (m.frame kind octets) altered → ms ≡ altered ++ more → NothingHandedOver altered h
altered_heard m laws a b ms ns h t e kind octets altered more lawful alt same =
    let (rest, begins) = laws.begins kind octets lawful in
    go rest altered (subst (λ f. Altered m.distance f altered) begins alt) (laws.alteration_shows kind octets altered lawful alt) (laws.no_gap_within kind octets altered lawful alt) same
  where
    go : (sent heard : List Mark) → Altered m.distance (Zero ∷ sent) heard → FaultAlong m.verdict [] heard → (Quiet m.gap (behind_first heard) → ⊥) → ms ≡ heard ++ more → NothingHandedOver heard h
    go sent [] al f q s = absurd al
    go sent (x ∷ xs) al f q s =
        let first = al.0 in
        subst (λ y. NothingHandedOver (y ∷ xs) h) (sym first) (start_altered m t e xs more (s ∙ ap (λ y. y ∷ (xs ++ more)) first) (subst (λ y. FaultAlong m.verdict [] (y ∷ xs)) first f) laws.gap_least q)

took : (n budget : ℕ) {E : Type 0} (before after marks : List Mark) (end : Ending E) → n ≡ length marks → before ≡ marks ++ after → Over budget (length marks) after end → (marks ≡ [] → Quietly end) → 1 ≤ budget → 1 ≤ length before → 1 ≤ n
took n budget before after (x ∷ xs) end counted taken over quietly b l = omega (arith, counted)
took n budget before after [] (ending.Frame kind octets) counted taken over quietly b l = absurd (quietly refl)
took n budget before after [] (ending.Fault why) counted taken over quietly b l = absurd (quietly refl)
took n budget before after [] ending.Spent counted taken over quietly b l = omega arith
took n budget before after [] ending.Empty counted taken over quietly b l = let none = ap length (taken ∙ over.1) in omega arith

module _ {R L E : Type 0} (cause : E → Cause) (at : R → List ℕ → Hearer → Type 0) (model : R → Model) (standing : R → Standing) (pending : L → List Mark) (tied : (r : R) (buffer : List ℕ) (a : Hearer) → at r buffer a → Tied (model r) (standing r) buffer a) (lawful : (r : R) → Laws (model r)) where
  listens_on : (budget : ℕ) (r r' : R) (l l' : L) (buffer buffer' : List ℕ) (answer : Result (Heard (ReceiverFault E)) ReceiverRefusal) (a : Hearer) → at r buffer a → Listened cause at model standing pending budget r r' l l' buffer buffer' answer → 255 ≤ length buffer → 1 ≤ budget → 1 ≤ length (pending l) → ((standing r).state ≡ state.Holding → ⊥) → TookAMark answer
  listens_on budget r r' l l' buffer buffer' (Ok heard) a at_a p room b some not_held =
      let listens = p.2 in
      let (c, at_c, brings) = listens.brought a at_a in
      took heard.taken budget (pending l) (pending l') listens.marks heard.ending listens.counted listens.taken listens.over (λ none. (subst (λ ms. Brings cause (model r) a ms heard.ending c) none brings).0) b some
  listens_on budget r r' l l' buffer buffer' (Err ShortBuffer) a at_a p room b some not_held = let short = p.0 in omega arith
  listens_on budget r r' l l' buffer buffer' (Err Holding) a at_a p room b some not_held = not_held p.1
  listens_on budget r r' l l' buffer buffer' (Err NotHolding) a at_a p room b some not_held = p

  lets_go : (r r' : R) (answer : Result (Unit {0}) ReceiverRefusal) → Released at model standing r r' answer → (standing r).state ≡ state.Holding → WasFreed answer × ((standing r').state ≡ state.Ready)
  lets_go r r' (Ok done) p held = (tt, ap (λ s. s.state) p.is_ready)
  lets_go r r' (Err ShortBuffer) p held = absurd p
  lets_go r r' (Err Holding) p held = absurd p
  lets_go r r' (Err NotHolding) p held = absurd (p.0 held)

  module _ (r : R) (l : L) (buffer : List ℕ) (begun : Begun at standing r) (h : List Entry) (w : World R L) (c : Chain cause at model standing pending (record { receiver = r; line = l; buffer = buffer }) h w) where
    abbrev new : Hearer
    new = record { stage = waiting; run = 0; buffer = buffer }

    abbrev m : Model
    m = model r

    reached : Reaches cause at model standing pending tied m new (pending l) h w
    reached = traced cause at model standing pending tied c m refl new (begun.begins buffer)

    known : Tied m (standing w.receiver) w.buffer reached.last
    known = subst (λ k. Tied k (standing w.receiver) w.buffer reached.last) reached.same_model (tied w.receiver w.buffer reached.last reached.arrives)

    passing : Passing m 0 reached.last.run reached.last.stage
    passing = passing_none m reached.last.run reached.last.stage known.sound (rested reached.trace (lawful r).gap_least)

    on : (h' : List Entry) (v : World R L) → Chain cause at model standing pending w h' v → Reaches cause at model standing pending tied m reached.last (pending w.line) h' v
    on h' v c' = traced cause at model standing pending tied c' m reached.same_model reached.last reached.arrives

    is_ready : (standing w.receiver).state ≡ state.Ready → reached.last.stage ≡ ready
    is_ready e = ready_of reached.last.stage (sym known.state_tied ∙ e)

    at_this_moment : Promised cause at model standing pending m (pending l) w
    at_this_moment =
        let so_far = trace_taken reached.trace in
        let none : ◌≡◌ {A = ℕ} 0 (min m.gap 0) = omega arith in
        record {
          same_format = reached.same_model;
          run_counts = (so_far.marks, so_far.taken, known.run_tied ∙ so_far.counted ∙ ap (λ n. run_along m.gap n so_far.marks) none ∙ run_is m.gap 0 so_far.marks);
          mark_by_mark = λ h' v c'. let t = trace_taken (on h' v c').trace in (t.marks, t.taken, t.each);
          never_deaf = λ kind octets more law same h' v c'. frame_heard m (lawful r) reached.last (on h' v c').last (pending w.line) (pending v.line) h' (on h' v c').trace passing kind octets more law same;
          never_deceived = λ kind octets altered more law e alt same h' v c'. altered_heard m (lawful r) reached.last (on h' v c').last (pending w.line) (pending v.line) h' (on h' v c').trace (is_ready e) kind octets altered more law alt same;
          listens_on = λ budget r' l' buffer' answer p room b some not_held. listens_on budget w.receiver r' w.line l' w.buffer buffer' answer reached.last reached.arrives p room b some not_held;
          lets_go = λ r' answer p held. lets_go w.receiver r' answer p held;
        }

  pub promised : Promise cause at model standing pending
  promised r l buffer begun h w c = at_this_moment r l buffer begun h w c
