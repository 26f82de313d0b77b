-- What a listen's marks come to.
use Rattle.std.proofs.Common.{◌≡◌, ℕ, ◌≤◌, Bool, true, false, cond, ltb, List, [], ◌∷◌, ◌++◌, length, take, sym, refl, ap, ◌∙◌, subst, inl, inr, arith}
use Rattle.lines.specs.declared.mark.Mark.{Mark}
use Rattle.lines.specs.declared.mark.Mark.TheVariants.{Zero, One, Bad}
use Rattle.formats.specs.Laws.{Model}
use Rattle.formats.specs.Verdicts.{Cause, Verdict, open_list, tells, frame_of, fault_of}
use Rattle.hearing.specs.Calls.{Brings, Ends}
use Rattle.hearing.specs.Rules.{Event, Hearer, Stage, by_stage, comes_to, count_told, fault, frame, hears, holding, nothing, ready, run_after, waiting, within}
use Rattle.hearing.specs.declared.answer.Ending.{Ending}
use Rattle.hearing.specs.declared.answer.Ending.TheVariants as ending
use Rattle.hearing.specs.declared.fault.ReceiverFault.{ReceiverFault}
use Rattle.day.specs.Hearing.{Free, damaged, going_on, outcomes, run, sound}

-- the stage after a mark that brought this: a frame is held, and else none is
abbrev pub After : Event → Stage → Type 0
After nothing stage = Free stage
After (frame kind count) stage = stage ≡ holding kind count
After (fault cause place) stage = Free stage

resting_free : (b : Bool) → Free (cond b waiting ready)
resting_free true = tt
resting_free false = tt

judged_after : (gap r : ℕ) (buffer : List ℕ) (place count : ℕ) (longer : List Mark) (v : Verdict) → After (comes_to gap r buffer place count longer v).event (comes_to gap r buffer place count longer v).hearer.stage
judged_after gap r buffer place count longer open_list = tt
judged_after gap r buffer place count longer (tells octet) = tt
judged_after gap r buffer place count longer (frame_of kind) = refl
judged_after gap r buffer place count longer (fault_of cause) = resting_free (ltb r gap)

stage_after : (m : Model) (stage : Stage) (r : ℕ) (buffer : List ℕ) (x : Mark) → Free stage → After (by_stage m stage r buffer x).event (by_stage m stage r buffer x).hearer.stage
stage_after m waiting r buffer x free = resting_free (ltb r m.gap)
stage_after m ready r buffer Zero free = judged_after m.gap r buffer 0 (count_told m []) (Zero ∷ []) (m.verdict (Zero ∷ []))
stage_after m ready r buffer One free = tt
stage_after m ready r buffer Bad free = judged_after m.gap r buffer 0 (count_told m []) (Bad ∷ []) (m.verdict (Bad ∷ []))
stage_after m (within list) r buffer x free = judged_after m.gap r buffer (length list) (count_told m list) (list ++ (x ∷ [])) (m.verdict (list ++ (x ∷ [])))
stage_after m (holding kind count) r buffer x free = absurd free

pub heard_after : (m : Model) (a : Hearer) (x : Mark) → Free a.stage → After (hears m a x).event (hears m a x).hearer.stage
heard_after m a x free = stage_after m a.stage (run_after m.gap a.run x) a.buffer x free

abbrev pub released : Hearer → Hearer
released a = record { stage = ready; run = a.run; buffer = a.buffer }

-- from the hearer a along the marks `whole` to b, with the marks `rest` to come
abbrev pub Came : {E : Type 0} → (E → Cause) → Model → Hearer → List Mark → List Mark → Ending (ReceiverFault E) → Hearer → Type 0
Came cause m a whole rest (ending.Frame kind count) b = (b.stage ≡ holding kind count) × (run m a whole ≡ sound kind (take count b.buffer) ∷ run m (released b) rest)
Came cause m a whole rest (ending.Fault why) b = Free b.stage × (run m a whole ≡ damaged (cause why.fault) why.place ∷ run m b rest)
Came cause m a whole rest ending.Spent b = Free b.stage × (run m a whole ≡ run m b rest)
Came cause m a whole rest ending.Empty b = Free b.stage × (run m a whole ≡ run m b rest)

module _ {E : Type 0} (cause : E → Cause) (m : Model) (rest : List Mark) where
  -- the marks of another hearer come to the same
  earlier : (a h : Hearer) (whole later : List Mark) (end : Ending (ReceiverFault E)) (b : Hearer) → run m a whole ≡ run m h later → Came cause m h later rest end b → Came cause m a whole rest end b
  earlier a h whole later (ending.Frame kind count) b p c = (c.0, p ∙ c.1)
  earlier a h whole later (ending.Fault why) b p c = (c.0, p ∙ c.1)
  earlier a h whole later ending.Spent b p c = (c.0, p ∙ c.1)
  earlier a h whole later ending.Empty b p c = (c.0, p ∙ c.1)

  quiet : (a b : Hearer) (end : Ending (ReceiverFault E)) → Free a.stage → Brings cause m a [] end b → Came cause m a rest rest end b
  quiet a b (ending.Frame kind count) free q = absurd q.0
  quiet a b (ending.Fault why) free q = absurd q.0
  quiet a b ending.Spent free q = (subst (λ h. Free h.stage) (sym q.1) free, ap (λ h. run m h rest) (sym q.1))
  quiet a b ending.Empty free q = (subst (λ h. Free h.stage) (sym q.1) free, ap (λ h. run m h rest) (sym q.1))

  -- the mark that ends the listen
  last_mark : (e : Event) (h b : Hearer) (end : Ending (ReceiverFault E)) (a : Hearer) (whole later : List Mark) → After e h.stage → run m a whole ≡ outcomes e h.buffer ++ run m (going_on e h) later → later ≡ rest → b ≡ h → Ends cause e end → Came cause m a whole rest end b
  last_mark e h b (ending.Frame kind count) a whole later shape p q s ends = (
    subst (λ x. x.stage ≡ holding kind count) (sym s) (subst (λ x. After x h.stage) ends shape),
    p ∙ ap (λ x. outcomes x h.buffer ++ run m (going_on x h) later) ends ∙ ap (λ xs. sound kind (take count h.buffer) ∷ run m (released h) xs) q ∙ ap (λ x. sound kind (take count x.buffer) ∷ run m (released x) rest) (sym s),
  )
  last_mark e h b (ending.Fault why) a whole later shape p q s ends = (
    subst (λ x. Free x.stage) (sym s) (subst (λ x. After x h.stage) ends shape),
    p ∙ ap (λ x. outcomes x h.buffer ++ run m (going_on x h) later) ends ∙ ap (λ xs. damaged (cause why.fault) why.place ∷ run m h xs) q ∙ ap (λ x. damaged (cause why.fault) why.place ∷ run m x rest) (sym s),
  )
  last_mark e h b ending.Spent a whole later shape p q s ends = absurd ends
  last_mark e h b ending.Empty a whole later shape p q s ends = absurd ends

  pub came : (marks : List Mark) (a : Hearer) (end : Ending (ReceiverFault E)) (b : Hearer) → Free a.stage → Brings cause m a marks end b → Came cause m a (marks ++ rest) rest end b
  came [] a end b free brings = quiet a b end free brings
  came (x ∷ xs) a end b free (inl goes) =
      let h = (hears m a x).hearer in
      let p : run m a (x ∷ (xs ++ rest)) ≡ run m h (xs ++ rest) = ap (λ e. outcomes e h.buffer ++ run m (going_on e h) (xs ++ rest)) goes.0 in
      let free' : Free h.stage = subst (λ e. After e h.stage) goes.0 (heard_after m a x free) in
      earlier a h (x ∷ (xs ++ rest)) (xs ++ rest) end b p (came xs h end b free' goes.1)
  came (x ∷ xs) a end b free (inr ends) =
      last_mark (hears m a x).event (hears m a x).hearer b end a (x ∷ (xs ++ rest)) (xs ++ rest) (heard_after m a x free) refl (ap (λ ys. ys ++ rest) ends.1) ends.2 ends.0

  -- a frame or a fault is brought by a mark
  pub some_mark : (marks : List Mark) (a b : Hearer) (end : Ending (ReceiverFault E)) → ((x : Brings cause m a [] end b) → ⊥) → Brings cause m a marks end b → 1 ≤ length marks
  some_mark [] a b end loud brings = absurd (loud brings)
  some_mark (x ∷ xs) a b end loud brings = omega arith
