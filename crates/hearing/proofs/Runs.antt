-- The run along a trace.
use Rattle.std.proofs.Common.{◌≡◌, ℕ, suc, min, Bool, true, false, cond, ltb, List, [], ◌∷◌, ◌++◌, length, refl, ap, ◌∙◌, arith, ltb-false, ltb-true}
use Rattle.lines.specs.declared.mark.Mark.{Mark}
use Rattle.lines.specs.declared.mark.Mark.TheVariants.{Zero, One, Bad}
use Rattle.formats.specs.Laws.{Model}
use Rattle.formats.specs.Verdicts.{Verdict, open_list, tells, frame_of, fault_of}
use Rattle.hearing.specs.Promise.{Entry, ones_at_end}
use Rattle.hearing.specs.Rules.{Hearer, Stage, by_stage, comes_to, holding, ready, run_after, waiting, within}
use Rattle.hearing.proofs.Traces.{Trace, stop, mark, free}

-- the run after marks
abbrev pub run_along : ℕ → ℕ → List Mark → ℕ
run_along gap run [] = run
run_along gap run (x ∷ xs) = run_along gap (run_after gap run x) xs

cut_more : (gap n : ℕ) → run_after gap (min gap n) One ≡ min gap (suc n)
cut_more gap n = go (ltb (min gap n) gap) refl
  where
    go : (b : Bool) → ltb (min gap n) gap ≡ b → cond b (suc (min gap n)) gap ≡ min gap (suc n)
    go true e = let h = ltb-true (min gap n) gap e in omega arith
    go false e = let h = ltb-false (min gap n) gap e in omega arith

pub run_is : (gap n : ℕ) (marks : List Mark) → run_along gap (min gap n) marks ≡ min gap (ones_at_end n marks)
run_is gap n [] = refl
run_is gap n (Zero ∷ marks) = ap (λ r. run_along gap r marks) (none gap) ∙ run_is gap 0 marks
  where
    none : (k : ℕ) → 0 ≡ min k 0
    none k = omega arith
run_is gap n (One ∷ marks) = ap (λ r. run_along gap r marks) (cut_more gap n) ∙ run_is gap (suc n) marks
run_is gap n (Bad ∷ marks) = ap (λ r. run_along gap r marks) (none gap) ∙ run_is gap 0 marks
  where
    none : (k : ℕ) → 0 ≡ min k 0
    none k = omega arith

comes_run : (gap run : ℕ) (buffer : List ℕ) (place count : ℕ) (longer : List Mark) (w : Verdict) → (comes_to gap run buffer place count longer w).hearer.run ≡ run
comes_run gap run buffer place count longer open_list = refl
comes_run gap run buffer place count longer (tells octet) = refl
comes_run gap run buffer place count longer (frame_of kind) = refl
comes_run gap run buffer place count longer (fault_of cause) = refl

by_stage_run : (m : Model) (s : Stage) (run : ℕ) (buffer : List ℕ) (x : Mark) → (by_stage m s run buffer x).hearer.run ≡ run
by_stage_run m waiting run buffer x = refl
by_stage_run m ready run buffer Zero = comes_run _ _ _ _ _ _ (m.verdict (Zero ∷ []))
by_stage_run m ready run buffer One = refl
by_stage_run m ready run buffer Bad = comes_run _ _ _ _ _ _ (m.verdict (Bad ∷ []))
by_stage_run m (within list) run buffer x = comes_run _ _ _ _ _ _ (m.verdict (list ++ (x ∷ [])))
by_stage_run m (holding kind octets) run buffer x = refl

pub record Taken (gap run last : ℕ) (before after : List Mark) (h : List Entry) : Type 0 where
  pub marks : List Mark
  pub taken : before ≡ marks ++ after
  pub each : length h ≡ length marks
  pub counted : last ≡ run_along gap run marks

pub trace_taken : {m : Model} {a b : Hearer} {ms ns : List Mark} {h : List Entry} → Trace m a ms h b ns → Taken m.gap a.run b.run ms ns h
trace_taken stop = record { marks = []; taken = refl; each = refl; counted = refl }
trace_taken {m} {a} (mark {x = x} f l t) =
    let k = trace_taken t in
    record { marks = x ∷ k.marks; taken = ap (λ l. x ∷ l) k.taken; each = ap suc k.each; counted = k.counted ∙ ap (λ r. run_along m.gap r k.marks) (by_stage_run m a.stage _ a.buffer x) }
trace_taken (free kind count e t) = trace_taken t
