-- Behind a quiet gap a receiver is ready, or holds a frame that can be released.
use Rattle.std.proofs.Common.{◌≡◌, ℕ, suc, ◌<◌, ◌≤◌, Bool, true, false, cond, ltb, List, [], ◌∷◌, ◌++◌, length, sym, refl, ap, ◌∙◌, subst, arith, ltb-true}
use Rattle.std.proofs.lemmas.List.{append_assoc, append-nil}
use Rattle.lines.specs.declared.mark.Mark.{Mark}
use Rattle.lines.specs.declared.mark.Mark.TheVariants.{Zero, One, Bad}
use Rattle.formats.specs.Laws.{Laws, Model}
use Rattle.formats.specs.Marks.{Begins, ones}
use Rattle.formats.specs.Verdicts.{Verdict, Open, OpenAlong, open_list, tells, frame_of, fault_of}
use Rattle.hearing.specs.Rules.{Hearer, Sound, Stage, by_stage, comes_to, count_told, hears, holding, ready, resting, run_after, waiting, within}
use Rattle.hearing.proofs.Traces.{Trace, stop, mark, free}
use Rattle.hearing.proofs.Verdicts.{open_snoc, ones_more, run_more}

-- after j marks of the gap: a run that long, and a list that was open before the gap and still is
abbrev pub Passing : Model → ℕ → ℕ → Stage → Type 0
Passing m j run waiting = (j ≤ run) × (run < m.gap)
Passing m j run ready = Unit {0}
Passing m j run (within list) = (j ≤ run) × (begun : List Mark) × (list ≡ begun ++ ones j) × Begins begun × OpenAlong m.verdict [] begun × OpenAlong m.verdict begun (ones j)
Passing m j run (holding kind octets) = Unit {0}

-- ready, or ready as soon as the frame is released
abbrev pub Set : Stage → Type 0
Set waiting = ⊥
Set ready = Unit {0}
Set (within list) = ⊥
Set (holding kind octets) = Unit {0}

passing_rest : (m : Model) (j run : ℕ) → j ≤ run → Passing m j run (resting m.gap run)
passing_rest m j run h = go (ltb run m.gap) refl
  where
    go : (b : Bool) → ltb run m.gap ≡ b → Passing m j run (cond b waiting ready)
    go true e = (h, ltb-true run m.gap e)
    go false e = tt

module _ (m : Model) (j run : ℕ) (buffer : List ℕ) (list begun : List Mark) (long : suc j ≤ run) (same : list ≡ begun ++ ones j) (begins : Begins begun) (opened : OpenAlong m.verdict [] begun) (on : OpenAlong m.verdict begun (ones j)) where
  still_open : Open (m.verdict (list ++ (One ∷ []))) → Passing m (suc j) run (within (list ++ (One ∷ [])))
  still_open o =
      let last : Open (m.verdict ((begun ++ ones j) ++ (One ∷ []))) = subst (λ l. Open (m.verdict (l ++ (One ∷ [])))) same o in
      let more : ones j ++ (One ∷ []) ≡ ones (suc j) = ones_more j [] ∙ ap (λ l. One ∷ l) (append-nil (ones j)) in
      (long, begun, ap (λ l. l ++ (One ∷ [])) same ∙ append_assoc begun (ones j) (One ∷ []) ∙ ap (λ l. begun ++ l) more, begins, opened, subst (λ l. OpenAlong m.verdict begun l) more (open_snoc m.verdict One begun (ones j) on last))

  comes_passing : (place count : ℕ) (w : Verdict) → m.verdict (list ++ (One ∷ [])) ≡ w → Passing m (suc j) (comes_to m.gap run buffer place count (list ++ (One ∷ [])) w).hearer.run (comes_to m.gap run buffer place count (list ++ (One ∷ [])) w).hearer.stage
  comes_passing place count open_list e = still_open (subst Open (sym e) tt)
  comes_passing place count (tells octet) e = still_open (subst Open (sym e) tt)
  comes_passing place count (frame_of kind) e = tt
  comes_passing place count (fault_of cause) e = passing_rest m (suc j) run long

passing_more : (m : Model) (j : ℕ) → j < m.gap → (run : ℕ) (buffer : List ℕ) (s : Stage) → Passing m j run s → Passing m (suc j) (by_stage m s (run_after m.gap run One) buffer One).hearer.run (by_stage m s (run_after m.gap run One) buffer One).hearer.stage
passing_more m j l run buffer waiting p = passing_rest m (suc j) (run_after m.gap run One) (run_more m.gap run j p.0 l)
passing_more m j l run buffer ready p = tt
passing_more m j l run buffer (within list) p =
    comes_passing m j (run_after m.gap run One) buffer list p.1 (run_more m.gap run j p.0 l) p.2 p.3 p.4 p.5 (length list) (count_told m list) (m.verdict (list ++ (One ∷ []))) refl
passing_more m j l run buffer (holding kind octets) p = tt

pub passed : (m : Model) → Laws m → (run : ℕ) (s : Stage) → Passing m m.gap run s → Set s
passed m laws run waiting p = omega arith
passed m laws run ready p = tt
passed m laws run (within list) p = laws.gap_closes p.1 p.3 p.4 p.5
passed m laws run (holding kind octets) p = tt

-- a receiver that waits has not the gap yet
abbrev pub Rested : Model → ℕ → Stage → Type 0
Rested m run waiting = run < m.gap
Rested m run ready = Unit {0}
Rested m run (within list) = Unit {0}
Rested m run (holding kind octets) = Unit {0}

rested_rest : (m : Model) (run : ℕ) → Rested m run (resting m.gap run)
rested_rest m run = go (ltb run m.gap) refl
  where
    go : (b : Bool) → ltb run m.gap ≡ b → Rested m run (cond b waiting ready)
    go true e = ltb-true run m.gap e
    go false e = tt

comes_rested : (m : Model) (run : ℕ) (buffer : List ℕ) (place count : ℕ) (longer : List Mark) (w : Verdict) → Rested m (comes_to m.gap run buffer place count longer w).hearer.run (comes_to m.gap run buffer place count longer w).hearer.stage
comes_rested m run buffer place count longer open_list = tt
comes_rested m run buffer place count longer (tells octet) = tt
comes_rested m run buffer place count longer (frame_of kind) = tt
comes_rested m run buffer place count longer (fault_of cause) = rested_rest m run

hears_rested : (m : Model) (run : ℕ) (buffer : List ℕ) (s : Stage) (x : Mark) → Rested m (by_stage m s run buffer x).hearer.run (by_stage m s run buffer x).hearer.stage
hears_rested m run buffer waiting x = rested_rest m run
hears_rested m run buffer ready Zero = comes_rested m run buffer _ _ _ (m.verdict (Zero ∷ []))
hears_rested m run buffer ready One = tt
hears_rested m run buffer ready Bad = comes_rested m run buffer _ _ _ (m.verdict (Bad ∷ []))
hears_rested m run buffer (within list) x = comes_rested m run buffer _ _ _ (m.verdict (list ++ (x ∷ [])))
hears_rested m run buffer (holding kind octets) x = tt

pub rested : {m : Model} {a b : Hearer} {ms ns : List Mark} {h : _} → Trace m a ms h b ns → Rested m a.run a.stage → Rested m b.run b.stage
rested stop p = p
rested {m} {a} (mark {x = x} f l t) p = rested t (hears_rested m (run_after m.gap a.run x) a.buffer a.stage x)
rested (free kind count e t) p = rested t tt

-- before the gap
pub passing_none : (m : Model) (run : ℕ) (s : Stage) → Sound m s → Rested m run s → Passing m 0 run s
passing_none m run waiting s r = (omega arith, r)
passing_none m run ready s r = tt
passing_none m run (within list) s r = (omega arith, list, sym (append-nil list), s.0, s.1, tt)
passing_none m run (holding kind octets) s r = tt

pub passing_one : (m : Model) (j : ℕ) (a : Hearer) → j < m.gap → Passing m j a.run a.stage → Passing m (suc j) (hears m a One).hearer.run (hears m a One).hearer.stage
passing_one m j a l p = passing_more m j l a.run a.buffer a.stage p
