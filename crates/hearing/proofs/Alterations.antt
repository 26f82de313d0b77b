-- Along an altered frame, mark by mark: a fault, and then no gap before the end.
use Rattle.std.proofs.Common.{◌≡◌, ℕ, suc, ◌<◌, ◌≤◌, ◌⊎◌, List, [], ◌∷◌, ◌++◌, length, sym, refl, ap, ◌∙◌, subst, inl, inr, arith}
use Rattle.std.proofs.lemmas.List.{append_assoc}
use Rattle.std.proofs.lemmas.Bool.{lt-ltb}
use Rattle.lines.specs.declared.mark.Mark.{Mark}
use Rattle.lines.specs.declared.mark.Mark.TheVariants.{Zero, One, Bad}
use Rattle.formats.specs.Laws.{Model}
use Rattle.formats.specs.Marks.{Quiet, ones}
use Rattle.formats.specs.Verdicts.{Fault, FaultAlong, Verdict, Open, open_list, tells, frame_of, fault_of}
use Rattle.hearing.specs.Promise.{Entry, NothingHandedOver, no_frame}
use Rattle.hearing.specs.Rules.{Hearer, Stage, Step, by_stage, comes_to, count_told, hears, holding, judged, ready, resting, run_after, waiting, within}
use Rattle.hearing.proofs.Traces.{Trace, entry, stop, mark, free}
use Rattle.hearing.proofs.Verdicts.{ones_more, run_below}

-- with the run and the marks to come there is no gap
pub record Restless (gap run : ℕ) (rest : List Mark) : Type 0 where
  pub below : run < gap
  pub no_gap : Quiet gap (ones run ++ rest) → ⊥

quiet_behind : (gap : ℕ) (front rest : List Mark) → Quiet gap rest → Quiet gap (front ++ rest)
quiet_behind gap front rest q = (front ++ q.0, q.1, ap (λ l. front ++ l) q.2 ∙ sym (append_assoc front q.0 (ones gap ++ q.1)))

cut : (gap run : ℕ) (x : Mark) (rest : List Mark) → Restless gap run (x ∷ rest) → Restless gap 0 rest
cut gap run x rest r =
    record { below = omega (arith, r.below); no_gap = λ q. r.no_gap (subst (Quiet gap) (append_assoc (ones run) (x ∷ []) rest) (quiet_behind gap (ones run ++ (x ∷ [])) rest q)) }

pub restless_more : (gap run : ℕ) (x : Mark) (rest : List Mark) → Restless gap run (x ∷ rest) → Restless gap (run_after gap run x) rest
restless_more gap run Zero rest r = cut gap run Zero rest r
restless_more gap run One rest r =
    let shifted : ones run ++ (One ∷ rest) ≡ ones (suc run) ++ rest = ones_more run rest in
    let never : Quiet gap (ones (suc run) ++ rest) → ⊥ = λ q. r.no_gap (subst (Quiet gap) (sym shifted) q) in
    let other : suc run ≡ gap → ⊥ = λ e. never ([], rest, ap (λ n. ones n ++ rest) e) in
    let next : Restless gap (suc run) rest = record { below = omega (arith, r.below, other); no_gap = never } in
    subst (λ n. Restless gap n rest) (sym (run_below gap run r.below)) next
restless_more gap run Bad rest r = cut gap run Bad rest r

module _ (m : Model) where
  -- in a list that comes to a fault, or waiting behind it
  abbrev pub Fooled : List Mark → Stage → Type 0
  Fooled rest waiting = Unit {0}
  Fooled rest ready = ⊥
  Fooled rest (within done) = FaultAlong m.verdict done rest
  Fooled rest (holding kind octets) = ⊥

  -- a mark on the way
  pub record Unheard (rest : List Mark) (run : ℕ) (s : Step) : Type 0 where
    pub silent : entry s ≡ no_frame
    pub counts : s.hearer.run ≡ run
    pub fooled : Fooled rest s.hearer.stage

  fooled_rest : (run : ℕ) (rest : List Mark) → run < m.gap → Fooled rest (resting m.gap run)
  fooled_rest run rest l = rw (lt-ltb run m.gap l) tt

  module _ (done : List Mark) (x : Mark) (rest : List Mark) (run : ℕ) (buffer : List ℕ) (below : run < m.gap) where
    comes_fooled : (place count : ℕ) (w : Verdict) → Fault w ⊎ (Open w × FaultAlong m.verdict (done ++ (x ∷ [])) rest) → Unheard rest run (comes_to m.gap run buffer place count (done ++ (x ∷ [])) w)
    comes_fooled place count open_list (inl f) = absurd f
    comes_fooled place count open_list (inr p) = record { silent = refl; counts = refl; fooled = p.1 }
    comes_fooled place count (tells octet) (inl f) = absurd f
    comes_fooled place count (tells octet) (inr p) = record { silent = refl; counts = refl; fooled = p.1 }
    comes_fooled place count (frame_of kind) (inl f) = absurd f
    comes_fooled place count (frame_of kind) (inr p) = absurd p.0
    comes_fooled place count (fault_of cause) f = record { silent = refl; counts = refl; fooled = fooled_rest run rest below }

    pub judged_fooled : FaultAlong m.verdict done (x ∷ rest) → Unheard rest run (judged m done run buffer x)
    judged_fooled f = comes_fooled (length done) (count_told m done) (m.verdict (done ++ (x ∷ []))) f

  fooled_mark : (x : Mark) (rest : List Mark) (run : ℕ) (buffer : List ℕ) → run < m.gap → (s : Stage) → Fooled (x ∷ rest) s → Unheard rest run (by_stage m s run buffer x)
  fooled_mark x rest run buffer below waiting f = record { silent = refl; counts = refl; fooled = fooled_rest run rest below }
  fooled_mark x rest run buffer below ready f = absurd f
  fooled_mark x rest run buffer below (within done) f = judged_fooled done x rest run buffer below f
  fooled_mark x rest run buffer below (holding kind octets) f = absurd f

  -- along the altered frame from any of its marks on
  abbrev pub Unfooled : Hearer → List Mark → List Entry → Type 0
  Unfooled a ms h = (rest more : List Mark) → ms ≡ rest ++ more → Restless m.gap a.run rest → Fooled rest a.stage → NothingHandedOver rest h

  pub unheard_then : (x : Mark) (rest more : List Mark) (ms : List Mark) (h : List Entry) (run : ℕ) (s : Step) → ms ≡ rest ++ more → Restless m.gap run rest → Unheard rest run s → Unfooled s.hearer ms h → NothingHandedOver (x ∷ rest) (entry s ∷ h)
  unheard_then x rest more ms h run s same r u go = (u.silent, go rest more same (subst (λ n. Restless m.gap n rest) (sym u.counts) r) u.fooled)

  unfooled_mark : (a : Hearer) (x : Mark) (ms : List Mark) (h : List Entry) → Unfooled (hears m a x).hearer ms h → Unfooled a (x ∷ ms) (entry (hears m a x) ∷ h)
  unfooled_mark a x ms h go [] more same r f = tt
  unfooled_mark a x ms h go (y ∷ rest) more same r f =
      let first : y ≡ x = cc in
      let later : ms ≡ rest ++ more = cc in
      let r₁ = restless_more m.gap a.run x rest (subst (λ z. Restless m.gap a.run (z ∷ rest)) first r) in
      let f₁ = subst (λ z. Fooled (z ∷ rest) a.stage) first f in
      unheard_then y rest more ms h (run_after m.gap a.run x) (hears m a x) later r₁ (fooled_mark x rest (run_after m.gap a.run x) a.buffer r₁.below a.stage f₁) go

  not_held : (s : Stage) (rest : List Mark) (kind count : ℕ) → s ≡ holding kind count → Fooled rest s → ⊥
  not_held s rest kind count e f = subst (Fooled rest) e f

  pub unfooled : {a b : Hearer} {ms ns : List Mark} {h : List Entry} → Trace m a ms h b ns → Unfooled a ms h
  unfooled stop = λ rest more same r f. tt
  unfooled {a} (mark {x = x} {ms = ms} {h = h} free_now l t) = unfooled_mark a x ms h (unfooled t)
  unfooled {a} (free kind count held t) = λ rest more same r f. absurd (not_held a.stage rest kind count held f)

  -- the altered frame as a whole, its first mark 0
  first_mark : (a : Hearer) (x : Mark) (ms rest more : List Mark) (h : List Entry) → a.stage ≡ ready → x ∷ ms ≡ Zero ∷ (rest ++ more) → FaultAlong m.verdict [] (Zero ∷ rest) → 1 ≤ m.gap → (Quiet m.gap rest → ⊥) → Unfooled (hears m a x).hearer ms h → NothingHandedOver (Zero ∷ rest) (entry (hears m a x) ∷ h)
  first_mark a x ms rest more h e same f least quiet go =
      let first : x ≡ Zero = cc in
      let later : ms ≡ rest ++ more = cc in
      let opens : hears m a x ≡ judged m [] 0 a.buffer Zero = ap (λ s. by_stage m s (run_after m.gap a.run x) a.buffer x) e ∙ ap (λ y. by_stage m ready (run_after m.gap a.run y) a.buffer y) first in
      let r : Restless m.gap 0 rest = record { below = least; no_gap = quiet } in
      unheard_then Zero rest more ms h 0 (hears m a x) later r (subst (Unheard rest 0) (sym opens) (judged_fooled [] Zero rest 0 a.buffer least f)) go

  pub start_altered : {a b : Hearer} {ms ns : List Mark} {h : List Entry} → Trace m a ms h b ns → a.stage ≡ ready → (rest more : List Mark) → ms ≡ Zero ∷ (rest ++ more) → FaultAlong m.verdict [] (Zero ∷ rest) → 1 ≤ m.gap → (Quiet m.gap rest → ⊥) → NothingHandedOver (Zero ∷ rest) h
  start_altered stop = λ e rest more same f least quiet. tt
  start_altered {a} (mark {x = x} {ms = ms} {h = h} free_now l t) = λ e rest more same f least quiet. first_mark a x ms rest more h e same f least quiet (unfooled t)
  start_altered (free kind count held t) = λ e rest more same f least quiet. cc
