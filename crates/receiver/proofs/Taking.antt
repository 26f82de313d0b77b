-- One mark taken, by the stage of the receiver.
use Rattle.std.proofs.Common.{◌≡◌, ℕ, List, [], ◌∷◌, Option, sym, refl, ap, ◌∙◌, subst}
use Rattle.lines.specs.declared.mark.Mark.{Mark}
use Rattle.lines.specs.declared.mark.Mark.TheVariants.{Zero, One, Bad}
use Rattle.formats.specs.Laws.{Model}
use Rattle.formats.specs.Marks.{Begins}
use Rattle.formats.specs.Verdicts.{Cause}
use Rattle.hearing.proofs.Verdicts.{begins_more}
use Rattle.hearing.specs.Rules.{Step, by_stage, holding, judged, ready, run_after, waiting, within}
use Rattle.hearing.specs.Rules as rules
use Rattle.hearing.specs.declared.answer.Ending.{Ending}
use Rattle.hearing.specs.declared.fault.ReceiverFault.{ReceiverFault}
use Rattle.receiver.specs.Places.{At}
use Rattle.receiver.specs.Steps.{EndedBy, Judges, Takes}
use Rattle.receiver.specs.declared.receiver.Receiver.{Receiver}
use Rattle.receiver.specs.declared.stage.OpenList.{OpenList}
use Rattle.receiver.specs.declared.stage.Stage.TheVariants as stage

-- what is kept of the empty list
abbrev pub empty : OpenList
empty = record { marks = 0; octets = 0 }

pub empty_by : (l : OpenList) → l.marks ≡ 0 → l.octets ≡ 0 → l ≡ empty
empty_by l m o = ap (λ n. record { marks = n; octets = l.octets }) m ∙ ap (λ n. record { marks = 0; octets = n }) o

begins_other : (mark : Mark) → (mark ≡ One → ⊥) → Begins (mark ∷ [])
begins_other Zero n = tt
begins_other One n = n refl
begins_other Bad n = tt

module _ {F E : Type 0} (cause : E → Cause) (model : F → Model) (stands : F → List Mark → Type 0) (r : Receiver F) (mark : Mark) where
  abbrev m : Model
  m = model r.format

  module _ (run' : ℕ) (counts : run' ≡ run_after m.gap r.run mark) (r' : Receiver F) (buffer buffer' : List ℕ) (answer : Option (Ending (ReceiverFault E))) where
    -- the mark counted in the run
    abbrev counted : Receiver F
    counted = record { format = r.format; stage = r.stage; run = run' }

    -- what is said of a step
    abbrev Said : Step → Type 0
    Said s = At model stands r' buffer' s.hearer × EndedBy cause s.event answer

    -- the same list by the hearer's run and buffer
    same_step : (list : List Mark) (n : ℕ) (b : List ℕ) → r.run ≡ n → b ≡ buffer → Said (judged m list run' buffer mark) → Said (judged m list (run_after m.gap n mark) b mark)
    same_step list n b en eb p =
        let runs : run' ≡ run_after m.gap n mark = counts ∙ ap (λ k. run_after m.gap k mark) en in
        subst (λ k. Said (judged m list k b mark)) runs (subst (λ l. Said (judged m list run' l mark)) (sym eb) p)

    module _ (so_far : OpenList) (was : r.stage ≡ stage.Open so_far) (is : Judges cause model stands mark so_far counted r' buffer buffer' answer) where
      in_open : (s : rules.Stage) (n : ℕ) (b : List ℕ) → At model stands r buffer (record { stage = s; run = n; buffer = b }) → Said (by_stage m s (run_after m.gap n mark) b mark)
      in_open waiting n b p = let e = p.stage_kept in cc
      in_open ready n b p = let e = p.stage_kept in cc
      in_open (within list) n b p =
          let e = p.stage_kept in
          same_step list n b p.run_kept p.buffer_kept (is.each list p.list_stands p.sound.1 (begins_more list (mark ∷ []) p.sound.0) (cc))
      in_open (holding kind count) n b p = let e = p.stage_kept in cc

      pub takes_open : Takes cause model stands mark r r' buffer buffer' answer
      takes_open = record { same_format = is.same_format; each = λ a p. in_open a.stage a.run a.buffer p }

    module _ (so_far : OpenList) (none : so_far ≡ empty) (was : r.stage ≡ stage.Ready) (other : mark ≡ One → ⊥) (is : Judges cause model stands mark so_far counted r' buffer buffer' answer) where
      opens : (x : Mark) → mark ≡ x → (n : ℕ) (b : List ℕ) → Said (judged m [] (run_after m.gap n mark) b mark) → Said (by_stage m ready (run_after m.gap n mark) b x)
      opens Zero e n b p = subst (λ y. Said (judged m [] (run_after m.gap n mark) b y)) e p
      opens One e n b p = absurd (other e)
      opens Bad e n b p = subst (λ y. Said (judged m [] (run_after m.gap n mark) b y)) e p

      in_ready : (s : rules.Stage) (n : ℕ) (b : List ℕ) → At model stands r buffer (record { stage = s; run = n; buffer = b }) → Said (by_stage m s (run_after m.gap n mark) b mark)
      in_ready waiting n b p = let e = p.stage_kept in cc
      in_ready ready n b p = opens mark refl n b (same_step [] n b p.run_kept p.buffer_kept (is.each [] p.list_stands tt (begins_other mark other) none))
      in_ready (within list) n b p = let e = p.stage_kept in cc
      in_ready (holding kind count) n b p = let e = p.stage_kept in cc

      pub takes_first : Takes cause model stands mark r r' buffer buffer' answer
      takes_first = record { same_format = is.same_format; each = λ a p. in_ready a.stage a.run a.buffer p }
