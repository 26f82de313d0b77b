-- One listen, and what is noted of it.
use Rattle.std.proofs.Common.{◌≡◌, ℕ, List, [], ◌∷◌, ◌++◌, length, take, Err, sym, ap, ◌∙◌, subst, arith}
use Rattle.lines.specs.declared.mark.Mark.{Mark}
use Rattle.formats.specs.Laws.{Model}
use Rattle.formats.specs.Verdicts.{Cause}
use Rattle.hearing.specs.Calls.{Brings, Listens, Over}
use Rattle.hearing.specs.Rules.{Hearer, Stage, holding, ready, waiting, within}
use Rattle.hearing.specs.declared.answer.Ending.{Ending}
use Rattle.hearing.specs.declared.answer.Ending.TheVariants as ending
use Rattle.hearing.specs.declared.answer.Heard.{Heard}
use Rattle.hearing.specs.declared.answer.State.TheVariants as state
use Rattle.hearing.specs.Told.{told_fault}
use Rattle.hearing.specs.declared.fault.ReceiverFault.{ReceiverFault}
use Rattle.hearing.specs.declared.fault.ToldFault.{ToldFault}
use Rattle.receiver.specs.Places.{At, kept, state_kept}
use Rattle.receiver.specs.declared.receiver.Receiver.{Receiver}
use Rattle.day.specs.Batches.{Entry}
use Rattle.day.specs.Decoding.{Decoded}
use Rattle.day.specs.Hearing.{Free, Handed, Outcome, Told, damaged, run, sound}
use Rattle.day.specs.declared.entry.Lost.TheVariants as lost
use Rattle.day.specs.declared.entry.Site.{Site}
use Rattle.day.proofs.Runs.{Came, came, released}

-- a receiver that is at a frame holds it, and one that is at none does not
pub holds : {F : Type 0} (model : F → Model) (stands : F → List Mark → Type 0) (r : Receiver F) (buffer : List ℕ) (b : Hearer) (k count : ℕ) → At model stands r buffer b → b.stage ≡ holding k count → state_kept r.stage ≡ state.Holding
holds model stands r buffer b k count here e = ap state_kept (here.stage_kept ∙ ap (kept (model r.format)) e)

free_stage : (m : Model) (stage : Stage) → Free stage → state_kept (kept m stage) ≡ state.Holding → ⊥
free_stage m waiting free e = let z : ◌≡◌ {A = ℕ} 0 1 = cc in omega arith
free_stage m ready free e = let z : ◌≡◌ {A = ℕ} 0 1 = cc in omega arith
free_stage m (within list) free e = let z : ◌≡◌ {A = ℕ} 0 1 = cc in omega arith
free_stage m (holding kind count) free e = free

pub holds_none : {F : Type 0} (model : F → Model) (stands : F → List Mark → Type 0) (r : Receiver F) (buffer : List ℕ) (b : Hearer) → At model stands r buffer b → Free b.stage → state_kept r.stage ≡ state.Holding → ⊥
holds_none model stands r buffer b here free e = free_stage (model r.format) b.stage free (ap state_kept (sym here.stage_kept) ∙ e)

-- One listen, by the marks to come before and after it: the outcomes of its marks are told by what is noted.
pub record Turned {R : Type 0} (site : Site) (at : R → List ℕ → Hearer → Type 0) (model : R → Model) (r r' : R) (before after : List Mark) (buffer buffer' : List ℕ) (noted : List Entry) : Type 0 where
  pub same_format : model r' ≡ model r
  pub each : (a : Hearer) → at r buffer a → Free a.stage → (b : Hearer) × at r' buffer' b × Free b.stage × ((os : List Outcome) × (run (model r) a before ≡ os ++ run (model r) b after) × Told site os noted)

module _ {R E : Type 0} {cause : E → Cause} {at : R → List ℕ → Hearer → Type 0} {model : R → Model} {r r' : R} {before after : List Mark} {buffer buffer' : List ℕ} {heard : Heard (ReceiverFault E)} (l : Listens cause at model 65535 r r' before after buffer buffer' heard) where
  -- where the listen leads from each hearer
  pub comes : (end : Ending (ReceiverFault E)) → heard.ending ≡ end → (a : Hearer) → at r buffer a → Free a.stage → (b : Hearer) × at r' buffer' b × Came cause (model r) a before after end b
  comes end e a here free =
      let next = l.brought a here in
      let brings : Brings cause (model r) a l.marks end next.0 = subst (λ z. Brings cause (model r) a l.marks z next.0) e next.2 in
      (next.0, next.1, subst (λ w. Came cause (model r) a w after end next.0) (sym l.taken) (came cause (model r) after l.marks a end next.0 free brings))

  pub over : (site : Site) → heard.ending ≡ ending.Empty → (after ≡ []) × Turned site at model r r' before after buffer buffer' []
  over site e = (
    (subst (λ z. Over 65535 (length l.marks) after z) e l.over).1,
    record {
      same_format = l.same_format;
      each = λ a here free. let n = comes ending.Empty e a here free in (n.0, n.1, n.2.0, ([], n.2.1, tt));
    },
  )

  pub spent : (site : Site) → heard.ending ≡ ending.Spent → Turned site at model r r' before after buffer buffer' []
  spent site e = record {
    same_format = l.same_format;
    each = λ a here free. let n = comes ending.Spent e a here free in (n.0, n.1, n.2.0, ([], n.2.1, tt));
  }

  pub faulty : (site : Site) (why : ReceiverFault E) → heard.ending ≡ ending.Fault why → (d : ToldFault) → d ≡ told_fault cause why → Turned site at model r r' before after buffer buffer' (Err (lost.Damaged d) ∷ [])
  faulty site why e d p = record {
    same_format = l.same_format;
    each = λ a here free. let n = comes (ending.Fault why) e a here free in (n.0, n.1, n.2.0, (damaged (cause why.fault) why.place ∷ [], n.2.1, (ap (λ x. Err (lost.Damaged x)) p, tt)));
  }

  -- a frame, which is then decoded and released
  pub handed : (site : Site) (kind count : ℕ) → heard.ending ≡ ending.Frame kind count → ((b : Hearer) → at r' buffer' b → b.buffer ≡ buffer') → (r'' : R) (d : Entry) → Handed site at model r' r'' buffer' kind d → Turned site at model r r'' before after buffer buffer' (d ∷ [])
  handed site kind count e same r'' d done = record {
    same_format = done.same_format ∙ l.same_format;
    each = λ a here free.
        let n = comes (ending.Frame kind count) e a here free in
        let x = done.each n.0 n.1 in
        let told : Decoded site kind (take count n.0.buffer) d = subst (λ z. Decoded site kind (take count z) d) (sym (same n.0 n.1)) (x.1 kind count n.2.0) in
        (released n.0, x.0, tt, (sound kind (take count n.0.buffer) ∷ [], n.2.1, (told, tt)));
  }
