-- A capture as far as it has been heard.
use Rattle.std.proofs.Common.{◌≡◌, ℕ, List, [], ◌∷◌, ◌++◌, sym, ap, ◌∙◌, subst, append_assoc, append-nil}
use Rattle.lines.specs.declared.mark.Mark.{Mark}
use Rattle.formats.specs.Laws.{Model}
use Rattle.hearing.specs.Rules.{Hearer}
use Rattle.receiver.specs.Places.{At, model_of}
use Rattle.receiver.specs.declared.receiver.Receiver.{Receiver}
use Rattle.day.specs.Batches.{Entry}
use Rattle.day.specs.Hearing.{Free, Outcome, Told, begin, run}
use Rattle.day.specs.declared.entry.Site.{Site}
use Rattle.day.proofs.Turns.{Turned}

-- the marks `whole` were to come, and `rest` still are; the outcomes that are done are told by the entries
pub record Sofar {F : Type 0} (model : F → Model) (stands : F → List Mark → Type 0) (site : Site) (m : Model) (whole : List Mark) (r : Receiver F) (rest : List Mark) (buffer : List ℕ) (entries : List Entry) : Type 0 where
  pub same : model_of model r ≡ m
  pub hearer : Hearer
  pub here : At model stands r buffer hearer
  pub free : Free hearer.stage
  pub done : List Outcome
  pub goes : run m begin whole ≡ done ++ run m hearer rest
  pub told : Told site done entries

told_append : (site : Site) (os ps : List Outcome) (es fs : List Entry) → Told site os es → Told site ps fs → Told site (os ++ ps) (es ++ fs)
told_append site [] ps [] fs t k = k
told_append site [] ps (y ∷ es) fs t k = absurd t
told_append site (x ∷ os) ps [] fs t k = absurd t
told_append site (x ∷ os) ps (y ∷ es) fs t k = (t.0, told_append site os ps es fs t.1 k)

module _ {F : Type 0} {model : F → Model} {stands : F → List Mark → Type 0} {site : Site} {m : Model} {whole : List Mark} where
  pub next : {r r' : Receiver F} {rest rest' : List Mark} {buffer buffer' : List ℕ} {es noted : List Entry} (es' : List Entry) → Sofar model stands site m whole r rest buffer es
      → Turned site (At model stands) (model_of model) r r' rest rest' buffer buffer' noted → es' ≡ es ++ noted → Sofar model stands site m whole r' rest' buffer' es'
  next {rest = rest} {rest' = rest'} {es = es} {noted = noted} es' sofar turned more =
      let n = turned.each sofar.hearer sofar.here sofar.free in
      let e : run m sofar.hearer rest ≡ n.3.0 ++ run m n.0 rest' = subst (λ x. run x sofar.hearer rest ≡ n.3.0 ++ run x n.0 rest') sofar.same n.3.1 in
      record {
        same = turned.same_format ∙ sofar.same;
        hearer = n.0;
        here = n.1;
        free = n.2;
        done = sofar.done ++ n.3.0;
        goes = sofar.goes ∙ ap (λ x. sofar.done ++ x) e ∙ sym (append_assoc sofar.done n.3.0 (run m n.0 rest'));
        told = subst (Told site (sofar.done ++ n.3.0)) (sym more) (told_append site sofar.done n.3.0 es noted sofar.told n.3.2);
      }

  -- at the end of the line every outcome is told
  pub all_told : {r : Receiver F} {rest : List Mark} {buffer : List ℕ} {es : List Entry} → rest ≡ [] → Sofar model stands site m whole r rest buffer es → Told site (run m begin whole) es
  all_told {es = es} none sofar = subst (λ os. Told site os es) (sym (sofar.goes ∙ ap (λ xs. sofar.done ++ run m sofar.hearer xs) none ∙ append-nil sofar.done)) sofar.told
