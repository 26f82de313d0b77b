-- Marks taken one after the other in a listen.
use Rattle.std.proofs.Common.{◌≡◌, ℕ, ◌+◌, ◌<◌, ◌≤◌, List, [], ◌∷◌, ◌++◌, length, Some, None, Option, sym, refl, ap, ◌∙◌, subst, inl, inr, arith}
use Rattle.std.proofs.lemmas.List.{append_assoc, length_push}
use Rattle.lines.specs.declared.mark.Mark.{Mark}
use Rattle.formats.specs.Laws.{Model}
use Rattle.formats.specs.Verdicts.{Cause}
use Rattle.hearing.specs.Calls.{Brings, Ends, Listens, Over, Quietly}
use Rattle.hearing.specs.Rules.{Hearer, hears, nothing}
use Rattle.hearing.specs.declared.answer.Ending.{Ending}
use Rattle.hearing.specs.declared.answer.Ending.TheVariants as ending
use Rattle.hearing.specs.declared.fault.ReceiverFault.{ReceiverFault}
use Rattle.receiver.specs.Places.{At, model_of}
use Rattle.receiver.specs.Steps.{EndedBy, Loud, Takes}
use Rattle.receiver.specs.declared.receiver.Receiver.{Receiver}

-- none of the marks brings anything
abbrev pub Silently : Model → Hearer → List Mark → Hearer → Type 0
Silently m a [] b = b ≡ a
Silently m a (x ∷ xs) b = ((hears m a x).event ≡ nothing) × Silently m (hears m a x).hearer xs b

silently_more : (m : Model) (a b : Hearer) (ms : List Mark) (x : Mark) → Silently m a ms b → (hears m b x).event ≡ nothing → Silently m a (ms ++ (x ∷ [])) (hears m b x).hearer
silently_more m a b [] x p e = (subst (λ c. (hears m c x).event ≡ nothing) p e, ap (λ c. (hears m c x).hearer) p)
silently_more m a b (y ∷ ys) x p e = (p.0, silently_more m (hears m a y).hearer b ys x p.1 e)

module _ {E : Type 0} (cause : E → Cause) (m : Model) (end : Ending (ReceiverFault E)) where
  brings_quiet : (a b : Hearer) (ms : List Mark) → Quietly end → Silently m a ms b → Brings cause m a ms end b
  brings_quiet a b [] q p = (q, p)
  brings_quiet a b (x ∷ xs) q p = inl (p.0, brings_quiet (hears m a x).hearer b xs q p.1)

  brings_last : (a b : Hearer) (ms : List Mark) (x : Mark) → Silently m a ms b → Ends cause (hears m b x).event end → Brings cause m a (ms ++ (x ∷ [])) end (hears m b x).hearer
  brings_last a b [] x p e = inr (subst (λ c. Ends cause (hears m c x).event end) p e, refl, ap (λ c. (hears m c x).hearer) p)
  brings_last a b (y ∷ ys) x p e = inl (p.0, brings_last (hears m a y).hearer b ys x p.1 e)

-- so far a listen took marks, and none of them brought anything
pub record Passes {F : Type 0} (model : F → Model) (stands : F → List Mark → Type 0) (r r' : Receiver F) (before after : List Mark) (buffer buffer' : List ℕ) (taken : ℕ) : Type 0 where
  pub marks : List Mark
  pub is_taken : before ≡ marks ++ after
  pub counted : taken ≡ length marks
  pub same_format : model r'.format ≡ model r.format
  pub each : (a : Hearer) → At model stands r buffer a → (b : Hearer) × At model stands r' buffer' b × Silently (model r.format) a marks b

module _ {F E : Type 0} (cause : E → Cause) (model : F → Model) (stands : F → List Mark → Type 0) (budget : ℕ) (r r₁ : Receiver F) (before between : List Mark) (buffer buffer₁ : List ℕ) (taken : ℕ) (so_far : Passes model stands r r₁ before between buffer buffer₁ taken) where
  -- no frame and no fault
  pub ends_quietly : (end : Ending (ReceiverFault E)) → Quietly end → taken ≤ budget → Over budget taken between end → Listens cause (At model stands) (model_of model) budget r r₁ before between buffer buffer₁ (record { taken = taken; ending = end })
  ends_quietly end q l o =
      record {
        marks = so_far.marks;
        taken = so_far.is_taken;
        counted = so_far.counted;
        afforded = subst (λ n. n ≤ budget) so_far.counted l;
        over = subst (λ n. Over budget n between end) so_far.counted o;
        same_format = so_far.same_format;
        brought = λ a p. let (b, at_b, s) = so_far.each a p in (b, at_b, brings_quiet cause (model r.format) end a b so_far.marks q s);
      }

  module _ (r₂ : Receiver F) (x : Mark) (after : List Mark) (buffer₂ : List ℕ) (next : between ≡ x ∷ after) (answer : Option (Ending (ReceiverFault E))) (takes : Takes cause model stands x r₁ r₂ buffer₁ buffer₂ answer) where
    one_more : before ≡ (so_far.marks ++ (x ∷ [])) ++ after
    one_more = so_far.is_taken ∙ ap (λ l. so_far.marks ++ l) next ∙ sym (append_assoc so_far.marks (x ∷ []) after)

    counted_more : taken + 1 ≡ length (so_far.marks ++ (x ∷ []))
    counted_more = ap (λ n. n + 1) so_far.counted ∙ sym (length_push so_far.marks x)

    same : model r₂.format ≡ model r.format
    same = takes.same_format ∙ so_far.same_format

    -- the mark, from any hearer that the receiver is at
    stepped : (a b : Hearer) → At model stands r₁ buffer₁ b → At model stands r₂ buffer₂ (hears (model r.format) b x).hearer × EndedBy cause (hears (model r.format) b x).event answer
    stepped a b p = subst (λ m. At model stands r₂ buffer₂ (hears m b x).hearer × EndedBy cause (hears m b x).event answer) so_far.same_format (takes.each b p)

    pub passes_more : answer ≡ None → Passes model stands r r₂ before after buffer buffer₂ (taken + 1)
    passes_more e =
        record {
          marks = so_far.marks ++ (x ∷ []);
          is_taken = one_more;
          counted = counted_more;
          same_format = same;
          each = λ a p.
              let (b, at_b, s) = so_far.each a p in
              let (at_c, ended) = stepped a b at_b in
              ((hears (model r.format) b x).hearer, at_c, silently_more (model r.format) a b so_far.marks x s (subst (EndedBy cause (hears (model r.format) b x).event) e ended));
        }

    loud_over : (end : Ending (ReceiverFault E)) → Loud (Some end) → (n : ℕ) → Over budget n after end
    loud_over (ending.Frame kind octets) e n = tt
    loud_over (ending.Fault why) e n = tt
    loud_over ending.Spent e n = absurd e
    loud_over ending.Empty e n = absurd e

    pub ends_loudly : (end : Ending (ReceiverFault E)) → answer ≡ Some end → Loud answer → taken < budget → Listens cause (At model stands) (model_of model) budget r r₂ before after buffer buffer₂ (record { taken = taken + 1; ending = end })
    ends_loudly end e loud l =
        record {
          marks = so_far.marks ++ (x ∷ []);
          taken = one_more;
          counted = counted_more;
          afforded = omega (arith, counted_more);
          over = loud_over end (subst Loud e loud) (length (so_far.marks ++ (x ∷ [])));
          same_format = same;
          brought = λ a p.
              let (b, at_b, s) = so_far.each a p in
              let (at_c, ended) = stepped a b at_b in
              ((hears (model r.format) b x).hearer, at_c, brings_last cause (model r.format) end a b so_far.marks x s (subst (EndedBy cause (hears (model r.format) b x).event) e ended));
        }
