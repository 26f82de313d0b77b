-- Lists of marks with one mark more, and the run.
use Rattle.std.proofs.Common.{◌≡◌, ℕ, zero, suc, ◌<◌, ◌≤◌, Bool, true, false, cond, ltb, List, [], ◌∷◌, ◌++◌, sym, refl, ap, ◌∙◌, subst, arith}
use Rattle.std.proofs.lemmas.List.{append_assoc, append-nil}
use Rattle.std.proofs.lemmas.Bool.{lt-ltb}
use Rattle.lines.specs.declared.mark.Mark.{Mark}
use Rattle.lines.specs.declared.mark.Mark.TheVariants.{Zero, One, Bad}
use Rattle.formats.specs.Marks.{Begins, ones}
use Rattle.formats.specs.Verdicts.{Verdict, Open, OpenAlong, octet_told, told_along}
use Rattle.hearing.specs.Rules.{run_after}

module _ (v : List Mark → Verdict) (x : Mark) where
  pub open_snoc : (done ms : List Mark) → OpenAlong v done ms → Open (v ((done ++ ms) ++ (x ∷ []))) → OpenAlong v done (ms ++ (x ∷ []))
  open_snoc done [] o last = (subst (λ l. Open (v (l ++ (x ∷ [])))) (append-nil done) last, tt)
  open_snoc done (y ∷ ys) o last = (o.0, open_snoc (done ++ (y ∷ [])) ys o.1 (subst (λ l. Open (v (l ++ (x ∷ [])))) (sym (append_assoc done (y ∷ []) ys)) last))

  pub told_snoc : (done ms : List Mark) → told_along v done (ms ++ (x ∷ [])) ≡ told_along v done ms ++ octet_told (v ((done ++ ms) ++ (x ∷ [])))
  told_snoc done [] = append-nil (octet_told (v (done ++ (x ∷ [])))) ∙ ap (λ l. octet_told (v (l ++ (x ∷ [])))) (sym (append-nil done))
  told_snoc done (y ∷ ys) =
      ap (λ t. octet_told (v (done ++ (y ∷ []))) ++ t) (told_snoc (done ++ (y ∷ [])) ys)
      ∙ sym (append_assoc (octet_told (v (done ++ (y ∷ [])))) (told_along v (done ++ (y ∷ [])) ys) _)
      ∙ ap (λ l. (octet_told (v (done ++ (y ∷ []))) ++ told_along v (done ++ (y ∷ [])) ys) ++ octet_told (v (l ++ (x ∷ [])))) (append_assoc done (y ∷ []) ys)

pub begins_more : (ms ns : List Mark) → Begins ms → Begins (ms ++ ns)
begins_more [] ns b = absurd b
begins_more (Zero ∷ ms) ns b = tt
begins_more (One ∷ ms) ns b = absurd b
begins_more (Bad ∷ ms) ns b = tt

-- a 1 behind ones is a 1 before them
pub ones_more : (j : ℕ) (ms : List Mark) → ones j ++ (One ∷ ms) ≡ One ∷ (ones j ++ ms)
ones_more zero ms = refl
ones_more (suc j) ms = ap (λ l. One ∷ l) (ones_more j ms)

pub run_below : (gap run : ℕ) → run < gap → run_after gap run One ≡ suc run
run_below gap run h = rw (lt-ltb run gap h)

pub run_more : (gap run j : ℕ) → j ≤ run → j < gap → suc j ≤ run_after gap run One
run_more gap run j h l = go (ltb run gap) refl
  where
    go : (b : Bool) → ltb run gap ≡ b → suc j ≤ cond b (suc run) gap
    go true e = omega arith
    go false e = l
