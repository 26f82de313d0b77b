-- The format judges a list as its machine does, mark by mark.
use Rattle.std.proofs.Common.{◌≡◌, ℕ, zero, suc, Bool, true, false, cond, eqb, List, [], ◌∷◌, ◌++◌, sym, refl, ap, ◌∙◌}
use Rattle.lines.specs.declared.mark.Mark.{Mark}
use Rattle.formats.specs.Machine.{Opened, reached}
use Rattle.formats.specs.Marks.{Begins}
use Rattle.formats.proofs.Machines.{Agrees}
use Rattle.ft2_laws.specs.Reading.{Place, Reading, start, user, check, users, after_block, fixed_block, judge, judge_list, judge_mark, moved_in, octet_of, next, after_at, beginning, ft2_machine}
use Rattle.ft2_laws.specs.declared.reading.Block.{Block}
use Rattle.ft2_laws.specs.declared.reading.Block.TheVariants.{Fixed, Header, Body}
use Rattle.ft2_laws.specs.declared.reading.Part.{Part}
use Rattle.ft2_laws.specs.declared.reading.Part.TheVariants.{First, Later}
use Rattle.ft2_laws.specs.declared.settings.Settings.{Settings}
use Rattle.ft2_laws.proofs.Bits.{moved_eight}

module _ (settings : Settings) where
  agree : (p : Place) (done : List Mark) (m : Mark) → judge_list settings p (done ++ (m ∷ [])) ≡ (ft2_machine settings).says (reached (ft2_machine settings) (beginning p) done) m
  agree p [] m = refl
  agree p (a ∷ []) m = refl
  agree p (a ∷ (b ∷ [])) m = refl
  agree p (a ∷ (b ∷ (c ∷ []))) m = refl
  agree p (a ∷ (b ∷ (c ∷ (d ∷ [])))) m = refl
  agree p (a ∷ (b ∷ (c ∷ (d ∷ (e ∷ []))))) m = refl
  agree p (a ∷ (b ∷ (c ∷ (d ∷ (e ∷ (f ∷ [])))))) m = refl
  agree p (a ∷ (b ∷ (c ∷ (d ∷ (e ∷ (f ∷ (g ∷ []))))))) m = ap (λ o. judge_mark (judge p o) m) (sym (moved_eight a b c d e f g m))
  agree p (a ∷ (b ∷ (c ∷ (d ∷ (e ∷ (f ∷ (g ∷ (h ∷ [])))))))) m = refl
  agree p (a ∷ (b ∷ (c ∷ (d ∷ (e ∷ (f ∷ (g ∷ (h ∷ (n ∷ rest))))))))) m =
      agree (next settings p (octet_of a b c d e f g h)) (n ∷ rest) m
      ∙ ap (λ o. (ft2_machine settings).says (reached (ft2_machine settings) (beginning (next settings p o)) (n ∷ rest)) m) (sym (moved_eight a b c d e f g h))

  pub agrees : Agrees (ft2_machine settings) (judge_list settings start)
  agrees done m b o = agree start done m

-- the first place is not reached again
abbrev started : Place → Bool
started start = true
started (user b os left) = false
started (check b os) = false

users_started : (b : Block) (os : List ℕ) (n : ℕ) → started (users b os n) ≡ false
users_started b os zero = refl
users_started b os (suc n) = refl

block_started : (b : Block) (os : List ℕ) → started (after_block b os) ≡ false
block_started (Fixed left) os = users_started (Fixed _) [] _
block_started Header os = users_started Body [] _
block_started Body os = refl

module _ (settings : Settings) where
  next_started : (p : Place) (o : ℕ) → started (next settings p o) ≡ false
  next_started start o = go (eqb o 0x27)
    where
      go : (t : Bool) → started (cond t (fixed_block settings.fixed) (users Header [] settings.header)) ≡ false
      go true = users_started (Fixed _) [] _
      go false = users_started Header [] settings.header
  next_started (user b os left) o = users_started b (os ++ (o ∷ [])) left
  next_started (check b os) o = block_started b os

  after_leaves : (p : Place) (a : Part) (m : Mark) → after_at settings p a m ≡ beginning start → ⊥
  after_leaves p First m e = let same = ap (λ s. s.part) e in cc
  after_leaves p (Later (suc left) o) m e = let same = ap (λ s. s.part) e in cc
  after_leaves p (Later zero o) m e =
      let same : false ≡ true = sym (next_started p (moved_in o m)) ∙ ap (λ s. started s.place) e in
      cc

  leaves_from : (s : Reading) (m : Mark) (ms : List Mark) → reached (ft2_machine settings) s (m ∷ ms) ≡ beginning start → ⊥
  leaves_from s m [] e = after_leaves s.place s.part m e
  leaves_from s m (n ∷ ms) e = leaves_from (after_at settings s.place s.part m) n ms e

  pub leaves : (ms : List Mark) → Begins ms → Opened (ft2_machine settings) (beginning start) ms → reached (ft2_machine settings) (beginning start) ms ≡ beginning start → ⊥
  leaves [] b o e = b
  leaves (m ∷ ms) b o e = leaves_from (beginning start) m ms e
