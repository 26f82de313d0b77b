-- What an option brings by how it is asked for, and a buffer by the frame that it begins with.
use Rattle.std.proofs.Common.{◌≡◌, ℕ, true, false, List, ◌++◌, drop, Some, None, Option, Ok, Err, MatchOption, is_some, ok_or, ap, ◌∙◌, subst, take-append-drop}
use Rattle.std.specs.Array.{IsFirstChunk}

module _ {A : Type 0} (P : Type 0) (Q : A → Type 0) where
  pub from_ok : {E : Type 0} (o : Option A) (e : E) (x : A) → MatchOption o P Q → ok_or o e ≡ Ok x → Q x
  from_ok None e x m q = cc
  from_ok (Some y) e x m q = subst Q (cc) m

  pub from_err : {E : Type 0} (o : Option A) (e x : E) → MatchOption o P Q → ok_or o e ≡ Err x → P × (x ≡ e)
  from_err None e x m q = (m, cc)
  from_err (Some y) e x m q = cc

  pub from_some : (o : Option A) → MatchOption o P Q → is_some o ≡ true → (x : A) × Q x
  from_some None m q = cc
  from_some (Some y) m q = (y, m)

  pub from_none : (o : Option A) → MatchOption o P Q → is_some o ≡ false → P
  from_none None m q = m
  from_none (Some y) m q = cc

pub whole : (buffer frame : List ℕ) → IsFirstChunk buffer frame 255 → frame ++ drop 255 buffer ≡ buffer
whole buffer frame p = ap (λ l. l ++ drop 255 buffer) p.same ∙ take-append-drop 255 buffer
