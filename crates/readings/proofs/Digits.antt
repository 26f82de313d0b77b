-- Digits taken one by one.
use Rattle.std.proofs.Common.{◌≡◌, ℕ, List, [], ◌∷◌, length, Some, None, Option, Iter, Bor, sym, refl, ap, ◌∙◌, arith}
use Rattle.std.specs.Fn.{Called}
use Rattle.std.specs.Iterator.{YieldsThen}
use Rattle.std.specs.List.{FoldsTo}
use Rattle.std.specs.Option.{MatchOption}
use Rattle.std.proofs.lemmas.Fn.{fronts}
use denote.Param.Members.{Mut}
use Rattle.readings.specs.Numbers.{digits_on, with_digit}

-- what is no number stays none
pub none_on : (symbols : List ℕ) → digits_on None symbols ≡ None
none_on [] = refl
none_on (x ∷ xs) = none_on xs

pub no_more : (o : Option ℕ) (symbols : List ℕ) → length symbols ≡ 0 → digits_on o symbols ≡ o
no_more o [] e = refl
no_more o (x ∷ xs) e = absurd (omega arith)

pub next_digit : (number : ℕ) (symbols rest : List ℕ) (symbol : ℕ) (o : Option ℕ) → symbols ≡ symbol ∷ rest → o ≡ with_digit number symbol → digits_on (Some number) symbols ≡ digits_on o rest
next_digit number symbols rest symbol o e p = ap (digits_on (Some number)) e ∙ ap (λ v. digits_on v rest) (sym p)

-- a `try_fold` with a call that takes one digit more
module _ {F : Type 0} (E : Type 0) (g : Mut F (ℕ × (Bor ℕ × Unit {0})) (Option ℕ)) (takes : (f f' : F) (number : ℕ) (symbol : Bor ℕ) (v : Option ℕ) → Called g f (number, (symbol, tt)) v f' → v ≡ with_digit number symbol.now) where
  pub taken : (symbols left : Iter ℕ) (xs : List (Bor ℕ)) (o : Option (Bor ℕ)) (f f' : F) (number last : ℕ) (result : Option ℕ) → YieldsThen fronts symbols xs o left
      → FoldsTo {P = F × ℕ} (λ p x q. (v : Option ℕ) × Called g p.0 (p.1, (x, tt)) v q.0 × (v ≡ Some q.1)) (f, number) xs (f', last)
      → MatchOption o (result ≡ Some last) (λ x. (v : Option ℕ) × (h : F) × (e : E) × Called g f' (last, (x, tt)) v h × (v ≡ None) × (result ≡ None))
      → result ≡ digits_on (Some number) symbols.rest.now
  taken s u [] None f f' number last result y c e =
      let same : number ≡ last = ap (λ (p : F × ℕ). p.1) c in
      let none : digits_on (Some number) s.rest.now ≡ Some number = ap (λ (t : Iter ℕ). digits_on (Some number) t.rest.now) y.1 ∙ no_more (Some number) y.0.rest.now y.2.0 in
      cc
  taken s u [] (Some x) f f' number last result y c e =
      let same : number ≡ last = ap (λ (p : F × ℕ). p.1) c in
      let here : s.rest.now ≡ x.now ∷ u.rest.now = ap (λ (t : Iter ℕ). t.rest.now) y.1 ∙ y.2 in
      let refused : None ≡ with_digit number x.now = sym e.4 ∙ takes f' e.1 last x e.0 e.3 ∙ ap (λ n. with_digit n x.now) (sym same) in
      e.5 ∙ sym (next_digit number s.rest.now u.rest.now x.now None here refused ∙ none_on u.rest.now)
  taken s u (x ∷ xs) o f f' number last result y c e =
      let more = taken y.1.0 u xs o c.0.0 f' c.0.1 last result (y.0, y.1.2, y.2) c.2 e in
      more ∙ sym (next_digit number s.rest.now y.1.0.rest.now x.now (Some c.0.1) y.1.1 (sym c.1.2 ∙ takes f c.0.0 number x c.1.0 c.1.1))
