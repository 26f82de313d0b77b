-- Marks that bring nothing, and then one that ends the listen.
use mathlib.Core.List.{List, [], ◌∷◌, ◌++◌}
use mathlib.Core.Logic.{inl, inr}
use mathlib.Core.Path.{◌≡◌, refl}
use Rattle.std.proofs.Common.{Bool, true, false, ◌&&◌}
use Rattle.lines.specs.declared.mark.Mark.{Mark}
use Rattle.formats.specs.Laws.{Model}
use Rattle.formats.specs.Verdicts.{Cause}
use Rattle.hearing.specs.Calls.{Brings, Ends, Quietly}
use Rattle.hearing.specs.Rules.{Event, Hearer, hears, nothing}
use Rattle.hearing.specs.Rules as rules
use Rattle.hearing.specs.declared.answer.Ending.{Ending}
use Rattle.hearing.specs.declared.fault.ReceiverFault.{ReceiverFault}

-- the receiver after marks
abbrev pub after_all : Model → Hearer → List Mark → Hearer
after_all m a [] = a
after_all m a (x ∷ xs) = after_all m (hears m a x).hearer xs

-- each of the marks brings nothing
abbrev pub AllQuiet : Model → Hearer → List Mark → Type 0
AllQuiet m a [] = Unit {0}
AllQuiet m a (x ∷ xs) = ((hears m a x).event ≡ nothing) × AllQuiet m (hears m a x).hearer xs

pub quiet_then : {E : Type 0} (cause : E → Cause) (m : Model) (a : Hearer) (xs : List Mark) (x : Mark) (end : Ending (ReceiverFault E)) → AllQuiet m a xs → Ends cause (hears m (after_all m a xs) x).event end → Brings cause m a (xs ++ (x ∷ [])) end (hears m (after_all m a xs) x).hearer
quiet_then cause m a [] x end q e = inr (e, refl, refl)
quiet_then cause m a (y ∷ ys) x end q e = inl (q.0, quiet_then cause m (hears m a y).hearer ys x end q.1 e)

pub quiet_all : {E : Type 0} (cause : E → Cause) (m : Model) (a : Hearer) (xs : List Mark) (end : Ending (ReceiverFault E)) → AllQuiet m a xs → Quietly end → Brings cause m a xs end (after_all m a xs)
quiet_all cause m a [] end q e = (e, refl)
quiet_all cause m a (y ∷ ys) end q e = inl (q.0, quiet_all cause m (hears m a y).hearer ys end q.1 e)

abbrev pub is_nothing : Event → Bool
is_nothing nothing = true
is_nothing (rules.frame kind count) = false
is_nothing (rules.fault cause place) = false

nothing_then : (e : Event) → is_nothing e ≡ true → e ≡ nothing
nothing_then nothing t = refl
nothing_then (rules.frame kind count) t = cc
nothing_then (rules.fault cause place) t = cc

both : (a b : Bool) → (a && b) ≡ true → (a ≡ true) × (b ≡ true)
both true b e = (refl, e)
both false b e = cc

-- computed
unfoldable pub all_quiet : Model → Hearer → List Mark → Bool
all_quiet m a [] = true
all_quiet m a (x ∷ xs) = is_nothing (hears m a x).event && all_quiet m (hears m a x).hearer xs

pub quiet_by : (m : Model) (a : Hearer) (xs : List Mark) → all_quiet m a xs ≡ true → AllQuiet m a xs
unfolding all_quiet
quiet_by m a [] t = tt
quiet_by m a (x ∷ xs) t =
    let (here, rest) = both (is_nothing (hears m a x).event) (all_quiet m (hears m a x).hearer xs) t in
    (nothing_then (hears m a x).event here, quiet_by m (hears m a x).hearer xs rest)
