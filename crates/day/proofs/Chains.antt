-- The chains of iterators over the entries.
use Rattle.std.proofs.Common.{◌≡◌, ℕ, min, cond, List, [], ◌∷◌, map, Some, None, Option, Ok, Err, nat_lt, true, false, sym, refl, ap, ◌∙◌}
use Rattle.std.proofs.lemmas.Iterator.{YieldsList}
use Rattle.std.proofs.lemmas.Iterator.Consumers.{YieldsList-end}
use Rattle.std.proofs.lemmas.List.{map-id}
use Rattle.std.specs.Iterator.{Drains}
use Rattle.std.specs.List.{filter, filter_map, cons_option, fold, reduce, last_or}
use Rattle.readings.specs.declared.reading.Reading.{Reading}
use Rattle.day.specs.Batches.{Entry, is_wanted, last_of, least_above, lower, reading_in}

-- `last` of an iterator that gives a list
pub last_from_yields_List : {S A : Type 0} {steps : S → Option A → S → Type 0} {s : S} {all : List A} (r : Option A) → ((xs : List A) × Drains steps s xs × (r ≡ last_or None xs)) → YieldsList steps (λ x. x) s all → r ≡ last_or None all
last_from_yields_List r ran road = ran.2 ∙ ap (last_or None) (sym (map-id ran.0) ∙ (YieldsList-end road ran.0 ran.1.1.0 ran.1.1.1 None ran.1.0 refl ran.1.1.2).0)

pub last_of_chain : (batch : Option ℕ) (found : Option Reading) (es : List Entry) → last_of batch found es ≡ last_or found (filter (is_wanted batch) (filter_map reading_in es))
last_of_chain batch found [] = refl
last_of_chain batch found (Ok x ∷ es) =
    let rest = filter (is_wanted batch) (filter_map reading_in es) in
    elim (is_wanted batch x) as (λ b. last_of batch (cond b (Some x) found) es ≡ last_or found (cond b (x ∷ rest) rest)) [ true ↦ last_of_chain batch (Some x) es | false ↦ last_of_chain batch found es ]
last_of_chain batch found (Err lost ∷ es) = last_of_chain batch found es

-- the batches above a number
abbrev pub above : ℕ → List Entry → List ℕ
above after es = filter (nat_lt after) (map (λ (x : Reading). x.batch) (filter_map reading_in es))

least_from : (after found : ℕ) (es : List Entry) → least_above after (Some found) es ≡ Some (fold min found (above after es))
least_from after found [] = refl
least_from after found (Ok x ∷ es) =
    elim (nat_lt after x.batch) as (λ b. least_above after (cond b (Some (min found x.batch)) (Some found)) es ≡ Some (fold min found (cond b (x.batch ∷ above after es) (above after es)))) [ true ↦ least_from after (min found x.batch) es | false ↦ least_from after found es ]
least_from after found (Err lost ∷ es) = least_from after found es

pub least_above_chain : (after : ℕ) (es : List Entry) → least_above after None es ≡ reduce min (above after es)
least_above_chain after [] = refl
least_above_chain after (Ok x ∷ es) =
    elim (nat_lt after x.batch) as (λ b. least_above after (cond b (Some x.batch) None) es ≡ reduce min (cond b (x.batch ∷ above after es) (above after es))) [ true ↦ least_from after x.batch es | false ↦ least_above_chain after es ]
least_above_chain after (Err lost ∷ es) = least_above_chain after es

pub lower_chain : (a b : Option ℕ) → lower a b ≡ reduce min (cons_option a (cons_option b []))
lower_chain None None = refl
lower_chain None (Some b) = refl
lower_chain (Some a) None = refl
lower_chain (Some a) (Some b) = refl
