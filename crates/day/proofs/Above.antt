-- The lowest batch above a number is above it.
use Rattle.std.proofs.Common.{◌≡◌, ℕ, ◌<◌, Bool, true, false, cond, List, [], ◌∷◌, Some, None, Option, Ok, Err, nat_lt, refl, arith, rules, tests, IfSome}
use Rattle.day.specs.Batches.{Entry, least_above, lower}

lower_above : (after : ℕ) (a b : Option ℕ) → IfSome a (λ batch. after < batch) → IfSome b (λ batch. after < batch) → IfSome (lower a b) (λ batch. after < batch)
lower_above after None b h k = k
lower_above after (Some a) None h k = h
lower_above after (Some a) (Some b) h k = omega arith

taken_above : (after batch : ℕ) (found : Option ℕ) (t : Bool) → nat_lt after batch ≡ t → IfSome found (λ b. after < b) → IfSome (cond t (lower found (Some batch)) found) (λ b. after < b)
taken_above after batch found true e h =
    let k : after < batch = search (tests, rules) in
    lower_above after found (Some batch) h k
taken_above after batch found false e h = h

least_is_above : (after : ℕ) (found : Option ℕ) (es : List Entry) → IfSome found (λ b. after < b) → IfSome (least_above after found es) (λ b. after < b)
least_is_above after found [] h = h
least_is_above after found (Ok x ∷ es) h = least_is_above after (cond (nat_lt after x.batch) (lower found (Some x.batch)) found) es (taken_above after x.batch found (nat_lt after x.batch) refl h)
least_is_above after found (Err lost ∷ es) h = least_is_above after found es h

pub either_is_above : (line lab : List Entry) (after : ℕ) → IfSome (lower (least_above after None line) (least_above after None lab)) (λ b. after < b)
either_is_above line lab after = lower_above after (least_above after None line) (least_above after None lab) (least_is_above after None line tt) (least_is_above after None lab tt)
