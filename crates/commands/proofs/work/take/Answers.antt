use Rattle.std.proofs.Common.{◌≡◌, ◌<◌, ◌++◌, length, vec_items, refl, ap, ◌∙◌, inl, inr, append-nil, arith}
use Rattle.commands.proofs.work.take.Goals as goal

-- fewer than asked for: none is left
pub returns-then-len-from-clause-took : goal.returns-then-len-from-clause-took
returns-then-len-from-clause-took g c =
    let v = c.in_ok-marks.marks in
    let took = c.in_ok-marks.ensures.taken in
    let few : length (vec_items v) < c.args.count = omega (arith, v.ok.0) in
    let none = took.fewer few in
    let whole = took.joined ∙ ap (λ r. vec_items v ++ r) none ∙ append-nil (vec_items v) in
    inr (inl (v, refl, few, whole, none))

pub returns-else-len-from-clause-took : goal.returns-else-len-from-clause-took
returns-else-len-from-clause-took g c =
    let v = c.in_ok-marks.marks in
    let took = c.in_ok-marks.ensures.taken in
    let all : length (vec_items v) ≡ c.args.count = omega (arith, v.ok.0, took.most) in
    inl (v, refl, all, took.joined)
