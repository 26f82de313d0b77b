use Rattle.std.proofs.Common.{refl, ap, ◌∙◌, inl, rules}
use Rattle.ft12_laws.specs.Reading.{ft12_model}
use Rattle.desk.proofs.desk.Desk.obey.Goals as goal

-- FT1.2 with a new receiver
pub returns-in_ok-format-in-Ft12 : goal.returns-in_ok-format-in-Ft12
returns-in_ok-format-in-Ft12 g c =
    let made = c.in_ok-format-in-Ft12.ensures in
    let new = c.new-in-Ft12 in
    rw c.in-Ft12.is (inl (made.0, made.1, search rules, (new.result, refl, (new.ensures.begun, new.ensures.same ∙ ap ft12_model made.2))), refl, refl)

-- FT2 with a new receiver
pub returns-in_ok-format-in-Ft2 : goal.returns-in_ok-format-in-Ft2
returns-in_ok-format-in-Ft2 g c =
    let made = c.in_ok-format-in-Ft2.ensures.made in
    let new = c.new-in-Ft2-2 in
    rw c.in-Ft2.is (inl (c.in_ok-format-in-Ft2.format.settings, made.0, made.1, search rules, (new.result, refl, (new.ensures.begun, new.ensures.same))), refl, refl)
