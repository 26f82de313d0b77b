use Rattle.std.proofs.Common.{Ok, Err, sym, ap, ◌∙◌, refl, subst}
use Rattle.std.proofs.lemmas.Result.{err_from_is_err_and}
use Rattle.ft12.specs.Steps.{Stepped}
use Rattle.ft12.proofs.Judging.{broken, whole, within}
use Rattle.ft12.proofs.format.Ft12.judge_mark.Goals as goal

pub returns-in_err-part : goal.returns-in_err-part
returns-in_err-part c =
    let fixed = c.args.self.now.settings.fixed_length in
    let was = c.replace-place.result in
    let fault = err_from_is_err_and c.from_residual.result c.from_residual.ensures.1 in
    let a = broken fixed was c.args.mark c.in_err-part.field-0.0 c.from_residual.result c.replace-place.new.dest (c.in_err-part.ensures was.place fixed) (fault.1 ∙ ap Err fault.2) c.replace-place.ensures.after in
    record { same = refl; judged = rw (sym c.replace-place.ensures.value) a.0; left = rw (sym c.replace-place.ensures.value) a.1 }

pub returns-in-Within : goal.returns-in-Within
returns-in-Within c =
    let fixed = c.args.self.now.settings.fixed_length in
    let was = c.replace-place.result in
    let a = within fixed was c.args.mark c.in-Within.part (subst (λ step. Stepped was.place fixed was.part c.args.mark (Ok step)) c.in-Within.is (c.in_ok-part.ensures was.place fixed)) in
    record { same = refl; judged = rw (sym c.replace-place.ensures.value) a.0; left = rw (sym c.replace-place.ensures.value) a.1 }

pub returns-in-Whole : goal.returns-in-Whole
returns-in-Whole c =
    let fixed = c.args.self.now.settings.fixed_length in
    let was = c.replace-place.result in
    let a = whole fixed was c.args.mark c.in-Whole.octet c.judge_character.result c.judge_character.new.self.reading
    (subst (λ step. Stepped was.place fixed was.part c.args.mark (Ok step)) c.in-Whole.is (c.in_ok-part.ensures was.place fixed)) c.judge_character.ensures.judged c.judge_character.ensures.left in
    record { same = c.judge_character.ensures.same; judged = rw (sym c.replace-place.ensures.value) a.0; left = rw (sym c.replace-place.ensures.value) a.1 }
