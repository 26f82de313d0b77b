use Rattle.std.proofs.Common.{sym, subst, ◌∙◌}
use Rattle.commands.proofs.Cutting.{Sofar, first_of, one_more}
use Rattle.std.specs.Str.Iter.{split_whitespace_rest}
use Rattle.commands.proofs.words.octets.Goals as goal

-- one octet more
pub loop-word-preserved : goal.loop-word-preserved
loop-word-preserved c =
    let first = first_of _ c.in-Some.word.now _ c.in-Some.ensures.steps in
    let more = one_more c.loop-word.invariant c.in-Some.word.now _ c.in_ok-ok_or.field-0 first (sym c.octet.ensures ∙ c.in_ok-ok_or.ensures.ok_part) in
    subst (Sofar (split_whitespace_rest c.args.words) (split_whitespace_rest c.next.new.self)) (sym c.in_ok-push.ensures.items) more
