use Rattle.std.proofs.Common.{Some, sym, ap, ◌∙◌, subst}
use Rattle.formats.specs.Answers.{Written}
use Rattle.formats.specs.Laws.{Octets}
use Rattle.ft2_laws.specs.Reading.{ft2_model}
use Rattle.formats.proofs.Octets.{octets_from}
use Rattle.ft2.proofs.Writing.{kind_found, written}
use Rattle.ft2.proofs.writer.Ft2WriteFormat.write.Goals as goal

pub returns : goal.returns
returns c =
    let frame = c.in_ok-new.field-0 in
    let (settings, kind, octets) = c.in_ok-new.ensures in
    let are = subst Octets (sym octets) (octets_from c.args.octets.now (λ i. (c.type_inv.octets i).fits)) in
    subst (λ s. Written (ft2_model s) c.args.kind c.args.octets.now c.args.marks.now c.put.result c.put.new.marks) settings
    (subst (λ os. Written (ft2_model frame.settings) c.args.kind os c.args.marks.now c.put.result c.put.new.marks) octets
    (written frame c.args.kind c.args.marks.now c.put.new.marks (kind_found _ c.in_ok-kind.kind c.in_ok-kind.ensures ∙ ap Some (sym kind)) are c.put.result c.put.ensures))
