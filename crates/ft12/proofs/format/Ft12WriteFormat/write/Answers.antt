use Rattle.std.proofs.Common.{◌≡◌, Some, rules}
use Rattle.ft12_laws.specs.Frames.{kind_of}
use Rattle.formats.proofs.Octets.{octets_from}
use Rattle.ft12.proofs.Writing.{written}
use Rattle.ft12.proofs.format.Ft12WriteFormat.write.Goals as goal

pub returns : goal.returns
returns c =
    let settings = c.args.self.now.settings in
    let kind = c.in_ok-try_from.field-0 in
    let is : kind_of c.args.kind ≡ Some kind = search rules in
    let frame = c.in_ok-frame.ensures in
    written settings.fixed_length c.args.kind kind c.args.octets.now c.args.marks.now c.put.new.marks settings.limits.1
    is (rw c.fixed_length.ensures at frame.2) (octets_from c.args.octets.now (λ i. (c.type_inv.octets i).fits))
    c.put.result (rw (frame.0, frame.1) at c.put.ensures)
