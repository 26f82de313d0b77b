use Rattle.std.proofs.Common.{◌<◌, length, take, drop, Err, sym, ap, ◌∙◌}
use Rattle.std.specs.Array.{IsFirstChunk}
use Rattle.std.proofs.lemmas.Result.{err_from_is_err_and}
use Rattle.hearing.specs.declared.refusal.ReceiverRefusal.TheVariants.{NotHolding, ShortBuffer}
use Rattle.receiver.proofs.Asked.{from_err, from_ok, whole}
use Rattle.receiver.proofs.Stages.{Free, Holds, held_at}
use Rattle.receiver.specs.Stages.{state_kept}
use Rattle.receiver.proofs.receiver.Receiver.look.Goals as goal

pub returns-in_err-octets : goal.returns-in_err-octets
returns-in_err-octets g c =
    let self = c.args.self.now in
    let buffer = c.args.buffer.now in
    let (free, why) = from_err (Free self.stage) (Holds self.stage) c.held.result NotHolding c.in_err-octets.field-0.0 c.held.ensures (sym c.ok_or-2.ensures.value ∙ c.in_err-octets.was) in
    let chunk = from_ok (length buffer < 255) (λ y. IsFirstChunk buffer y.now 255) c.first_chunk.result ShortBuffer c.in_ok-frame.frame c.first_chunk.ensures.cases (sym c.ok_or.ensures.value ∙ c.in_ok-frame.was) in
    let (x, ex, same) = err_from_is_err_and c.from_residual-in_err-octets.result c.from_residual-in_err-octets.ensures.1 in
    rw (ex ∙ ap Err (same ∙ why)) (chunk.enough, free)

pub returns : goal.returns
returns g c =
    let self = c.args.self.now in
    let buffer = c.args.buffer.now in
    let held = from_ok (Free self.stage) (Holds self.stage) c.held.result NotHolding c.in_ok-octets.octets c.held.ensures (sym c.ok_or-2.ensures.value ∙ c.in_ok-octets.was) in
    let chunk = from_ok (length buffer < 255) (λ y. IsFirstChunk buffer y.now 255) c.first_chunk.result ShortBuffer c.in_ok-frame.frame c.first_chunk.ensures.cases (sym c.ok_or.ensures.value ∙ c.in_ok-frame.was) in (
      chunk.enough,
      ap state_kept held.1,
      λ a p.
          let (kind, here) = held_at (g.F.ReadFormat.model self.format) a.stage self.stage c.in_ok-octets.octets p.stage_kept held in
          (kind, c.in_ok-octets.octets, here, c.first.ensures (drop 255 buffer) ∙ ap (take c.in_ok-octets.octets) (whole buffer c.in_ok-frame.frame.now chunk)),
    )
