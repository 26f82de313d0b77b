use Rattle.std.proofs.Common.{[], ◌∷◌, length, sym, ap, arith, length-append}
use Rattle.formats.proofs.Putting.{put_join, put_same}
use Rattle.ft2_laws.specs.Frames.{check_of, frame_octets, marks_of, with_check}
use Rattle.ft2_laws.proofs.Bits.{length_marks}
use Rattle.ft2.proofs.Writing.{variable_count, variable_marks}
use Rattle.ft2.proofs.frame.Frame.put.Goals as goal

pub put_block-next-requires : goal.put_block-next-requires
put_block-next-requires c =
    let f = c.args.self.now in
    omega (arith, variable_count f.settings f.kind f.octets.now c.split_at.result.0.now c.split_at.result.1.now c.from.result c.in-Variable.is c.from.ensures c.split_at.ensures.front c.split_at.ensures.back)

pub put_blocks-next-requires-in-Variable : goal.put_blocks-next-requires-in-Variable
put_blocks-next-requires-in-Variable c =
    let f = c.args.self.now in
    omega (arith, length_marks (with_check c.split_at.result.0.now), length-append c.split_at.result.0.now (check_of c.split_at.result.0.now ∷ []), variable_count f.settings f.kind f.octets.now c.split_at.result.0.now c.split_at.result.1.now c.from.result c.in-Variable.is c.from.ensures c.split_at.ensures.front c.split_at.ensures.back)

pub returns-in-Fixed : goal.returns-in-Fixed
returns-in-Fixed c =
    let f = c.args.self.now in (
      omega arith,
      put_same (ap (λ k. marks_of (frame_octets f.settings k f.octets.now)) (sym c.in-Fixed.is)) (put_join (omega arith) c.put_octet-next.ensures c.put_blocks-next.ensures),
    )

pub returns-in-Variable : goal.returns-in-Variable
returns-in-Variable c =
    let f = c.args.self.now in
    let marks = variable_marks f.settings f.kind f.octets.now c.split_at.result.0.now c.split_at.result.1.now c.from.result c.in-Variable.is c.from.ensures c.split_at.ensures.front c.split_at.ensures.back in (
      omega arith,
      put_same marks (put_join (omega arith) c.put_octet-next-in-Variable.ensures (put_join (omega (arith, ap length marks)) c.put_block-next.ensures c.put_blocks-next-in-Variable.ensures)),
    )
