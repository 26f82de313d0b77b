use Rattle.std.proofs.Common.{◌≡◌, ℕ, ◌<◌, false, get_or, refl, ◌∙◌, arith, rules}
use mir.Val.{bool_byte}
use Rattle.ft2_laws.specs.Frames.{octet_marks}
use Rattle.ft2.proofs.Filling.{octet_digits, put_part}
use Rattle.ft2.proofs.marks.put_octet.Goals as goal

pub returns : goal.returns
returns c =
    let o = c.args.octet in
    let bits = c.octet_bits in
    let items = c.map.ensures.items in
    let each : (i : ℕ) → i < 8 → get_or c.map.result i 0 ≡ bool_byte (get_or bits.result i false) = λ i h. let (p, q, called) = items.at i false 0 h in search rules in
    put_part c.args.at _ _ (octet_marks o) c.args.marks.now c.copy_from_slice.new.self (omega arith) refl
    (c.copy_from_slice.ensures.after ∙ octet_digits o bits.result c.map.result bits.ensures items.long each)
