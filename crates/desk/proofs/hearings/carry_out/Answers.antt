use Rattle.std.proofs.Common.{ℕ, List, Ok, Err, vec_items, refl, subst}
use Rattle.std.proofs.lemmas.Result.{err_from_is_err_and}
use Rattle.hearing.specs.Calls as calls
use Rattle.receiver.specs.Places.{At, standing_of}
use Rattle.desk.proofs.hearings.carry_out.Goals as goal

-- no frame to look at
pub returns-in_err-octets-in-Look : goal.returns-in_err-octets-in-Look
returns-in_err-octets-in-Look g c =
    let back = c.from_residual-in_err-octets-in-Look in
    let p = err_from_is_err_and back.result back.ensures.1 in
    let refused = Err c.in_err-octets-in-Look.field-0.0 in
    let P : List ℕ → Type 0 = λ xs. calls.Looked (At g.F.ReadFormat.model g.F.ReadFormat.stands) standing_of c.args.receiver.now xs refused in
    let none : P (vec_items c.args.buffers.now.frame) = subst P c.as_slice-in-Look.ensures.value c.in_err-octets-in-Look.ensures in
    rw (c.in-Look.is, p.1, p.2) ((refused, none, refl), refl, refl, refl)

-- as many octets as were found
pub returns-in_ok-octets-in-Look : goal.returns-in_ok-octets-in-Look
returns-in_ok-octets-in-Look g c =
    rw (c.in-Look.is, c.len.ensures) ((Ok c.in_ok-octets-in-Look.octets.octets.now, rw c.as_slice-in-Look.ensures.value at c.in_ok-octets-in-Look.ensures, refl), refl, refl, refl)
