-- The frames worked by hand are those of the definitions.
use Rattle.std.proofs.Common.{refl}
use Rattle.ft12_laws.specs.Worked.{Worked}

pub worked : Worked
worked = record { kind_3 = refl; kind_4 = refl; fixed_of_two = refl; its_marks = refl; none_inside = refl; carry_dropped = refl; as_marks = refl }
