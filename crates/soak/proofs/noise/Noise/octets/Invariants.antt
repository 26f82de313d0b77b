use Rattle.std.proofs.Common.{◌≡◌, ◌+◌, length, vec_items}
use Rattle.soak.proofs.noise.Noise.octets.Given as goal

abbrev pub invariant-loop-i : goal.invariant-loop-i
invariant-loop-i l = length (vec_items l.octets) ≡ length (vec_items l.fn.octets) + l._i
