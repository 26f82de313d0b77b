-- Lists of octets.
use Rattle.std.proofs.Common.{ℕ, suc, ◌<◌, List, [], ◌∷◌, ◌++◌, get_or}
use Rattle.formats.specs.Laws.{Octets}

pub octets_join : (os us : List ℕ) → Octets os → Octets us → Octets (os ++ us)
octets_join [] us a b = b
octets_join (o ∷ os) us a b = (a.0, octets_join os us a.1 b)

-- numbers that are octets place by place
pub octets_from : (os : List ℕ) → ((i : ℕ) → get_or os i 0 < 256) → Octets os
octets_from [] f = tt
octets_from (o ∷ os) f = (f 0, octets_from os (λ i. f (suc i)))
