-- The reader at the places of a frame.
use Rattle.std.proofs.Common.{◌≡◌, ℕ, zero, suc, List, [], ◌∷◌, ◌++◌, Some, sym, refl, ap, ◌∙◌, subst}
use Rattle.std.specs.Option.{option_or}
use Rattle.checks.specs.Bits.{block_bits, octet_bits}
use Rattle.checks.specs.Standing.{Stands}
use Rattle.checks.proofs.Registers.{block_push}
use Rattle.ft2_laws.specs.Reading.{user, users}
use Rattle.ft2_laws.specs.declared.reading.Block.{Block}
use Rattle.ft2.specs.Standing.{At, block_of, head_of, position_of}
use Rattle.ft2.specs.declared.reader.Reader.{Reader}

-- one octet more behind a block
pub head_push : (os : List ℕ) (o : ℕ) → option_or (head_of os) (Some o) ≡ head_of (os ++ (o ∷ []))
head_push [] o = refl
head_push (p ∷ os) o = refl

block_users : (b : Block) (os : List ℕ) (n : ℕ) → block_of (users b os n) ≡ os
block_users b os zero = refl
block_users b os (suc n) = refl

-- a user octet taken in
pub user_taken : (before after : Reader) (b : Block) (left o : ℕ) (os : List ℕ) → At before (user b os left)
    → after.position ≡ position_of (users b (os ++ (o ∷ [])) left)
    → after.first ≡ head_of (os ++ (o ∷ []))
    → ((u : _) → Stands before.register u → Stands after.register (u ++ octet_bits o))
    → At after (users b (os ++ (o ∷ [])) left)
user_taken before after b left o os at place first take =
    let same = sym (block_users b (os ++ (o ∷ [])) left) in
    record {
      position_is = place;
      first_is = first ∙ ap head_of same;
      taken = subst (λ x. Stands after.register (block_bits x)) same (subst (Stands after.register) (sym (block_push os o)) (take (block_bits os) at.taken));
    }
