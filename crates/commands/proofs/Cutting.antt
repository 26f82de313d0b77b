-- Words cut from a text, one after the other.
use Rattle.std.proofs.Common.{◌≡◌, ℕ, ◌<◌, List, [], ◌∷◌, ◌++◌, map, length, Some, sym, refl, ap, ◌∙◌, subst}
use Rattle.std.proofs.lemmas.List.{map_push}
use Rattle.std.specs.Char.{is_whitespace, is_not_whitespace}
use Rattle.std.specs.Str.{NoCharPasses, EmptyOrStartsWithPassing}
use Rattle.commands.specs.Octets.{octet_of}
use Rattle.commands.specs.Texts.{Cuts, First}

-- what `split_whitespace` says of an item
pub first_of : (text word rest : List ℕ) → (gap : List ℕ) × (text ≡ gap ++ (word ++ rest)) × (0 < length word) × NoCharPasses is_not_whitespace gap × NoCharPasses is_whitespace word × ((more : List ℕ) × EmptyOrStartsWithPassing is_whitespace rest more) → First text word rest
first_of text word rest cut = record { gap = cut.0; cut = cut.1; some = cut.2; blank = cut.3; solid = cut.4; ends = cut.5 }

-- one word more
pub cuts_push : (text : List ℕ) (words : List (List ℕ)) (at word rest : List ℕ) → Cuts text words at → First at word rest → Cuts text (words ++ (word ∷ [])) rest
cuts_push text [] at word rest e first = (rest, subst (λ t. First t word rest) (sym e) first, refl)
cuts_push text (w ∷ ws) at word rest c first = (c.0, c.1, cuts_push c.0 ws at word rest c.2 first)

-- the words so far write the octets so far
pub record Sofar (text rest octets : List ℕ) : Type 0 where
  pub words : List (List ℕ)
  pub cuts : Cuts text words rest
  pub writes : map octet_of words ≡ map Some octets

pub none_yet : (text : List ℕ) → Sofar text text []
none_yet text = record { words = []; cuts = refl; writes = refl }

pub one_more : {text at octets : List ℕ} → Sofar text at octets → (word rest : List ℕ) (octet : ℕ) → First at word rest → octet_of word ≡ Some octet → Sofar text rest (octets ++ (octet ∷ []))
one_more {text} {at} {octets} old word rest octet first e = record {
  words = old.words ++ (word ∷ []);
  cuts = cuts_push text old.words at word rest old.cuts first;
  writes = map_push octet_of old.words word ∙ ap (λ r. r ++ (octet_of word ∷ [])) old.writes ∙ ap (λ o. map Some octets ++ (o ∷ [])) e ∙ sym (map_push Some octets octet);
}
