-- From the words behind a name to the whole text.
use Rattle.std.proofs.Common.{◌≡◌, ℕ, ◌<◌, List, ◌++◌, length, codes, Result, sym, subst, inl, inr, MatchResult}
use Rattle.std.proofs.lemmas.Result.{MatchResult-weaker}
use Rattle.std.specs.Char.{is_whitespace, is_not_whitespace}
use Rattle.std.specs.Str.{NoCharPasses, EmptyOrStartsWithPassing}
use Rattle.commands.specs.Texts.{Blank, First, Misreads, Reads, Says, kind_word}
use Rattle.commands.specs.Readings.{Chosen, Extra, Miscounts, Spoils}
use Rattle.commands.specs.declared.command.Command.{Command}
use Rattle.commands.specs.declared.command.Command.TheVariants.{Work}
use Rattle.commands.specs.declared.command.Order.{Order}
use Rattle.commands.specs.declared.command.Order.TheVariants.{Take}
use Rattle.commands.specs.declared.misread.Misread.{Misread}
use Rattle.stacks.specs.declared.record.RecordKind.{RecordKind}
use Rattle.commands.proofs.Cutting.{first_of}

-- what `split_whitespace` says of its first item, at the word that it was found to be
pub named : {text word : List ℕ} (bs name rest : List ℕ) → bs ≡ text → name ≡ word → (gap : List ℕ) × (bs ≡ gap ++ (name ++ rest)) × (0 < length name) × NoCharPasses is_not_whitespace gap × NoCharPasses is_whitespace name × ((more : List ℕ) × EmptyOrStartsWithPassing is_whitespace rest more) → First text word rest
named {text} {word} bs name rest e f cut = subst (λ t. First t word rest) e (subst (λ w. First bs w rest) f (first_of bs name rest cut))

module _ (text rest : List ℕ) (r : Result Command Misread) where
  pub said_alone : (o : Order) → Says text o rest → MatchResult r (λ c. (c ≡ Work o) × Blank rest) (λ e. Extra rest e) → MatchResult r (λ c. Reads text c) (λ e. Misreads text e)
  said_alone o says h =
      MatchResult-weaker r h (λ c k. subst (Reads text) (sym k.0) (inr (rest, says, k.1)))
      (λ e k. subst (Misreads text) (sym k.1) (o, rest, k.2, says, k.3))

  pub said_chosen : (k : RecordKind) → First text (kind_word k) rest → MatchResult r (λ c. Chosen k rest c) (λ e. Spoils rest e) → MatchResult r (λ c. Reads text c) (λ e. Misreads text e)
  said_chosen kind first h =
      MatchResult-weaker r h (λ c k. subst (Reads text) (sym k.1) (rest, first, k.2))
      (λ e k. elim k [ inl none ↦ subst (Misreads text) (sym none) tt | inr bad ↦ subst (Misreads text) (sym bad.1) (kind, rest, first, bad.2) ])

-- an order of one word, by what is said of that word and of the words behind it
pub alone_said : {text word : List ℕ} (o : Order) (r : Result Command Misread) (bs name rest : List ℕ) → bs ≡ text → name ≡ word → (gap : List ℕ) × (bs ≡ gap ++ (name ++ rest)) × (0 < length name) × NoCharPasses is_not_whitespace gap × NoCharPasses is_whitespace name × ((more : List ℕ) × EmptyOrStartsWithPassing is_whitespace rest more) → (First text word rest → Says text o rest) → MatchResult r (λ c. (c ≡ Work o) × Blank rest) (λ e. Extra rest e) → MatchResult r (λ c. Reads text c) (λ e. Misreads text e)
alone_said {text} {word} o r bs name rest e f cut says h = said_alone text rest r o (says (named bs name rest e f cut)) h

-- no number behind the word, or one word too many
pub said_no_take : (text rest : List ℕ) (e : Misread) → First text (codes "take") rest → Miscounts rest e → Misreads text e
said_no_take text rest e first k =
    elim k [
      | inl none ↦ subst (Misreads text) (sym none.1) (rest, first, none.2)
      | inr more ↦ subst (Misreads text) (sym more.3.1) (Take more.0, more.1, more.3.2, (rest, first, more.2), more.3.3)
    ]
