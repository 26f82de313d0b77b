-- In how many marks lists differ.
use Rattle.std.proofs.Common.{◌≡◌, ℕ, suc, ◌+◌, ◌<◌, ◌≤◌, List, [], ◌∷◌, ◌++◌, length, refl, ap, ◌∙◌, arith}
use Rattle.lines.specs.declared.mark.Mark.{Mark}
use Rattle.lines.specs.declared.mark.Mark.TheVariants.{Zero, One, Bad}
use Rattle.formats.specs.Marks.{Altered, change, changes}

pub changes_join : (xs ys us vs : List Mark) → length us ≡ length xs → changes (xs ++ ys) (us ++ vs) ≡ changes xs us + changes ys vs
changes_join [] ys [] vs l = omega arith
changes_join [] ys (u ∷ us) vs l = absurd (omega arith)
changes_join (x ∷ xs) ys [] vs l = absurd (omega arith)
changes_join (x ∷ xs) ys (u ∷ us) vs l = let rest = changes_join xs ys us vs (omega arith) in omega arith

pub change_self : (m : Mark) → change m m ≡ 0
change_self Zero = refl
change_self One = refl
change_self Bad = refl

pub changes_self : (ms : List Mark) → changes ms ms ≡ 0
changes_self [] = refl
changes_self (m ∷ ms) = let here = change_self m in let rest = changes_self ms in omega arith

change_none : (m n : Mark) → change m n ≡ 0 → m ≡ n
change_none Zero Zero e = refl
change_none Zero One e = absurd (omega arith)
change_none Zero Bad e = absurd (omega arith)
change_none One Zero e = absurd (omega arith)
change_none One One e = refl
change_none One Bad e = absurd (omega arith)
change_none Bad Zero e = absurd (omega arith)
change_none Bad One e = absurd (omega arith)
change_none Bad Bad e = refl

pub none_changed : (ms ns : List Mark) → length ns ≡ length ms → changes ms ns ≡ 0 → ms ≡ ns
none_changed [] [] l e = refl
none_changed [] (n ∷ ns) l e = absurd (omega arith)
none_changed (m ∷ ms) [] l e = absurd (omega arith)
none_changed (m ∷ ms) (n ∷ ns) l e =
    ap (λ x. x ∷ ms) (change_none m n (omega arith)) ∙ ap (λ xs. n ∷ xs) (none_changed ms ns (omega arith) (omega arith))

-- an altered list has the length and the number of changes that are said, its first mark included
pub altered_counts : (d : ℕ) (sent heard : List Mark) → Altered d sent heard → (length heard ≡ length sent) × (1 ≤ changes sent heard) × (changes sent heard < d)
altered_counts d [] heard a = absurd a
altered_counts d (m ∷ ms) [] a = absurd a
altered_counts d (m ∷ ms) (n ∷ ns) a =
    let none : change m n ≡ 0 = ap (change m) a.0 ∙ change_self m in
    (ap suc a.1, omega (arith, a.2), omega (arith, a.3))
