-- Marks put behind marks, and a buffer that is filled with them.
use Rattle.std.proofs.Common.{◌≡◌, ℕ, ◌+◌, ◌≤◌, List, ◌++◌, map, length, drop, sym, ap, ◌∙◌, subst, ap₂, arith, length-append}
use Rattle.std.proofs.Math.Seq.{paste}
use Rattle.std.proofs.lemmas.List.Edits.{paste_all, paste-paste}
use Rattle.std.proofs.lemmas.List.{length-map, map-append}
use Rattle.lines.specs.Records.{mark_octet}
use Rattle.lines.specs.declared.mark.Mark.{Mark}
use Rattle.formats.specs.Answers.{filled}
use Rattle.formats.specs.Putting.{Put}

pub put_join : {at n k : ℕ} {xs ys : List Mark} {a b c : List ℕ} → at ≤ length a → Put at xs a n b → Put n ys b k c → Put at (xs ++ ys) a k c
put_join {at} {n} {k} {xs} {ys} {a} room p q = record {
  behind = omega (arith, p.behind, q.behind, length-append xs ys);
  held =
      q.held ∙ ap₂ (λ d m. paste d m (map mark_octet ys) (length ys)) p.held p.behind
      ∙ paste-paste a at (map mark_octet xs) (map mark_octet ys) (length xs) (length ys) (sym (length-map xs mark_octet)) (sym (length-map ys mark_octet)) room
      ∙ ap₂ (paste a at) (sym (map-append mark_octet xs ys)) (sym (length-append xs ys));
}

pub put_same : {at k : ℕ} {xs ys : List Mark} {a c : List ℕ} → xs ≡ ys → Put at xs a k c → Put at ys a k c
put_same {at} {k} {xs} {ys} {a} {c} e p = subst (λ ms. Put at ms a k c) e p

-- marks put from the first octet on
pub put_filled : {n : ℕ} {xs : List Mark} {a b : List ℕ} → Put 0 xs a n b → b ≡ filled xs a
put_filled {n} {xs} {a} p =
    let whole : 0 + length xs ≡ length xs = omega arith in
    p.held ∙ paste_all a 0 (map mark_octet xs) (length xs) (sym (length-map xs mark_octet)) ∙ ap (λ k. map mark_octet xs ++ drop k a) whole
