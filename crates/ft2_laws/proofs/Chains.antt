-- A frame is its start octet and a chain of blocks.
use Rattle.std.proofs.Common.{◌≡◌, ℕ, zero, suc, ◌+◌, ◌-◌, ◌<◌, ◌≤◌, min, cond, eqb, ltb, ◌⊎◌, List, [], ◌∷◌, ◌++◌, length, take, drop, sym, refl, ap, ◌∙◌, subst, ap₂, inl, inr, append_assoc, arith, length-drop, length-take}
use Rattle.std.proofs.lemmas.List.{append-nil, drop_all, take_all, take-append-drop}
use Rattle.std.proofs.lemmas.Bool.{cases_eq, cases_lt, ne_eqb, le-ltb, cond-false}
use Rattle.formats.specs.Laws.{Octets}
use Rattle.formats.specs.Verdicts.{Verdict, open_list, frame_of, Open}
use Rattle.ft2_laws.specs.Faults.{faulty}
use Rattle.ft2_laws.specs.Frames.{check_of, cut_in, first_octet, frame_octets, in_blocks, kind_number, with_check}
use Rattle.ft2_laws.specs.Reading.{start, users, after_block, fixed_block, judge_block, judge_count, next}
use Rattle.ft2_laws.specs.declared.fault.Ft2Fault.TheVariants as fault
use Rattle.ft2_laws.specs.declared.kind.Kind.{Kind}
use Rattle.ft2_laws.specs.declared.kind.Kind.TheVariants as kind
use Rattle.ft2_laws.specs.declared.reading.Block.{Block}
use Rattle.ft2_laws.specs.declared.reading.Block.TheVariants.{Fixed, Header, Body}
use Rattle.ft2_laws.specs.declared.settings.Settings.{Settings}
use Rattle.formats.proofs.Octets.{octets_join}
use Rattle.ft2_laws.proofs.Blocks.{Then, told_of, block_then, block_told, octets_front, octets_back, octets_checked}
use Rattle.checks.specs.Bits.{block_bits}
use Rattle.checks.proofs.Octets.{check_octet_lt}

-- a block and those that follow it, each with its check octet
abbrev pub chained : List ℕ → List (List ℕ) → List ℕ
chained us [] = us ++ (check_of us ∷ [])
chained us (vs ∷ bs) = us ++ (check_of us ∷ chained vs bs)

abbrev pub joined : List (List ℕ) → List ℕ
joined [] = []
joined (vs ∷ bs) = vs ++ joined bs

-- the blocks follow one another, from a block on, to the end of a frame of kind k
abbrev pub Chain : Block → List ℕ → List (List ℕ) → ℕ → Type 0
Chain b us [] k = judge_block b us ≡ frame_of k
Chain b us (vs ∷ bs) k = (judge_block b us ≡ open_list) × ((c : Block) × (after_block b us ≡ users c [] (length vs)) × (length vs ≤ 15) × Chain c vs bs k)

pub octets_chained : (us : List ℕ) (bs : List (List ℕ)) → Octets us → Octets (joined bs) → Octets (chained us bs)
octets_chained us [] a c = octets_checked us a
octets_chained us (vs ∷ bs) a c =
    octets_join us (check_of us ∷ chained vs bs) a (check_octet_lt (block_bits us), octets_chained vs bs (octets_front vs (joined bs) c) (octets_back vs (joined bs) c))

module _ (settings : Settings) where
  pub chain_then : (v : Verdict) (b : Block) (us : List ℕ) (bs : List (List ℕ)) (k : ℕ) → Open v → Chain b us bs k → Then settings v (users b [] (length us)) (chained us bs) (frame_of k)
  chain_then v b us [] k a c = block_then settings v b [] us us [] (frame_of k) refl a c
  chain_then v b us (vs ∷ bs) k a c =
      let (d, on, short, later) = c.1 in
      let rest = chain_then open_list d vs bs k tt later in
      block_then settings v b [] us us (chained vs bs) (frame_of k) refl a
      (subst (λ p. Then settings (judge_block b us) p (chained vs bs) (frame_of k)) (sym on) (subst (λ u. Then settings u (users d [] (length vs)) (chained vs bs) (frame_of k)) (sym c.0) rest))

  pub chain_told : (b : Block) (us : List ℕ) (bs : List (List ℕ)) (k : ℕ) → Chain b us bs k → told_of settings (users b [] (length us)) (chained us bs) ≡ us ++ joined bs
  chain_told b us [] k c = block_told settings b [] us us [] (check_of us) refl
  chain_told b us (vs ∷ bs) k c =
      let (d, on, short, later) = c.1 in
      block_told settings b [] us us (chained vs bs) (check_of us) refl
      ∙ ap (λ p. us ++ told_of settings p (chained vs bs)) on ∙ ap (λ ts. us ++ ts) (chain_told d vs bs k later)

-- Octets cut into blocks.

cut_none : (f : ℕ) → cut_in f [] ≡ []
cut_none zero = refl
cut_none (suc f) = refl

pub fixed_start : (os : List ℕ) → fixed_block (length os) ≡ users (Fixed (length os - 15)) [] (length (take 15 os))
fixed_start os = let count : min (length os) 15 ≡ length (take 15 os) = omega (arith, length-take 15 os) in ap (users (Fixed (length os - 15)) []) count

-- at most 15 octets are one block
pub one_block : (f : ℕ) (os : List ℕ) → 0 < length os → length os ≤ f → length os ≤ 15 → cut_in f os ≡ with_check os
one_block zero os some fits short = absurd (omega arith)
one_block (suc f) [] some fits short = absurd (omega arith)
one_block (suc f) (o ∷ os) some fits short =
    ap₂ (λ x y. with_check x ++ cut_in f y) (take_all 15 (o ∷ os) short) (drop_all 15 (o ∷ os) short)
    ∙ ap (λ x. with_check (o ∷ os) ++ x) (cut_none f) ∙ append-nil (with_check (o ∷ os))

-- the octets of a fixed frame as a chain
pub record FixedChain (f : ℕ) (os : List ℕ) : Type 0 where
  pub others : List (List ℕ)
  pub as_octets : cut_in f os ≡ chained (take 15 os) others
  pub all : take 15 os ++ joined others ≡ os
  pub chain : Chain (Fixed (length os - 15)) (take 15 os) others 1

pub fixed_chain : (f : ℕ) (os : List ℕ) → 0 < length os → length os ≤ f → FixedChain f os
fixed_chain zero os some fits = absurd (omega arith)
fixed_chain (suc f) [] some fits = absurd (omega arith)
fixed_chain (suc f) (o ∷ os) some fits = go (cases_lt 15 (length (o ∷ os))) (fixed_chain f (drop 15 (o ∷ os)))
  where
    xs : List ℕ
    xs = o ∷ os

    ys : List ℕ
    ys = drop 15 xs

    fewer : length ys ≡ length xs - 15
    fewer = length-drop 15 xs

    go : (15 < length xs) ⊎ (length xs ≤ 15) → (0 < length ys → length ys ≤ f → FixedChain f ys) → FixedChain (suc f) xs
    go (inr short) later = record {
      others = [];
      as_octets = one_block (suc f) xs some fits short ∙ ap with_check (sym (take_all 15 xs short));
      all = append-nil (take 15 xs) ∙ take_all 15 xs short;
      chain = let none : length xs - 15 ≡ 0 = omega arith in ap (λ n. judge_block (Fixed n) (take 15 xs)) none;
    }
    go (inl long) later =
        let r = later (omega (arith, fewer)) (omega (arith, fewer)) in
        let more : length xs - 15 ≡ suc (length xs - 16) = omega arith in
        record {
          others = take 15 ys ∷ r.others;
          as_octets = ap (λ x. with_check (take 15 xs) ++ x) r.as_octets ∙ append_assoc (take 15 xs) (check_of (take 15 xs) ∷ []) (chained (take 15 ys) r.others);
          all = ap (λ x. take 15 xs ++ x) r.all ∙ take-append-drop 15 xs;
          chain = (
            ap (λ n. judge_block (Fixed n) (take 15 xs)) more,
            (Fixed (length ys - 15), ap fixed_block (sym fewer) ∙ fixed_start ys, omega (arith, length-take 15 ys), r.chain),
          );
        }

-- Frames as a start octet and a chain.

pub record Framed (settings : Settings) (k : Kind) (os : List ℕ) : Type 0 where
  pub begin : ℕ
  pub block : Block
  pub octets : List ℕ
  pub others : List (List ℕ)
  pub starts : (begin ≡ 0x27) ⊎ (begin ≡ 0x14)
  pub as_octets : frame_octets settings k os ≡ begin ∷ chained octets others
  pub all : octets ++ joined others ≡ os
  pub to_block : next settings start begin ≡ users block [] (length octets)
  pub short : length octets ≤ 15
  pub chain : Chain block octets others (kind_number k)

pub framed_fixed : (settings : Settings) (os : List ℕ) → length os ≡ settings.fixed → Framed settings kind.Fixed os
framed_fixed settings os count =
    let c = fixed_chain (length os) os (omega arith) (omega arith) in
    record {
      begin = 0x27;
      block = Fixed (length os - 15);
      octets = take 15 os;
      others = c.others;
      starts = inl refl;
      as_octets = ap (λ x. 0x27 ∷ x) c.as_octets;
      all = c.all;
      to_block = ap fixed_block (sym count) ∙ fixed_start os;
      short = omega (arith, length-take 15 os);
      chain = c.chain;
    }

pub count_none : (n : ℕ) → n ≡ 0 → judge_count n ≡ frame_of 2
count_none n e = ap judge_count e

pub count_some : (n : ℕ) → 0 < n → n ≤ 15 → judge_count n ≡ open_list
count_some n some few =
    cond-false (ltb 15 n) (faulty fault.BodyCount) (cond (eqb n 0) (frame_of 2) open_list) (le-ltb 15 n few)
    ∙ cond-false (eqb n 0) (frame_of 2) open_list (ne_eqb n 0 (λ e. omega arith))

pub first_taken : (n : ℕ) (os : List ℕ) → 1 ≤ n → first_octet (take n os) ≡ first_octet os
first_taken zero os h = absurd (omega arith)
first_taken (suc n) [] h = refl
first_taken (suc n) (o ∷ os) h = refl

pub framed_variable : (settings : Settings) (os : List ℕ) → settings.header ≤ length os → length os ≤ settings.header + 15 → first_octet os ≡ length os - settings.header → Framed settings kind.Variable os
framed_variable settings os from to first = go (cases_eq (length os) settings.header)
  where
    hs : List ℕ
    hs = take settings.header os

    body : List ℕ
    body = drop settings.header os

    count : length hs ≡ settings.header
    count = length-take settings.header os ∙ omega arith

    named : first_octet hs ≡ length body
    named = first_taken settings.header os settings.limits.2 ∙ first ∙ sym (length-drop settings.header os)

    go : (length os ≡ settings.header) ⊎ (length os ≡ settings.header → ⊥) → Framed settings kind.Variable os
    go (inl e) =
        let nothing : body ≡ [] = drop_all settings.header os (omega arith) in
        record {
          begin = 0x14;
          block = Header;
          octets = hs;
          others = [];
          starts = inr refl;
          as_octets = ap (λ x. 0x14 ∷ (with_check hs ++ in_blocks x)) nothing ∙ ap (λ x. 0x14 ∷ x) (append-nil (with_check hs));
          all = ap (λ x. hs ++ x) (sym nothing) ∙ take-append-drop settings.header os;
          to_block = ap (users Header []) (sym count);
          short = omega (arith, count);
          chain = count_none (first_octet hs) (named ∙ ap length nothing);
        }
    go (inr e) =
        let more : length body ≡ length os - settings.header = length-drop settings.header os in
        record {
          begin = 0x14;
          block = Header;
          octets = hs;
          others = body ∷ [];
          starts = inr refl;
          as_octets = ap (λ x. 0x14 ∷ (with_check hs ++ x)) (one_block (length body) body (omega arith) (omega arith) (omega arith)) ∙ ap (λ x. 0x14 ∷ x) (append_assoc hs (check_of hs ∷ []) (with_check body));
          all = ap (λ x. hs ++ x) (append-nil body) ∙ take-append-drop settings.header os;
          to_block = ap (users Header []) (sym count);
          short = omega (arith, count);
          chain = (count_some (first_octet hs) (omega (arith, named)) (omega (arith, named)), (Body, ap (users Body []) named, omega arith, refl));
        }
