-- A frame with 1 to 3 marks altered breaks.
use Rattle.std.proofs.Common.{◌≡◌, ℕ, zero, suc, ◌+◌, ◌*◌, ◌<◌, ◌≤◌, Bool, cond, eqb, ◌⊎◌, List, [], ◌∷◌, ◌++◌, map, length, take, drop, sym, refl, ap, ◌∙◌, subst, ap₂, inl, inr, append_assoc, arith, length-append, length-drop, length-take}
use Rattle.std.proofs.lemmas.List.{append-nil, take-append-drop}
use Rattle.std.proofs.lemmas.Bool.{cases_eq, ne_eqb, cond-false}
use Rattle.checks.specs.Bits.{block_bits, differences}
use Rattle.checks.specs.Check.{check_bits}
use Rattle.checks.proofs.Distances.{altered_shows, length_check}
use Rattle.checks.proofs.Octets.{check_octet_bits, check_octet_lt}
use Rattle.checks.proofs.Registers.{block_push}
use Rattle.checks.proofs.Words.{length_block}
use Rattle.lines.specs.Characters.{mark_if}
use Rattle.lines.specs.declared.mark.Mark.{Mark}
use Rattle.formats.specs.Laws.{Octets}
use Rattle.formats.specs.Marks.{Altered, changes}
use Rattle.formats.specs.Verdicts.{open_list, Open, Fault}
use Rattle.formats.proofs.Changes.{altered_counts, changes_join, changes_self, none_changed}
use Rattle.formats.proofs.Machines.{Breaks}
use Rattle.ft2_laws.specs.Faults.{faulty}
use Rattle.ft2_laws.specs.Frames.{check_of, frame_octets, marks_of, octet_marks, with_check}
use Rattle.ft2_laws.specs.Reading.{start, users, after_block, judge, judge_block, next, beginning, ft2_machine}
use Rattle.ft2_laws.specs.declared.fault.Ft2Fault.TheVariants as fault
use Rattle.ft2_laws.specs.declared.kind.Kind.{Kind}
use Rattle.ft2_laws.specs.declared.reading.Block.{Block}
use Rattle.ft2_laws.specs.declared.settings.Settings.{Settings}
use Rattle.ft2_laws.proofs.Bits.{length_marks, marks_append, marks_bits}
use Rattle.ft2_laws.proofs.Steps.{octet_breaks, octet_or_breaks}
use Rattle.ft2_laws.proofs.Blocks.{due_fault, due_verdict, octets_front, octets_back}
use Rattle.ft2_laws.proofs.Chains.{Chain, chained, joined, Framed}
use Rattle.ft2_laws.proofs.Counts.{changes_bits}

-- a block and its check octet are sent as the block's bits and its check bits
pub block_marks : (os : List ℕ) → marks_of (with_check os) ≡ map mark_if (block_bits os ++ check_bits (block_bits os))
block_marks os = marks_bits (with_check os) ∙ ap (map mark_if) (block_push os (check_of os) ∙ ap (λ c. block_bits os ++ c) (check_octet_bits (block_bits os)))

-- two blocks of one length, each with its check octet, do not differ in 1 to 3 marks
pub blocks_apart : (us vs : List ℕ) → length us ≤ 15 → length vs ≡ length us → 1 ≤ changes (marks_of (with_check us)) (marks_of (with_check vs)) → changes (marks_of (with_check us)) (marks_of (with_check vs)) < 4 → ⊥
blocks_apart us vs short same some few =
    let u : List Bool = block_bits us in
    let v : List Bool = block_bits vs in
    let lu : length u ≡ 8 * length us = length_block us in
    let lv : length v ≡ 8 * length vs = length_block vs in
    let long : length (u ++ check_bits u) ≡ length (v ++ check_bits v) = omega (arith, length-append u (check_bits u), length-append v (check_bits v), length_check u, length_check v) in
    let count : changes (marks_of (with_check us)) (marks_of (with_check vs)) ≡ differences (u ++ check_bits u) (v ++ check_bits v) =
    ap₂ changes (block_marks us) (block_marks vs) ∙ changes_bits (u ++ check_bits u) (v ++ check_bits v) long in
    altered_shows u v (check_bits v) (omega arith) (omega arith) (length_check v) (omega arith) (omega arith) refl

module _ (settings : Settings) where
  -- marks as many as a block has, with its check octet, break or are such a block
  abbrev IsBlock : List ℕ → ℕ → List Mark → Type 0
  IsBlock before n ms = (vs : List ℕ) × (length vs ≡ n) × (ms ≡ marks_of (vs ++ (check_of (before ++ vs) ∷ [])))

  block_or_breaks : (n : ℕ) (b : Block) (before : List ℕ) (ms rest : List Mark) → length ms ≡ 8 * suc n → Breaks (ft2_machine settings) (beginning (users b before n)) (ms ++ rest) ⊎ IsBlock before n ms
  block_or_breaks zero b before ms rest l = go (octet_or_breaks settings (users b before zero) ms rest (omega arith))
    where
      go : Breaks (ft2_machine settings) (beginning (users b before zero)) (ms ++ rest) ⊎ ((o : ℕ) × (o < 256) × (ms ≡ octet_marks o)) → Breaks (ft2_machine settings) (beginning (users b before zero)) (ms ++ rest) ⊎ IsBlock before zero ms
      go (inl k) = inl k
      go (inr (o, fits, is)) =
          elim (cases_eq o (check_of before)) [
            | inl e ↦ inr ([], refl, is ∙ ap (λ x. octet_marks x) (e ∙ ap check_of (sym (append-nil before))))
            | inr n ↦ inl (subst (λ x. Breaks (ft2_machine settings) (beginning (users b before zero)) (x ++ rest)) (sym is) (octet_breaks settings (users b before zero) o fits rest (inl (subst Fault (sym (due_fault o (check_of before) (judge_block b before) fault.CheckOctet n)) tt))))
          ]
  block_or_breaks (suc n) b before ms rest l = go (octet_or_breaks settings (users b before (suc n)) (take 8 ms) (drop 8 ms ++ rest) (length-take 8 ms ∙ omega arith)) (λ o. block_or_breaks n b (before ++ (o ∷ [])) (drop 8 ms) rest (length-drop 8 ms ∙ omega arith))
    where
      apart : take 8 ms ++ (drop 8 ms ++ rest) ≡ ms ++ rest
      apart = sym (append_assoc (take 8 ms) (drop 8 ms) rest) ∙ ap (λ x. x ++ rest) (take-append-drop 8 ms)

      later : (o : ℕ) → o < 256 → take 8 ms ≡ octet_marks o → Breaks (ft2_machine settings) (beginning (users b (before ++ (o ∷ [])) n)) (drop 8 ms ++ rest) ⊎ IsBlock (before ++ (o ∷ [])) n (drop 8 ms) → Breaks (ft2_machine settings) (beginning (users b before (suc n))) (ms ++ rest) ⊎ IsBlock before (suc n) ms
      later o fits is (inl k) =
          inl (subst (Breaks (ft2_machine settings) (beginning (users b before (suc n)))) apart (subst (λ x. Breaks (ft2_machine settings) (beginning (users b before (suc n))) (x ++ (drop 8 ms ++ rest))) (sym is) (octet_breaks settings (users b before (suc n)) o fits (drop 8 ms ++ rest) (inr (tt, k)))))
      later o fits is (inr (vs, count, are)) =
          inr (o ∷ vs, ap suc count, sym (take-append-drop 8 ms) ∙ ap₂ (λ x y. x ++ y) is are ∙ ap (λ x. octet_marks o ++ marks_of (vs ++ (check_of x ∷ []))) (append_assoc before (o ∷ []) vs))

      go : Breaks (ft2_machine settings) (beginning (users b before (suc n))) (take 8 ms ++ (drop 8 ms ++ rest)) ⊎ ((o : ℕ) × (o < 256) × (take 8 ms ≡ octet_marks o))
          → ((o : ℕ) → Breaks (ft2_machine settings) (beginning (users b (before ++ (o ∷ [])) n)) (drop 8 ms ++ rest) ⊎ IsBlock (before ++ (o ∷ [])) n (drop 8 ms))
          → Breaks (ft2_machine settings) (beginning (users b before (suc n))) (ms ++ rest) ⊎ IsBlock before (suc n) ms
      go (inl k) more = inl (subst (Breaks (ft2_machine settings) (beginning (users b before (suc n)))) apart k)
      go (inr (o, fits, is)) more = later o fits is (more o)

  -- a block with 1 to 3 marks altered breaks
  block_shows : (b : Block) (us : List ℕ) (ms rest : List Mark) → length us ≤ 15 → length ms ≡ length (marks_of (with_check us)) → 1 ≤ changes (marks_of (with_check us)) ms → changes (marks_of (with_check us)) ms < 4 → Breaks (ft2_machine settings) (beginning (users b [] (length us))) (ms ++ rest)
  block_shows b us ms rest short l some few =
      go (block_or_breaks (length us) b [] ms rest (l ∙ length_marks (with_check us) ∙ ap (λ n. 8 * n) (length-append us (check_of us ∷ []) ∙ omega arith)))
    where
      go : Breaks (ft2_machine settings) (beginning (users b [] (length us))) (ms ++ rest) ⊎ IsBlock [] (length us) ms → Breaks (ft2_machine settings) (beginning (users b [] (length us))) (ms ++ rest)
      go (inl k) = k
      go (inr (vs, count, are)) =
          absurd (blocks_apart us vs short count (subst (λ x. 1 ≤ changes (marks_of (with_check us)) x) are some) (subst (λ x. changes (marks_of (with_check us)) x < 4) are few))

  -- behind a block as it was sent, what breaks later breaks
  block_passes : (b : Block) (before us all : List ℕ) (rest : List Mark) → all ≡ before ++ us → Octets us → Open (judge_block b all) → Breaks (ft2_machine settings) (beginning (after_block b all)) rest → Breaks (ft2_machine settings) (beginning (users b before (length us))) (marks_of (us ++ (check_of all ∷ [])) ++ rest)
  block_passes b before [] all rest e are o k =
      let same : all ≡ before = e ∙ append-nil before in
      octet_breaks settings (users b before zero) (check_of all) (check_octet_lt (block_bits all)) rest (inr (
        subst Open (sym (due_verdict (check_of all) (check_of before) (judge_block b before) fault.CheckOctet (ap check_of same))) (subst (λ x. Open (judge_block b x)) same o),
        subst (λ x. Breaks (ft2_machine settings) (beginning (after_block b x)) rest) same k,
      ))
  block_passes b before (u ∷ us) all rest e are o k =
      octet_breaks settings (users b before (length (u ∷ us))) u are.0 (marks_of (us ++ (check_of all ∷ [])) ++ rest)
      (inr (tt, block_passes b (before ++ (u ∷ [])) us all rest (e ∙ sym (append_assoc before (u ∷ []) us)) are.1 o k))

  -- a chain of blocks with 1 to 3 marks altered breaks
  chain_shows : (b : Block) (us : List ℕ) (bs : List (List ℕ)) (k : ℕ) (heard : List Mark) → Chain b us bs k → Octets us → Octets (joined bs) → length us ≤ 15 → length heard ≡ length (marks_of (chained us bs)) → 1 ≤ changes (marks_of (chained us bs)) heard → changes (marks_of (chained us bs)) heard < 4 → Breaks (ft2_machine settings) (beginning (users b [] (length us))) heard
  chain_shows b us [] k heard c are later_are short l some few =
      subst (Breaks (ft2_machine settings) (beginning (users b [] (length us)))) (append-nil heard) (block_shows b us heard [] short l some few)
  chain_shows b us (vs ∷ bs) k heard c are later_are short l some few = go (cases_eq (changes here h1) 0) (chain_shows c.1.0 vs bs k h2 c.1.3 (octets_front vs (joined bs) later_are) (octets_back vs (joined bs) later_are) c.1.2)
    where
      here : List Mark
      here = marks_of (with_check us)

      there : List Mark
      there = marks_of (chained vs bs)

      h1 : List Mark
      h1 = take (length here) heard

      h2 : List Mark
      h2 = drop (length here) heard

      sent : marks_of (chained us (vs ∷ bs)) ≡ here ++ there
      sent = ap marks_of (sym (append_assoc us (check_of us ∷ []) (chained vs bs))) ∙ marks_append (with_check us) (chained vs bs)

      total : length heard ≡ length here + length there
      total = l ∙ ap length sent ∙ length-append here there

      l1 : length h1 ≡ length here
      l1 = length-take (length here) heard ∙ omega (arith, total)

      l2 : length h2 ≡ length there
      l2 = length-drop (length here) heard ∙ omega (arith, total)

      heard_is : h1 ++ h2 ≡ heard
      heard_is = take-append-drop (length here) heard

      count : changes (marks_of (chained us (vs ∷ bs))) heard ≡ changes here h1 + changes there h2
      count = ap₂ changes sent (sym heard_is) ∙ changes_join here there h1 h2 l1

      go : (changes here h1 ≡ 0) ⊎ (changes here h1 ≡ 0 → ⊥)
          → (length h2 ≡ length there → 1 ≤ changes there h2 → changes there h2 < 4 → Breaks (ft2_machine settings) (beginning (users c.1.0 [] (length vs))) h2)
          → Breaks (ft2_machine settings) (beginning (users b [] (length us))) heard
      go (inr other) later =
          subst (Breaks (ft2_machine settings) (beginning (users b [] (length us)))) heard_is (block_shows b us h1 h2 short l1 (omega (arith, count)) (omega (arith, count)))
      go (inl none) later =
          let k = later l2 (omega (arith, count)) (omega (arith, count)) in
          subst (Breaks (ft2_machine settings) (beginning (users b [] (length us)))) (ap (λ x. x ++ h2) (none_changed here h1 l1 none) ∙ heard_is)
          (block_passes b [] us us h2 refl are (subst Open (sym c.0) tt) (subst (λ p. Breaks (ft2_machine settings) (beginning p) h2) (sym c.1.1) k))

  -- the start octet
  start_fault : (o : ℕ) → (o ≡ 0x27 → ⊥) → (o ≡ 0x14 → ⊥) → Fault (judge start o)
  start_fault o n m =
      subst Fault (sym (cond-false (eqb o 0x27) open_list (cond (eqb o 0x14) open_list (faulty fault.StartOctet)) (ne_eqb o 0x27 n) ∙ due_fault o 0x14 open_list fault.StartOctet m)) tt

  start_open : (o : ℕ) → (o ≡ 0x27) ⊎ (o ≡ 0x14) → Open (judge start o)
  start_open o (inl e) = subst (λ x. Open (judge start x)) (sym e) tt
  start_open o (inr e) = subst (λ x. Open (judge start x)) (sym e) tt

  -- the two start octets differ in four marks: altered in fewer, one of them is neither
  start_apart : (s o : ℕ) → (s ≡ 0x27) ⊎ (s ≡ 0x14) → (o ≡ s → ⊥) → changes (octet_marks s) (octet_marks o) < 4 → Fault (judge start o)
  start_apart s o (inl e) other few =
      start_fault o (λ x. other (x ∙ sym e)) (λ x. let four : changes (octet_marks s) (octet_marks o) ≡ 4 = ap₂ (λ y z. changes (octet_marks y) (octet_marks z)) e x in omega arith)
  start_apart s o (inr e) other few =
      start_fault o (λ x. let four : changes (octet_marks s) (octet_marks o) ≡ 4 = ap₂ (λ y z. changes (octet_marks y) (octet_marks z)) e x in omega arith) (λ x. other (x ∙ sym e))

  -- a frame with 1 to 3 marks altered breaks
  pub frame_shows : (k : Kind) (os : List ℕ) (heard : List Mark) → Framed settings k os → Octets os → Altered 4 (marks_of (frame_octets settings k os)) heard → Breaks (ft2_machine settings) (beginning start) heard
  frame_shows k os heard f are altered = go (octet_or_breaks settings start h1 h2 l1)
    where
      s : ℕ
      s = f.begin

      there : List Mark
      there = marks_of (chained f.octets f.others)

      h1 : List Mark
      h1 = take 8 heard

      h2 : List Mark
      h2 = drop 8 heard

      facts : (length heard ≡ length (octet_marks s ++ there)) × (1 ≤ changes (octet_marks s ++ there) heard) × (changes (octet_marks s ++ there) heard < 4)
      facts = altered_counts 4 (octet_marks s ++ there) heard (subst (λ x. Altered 4 (marks_of x) heard) f.as_octets altered)

      l1 : length h1 ≡ 8
      l1 = length-take 8 heard ∙ omega (arith, facts.0)

      l2 : length h2 ≡ length there
      l2 = length-drop 8 heard ∙ omega (arith, facts.0)

      heard_is : h1 ++ h2 ≡ heard
      heard_is = take-append-drop 8 heard

      count : changes (octet_marks s ++ there) heard ≡ changes (octet_marks s) h1 + changes there h2
      count = ap (changes (octet_marks s ++ there)) (sym heard_is) ∙ changes_join (octet_marks s) there h1 h2 l1

      are_all : Octets (f.octets ++ joined f.others)
      are_all = subst Octets (sym f.all) are

      here : (o : ℕ) → o < 256 → h1 ≡ octet_marks o → (o ≡ s) ⊎ (o ≡ s → ⊥) → Breaks (ft2_machine settings) (beginning start) (octet_marks o ++ h2)
      here o fits is (inr other) =
          octet_breaks settings start o fits h2 (inl (start_apart s o f.starts other (subst (λ x. changes (octet_marks s) x < 4) is (omega (arith, count, facts.2)))))
      here o fits is (inl e) =
          let none : changes (octet_marks s) h1 ≡ 0 = ap (changes (octet_marks s)) (is ∙ ap octet_marks e) ∙ changes_self (octet_marks s) in
          let later = chain_shows f.block f.octets f.others _ h2 f.chain (octets_front f.octets (joined f.others) are_all) (octets_back f.octets (joined f.others) are_all) f.short l2 (omega (arith, count, facts.1)) (omega (arith, count, facts.2)) in
          octet_breaks settings start o fits h2 (inr (start_open o (subst (λ x. (x ≡ 0x27) ⊎ (x ≡ 0x14)) (sym e) f.starts), subst (λ p. Breaks (ft2_machine settings) (beginning p) h2) (sym (ap (next settings start) e ∙ f.to_block)) later))

      go : Breaks (ft2_machine settings) (beginning start) (h1 ++ h2) ⊎ ((o : ℕ) × (o < 256) × (h1 ≡ octet_marks o)) → Breaks (ft2_machine settings) (beginning start) heard
      go (inl b) = subst (Breaks (ft2_machine settings) (beginning start)) heard_is b
      go (inr (o, fits, is)) = subst (Breaks (ft2_machine settings) (beginning start)) (ap (λ x. x ++ h2) (sym is) ∙ heard_is) (here o fits is (cases_eq o s))
