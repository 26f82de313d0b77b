-- Only frames are read as frames.
use Rattle.std.proofs.Common.{◌≡◌, ℕ, zero, suc, ◌+◌, ◌-◌, ◌<◌, ◌≤◌, min, true, cond, eqb, ltb, leb, ◌⊎◌, List, [], ◌∷◌, ◌++◌, length, take, drop, sym, refl, ap, ◌∙◌, subst, ap₂, inl, inr, append_assoc, arith, length-append}
use Rattle.std.proofs.lemmas.List.{append-nil, drop_at, take_at}
use Rattle.std.proofs.lemmas.Bool.{and_from, cases_eq, cases_lt, cond-false, cond-true, eq-eqb, le-leb, lt-ltb, ne_eqb}
use Rattle.formats.specs.Laws.{Octets}
use Rattle.formats.specs.Verdicts.{Verdict, open_list, frame_of, Open}
use Rattle.ft2_laws.specs.Faults.{faulty}
use Rattle.ft2_laws.specs.Frames.{check_of, count_suits, cut_in, first_octet, first_suits, frame_octets, in_blocks, kind_number, with_check}
use Rattle.ft2_laws.specs.Reading.{Place, start, users, after_block, fixed_block, judge, judge_block, judge_count, next}
use Rattle.ft2_laws.specs.declared.fault.Ft2Fault.TheVariants as fault
use Rattle.ft2_laws.specs.declared.kind.Kind.{Kind}
use Rattle.ft2_laws.specs.declared.kind.Kind.TheVariants as kind
use Rattle.ft2_laws.specs.declared.reading.Block.TheVariants.{Fixed, Header, Body}
use Rattle.ft2_laws.specs.declared.settings.Settings.{Settings}
use Rattle.formats.proofs.Octets.{octets_join}
use Rattle.ft2_laws.proofs.Blocks.{Then, BlockOnly, block_only, due_fault, octets_front, octets_back, then_no_fault}
use Rattle.ft2_laws.proofs.Chains.{Framed, chained, count_none, count_some, joined, one_block}

-- one block more
cut_more : (f : ℕ) (us vs : List ℕ) → length us ≡ 15 → cut_in (suc f) (us ++ vs) ≡ with_check us ++ cut_in f vs
cut_more f [] vs l = absurd (omega arith)
cut_more f (u ∷ us) vs l = ap₂ (λ x y. with_check x ++ cut_in f y) (take_at (u ∷ us) vs 15 l) (drop_at (u ∷ us) vs 15 l)

module _ (settings : Settings) where
  -- behind the verdict of a frame nothing is read
  then_frame : (n k : ℕ) (v : Verdict) (p : Place) (os : List ℕ) → v ≡ frame_of n → Then settings v p os (frame_of k) → (os ≡ []) × (k ≡ n)
  then_frame n k v p [] e t = (refl, cc)
  then_frame n k v p (o ∷ os) e t = absurd (subst Open e t.0)

  abbrev FixedOnly : ℕ → ℕ → List ℕ → ℕ → Type 0
  FixedOnly f n os k = (us : List ℕ) × (length us ≡ n) × (os ≡ cut_in f us) × (k ≡ 1)

  fixed_only : (f n : ℕ) (v : Verdict) (os : List ℕ) (k : ℕ) → 0 < n → n ≤ f → (v ≡ frame_of k → ⊥) → Then settings v (fixed_block n) os (frame_of k) → FixedOnly f n os k
  fixed_only zero n v os k some fits none t = absurd (omega arith)
  fixed_only (suc f) n v os k some fits none t = go (cases_lt 15 n) (fixed_only f (n - 15) open_list r.rest k)
    where
      r : BlockOnly settings (Fixed (n - 15)) [] (min n 15) os k
      r = block_only settings (min n 15) v (Fixed (n - 15)) [] os k none t

      go : (15 < n) ⊎ (n ≤ 15)
          → (0 < n - 15 → n - 15 ≤ f → (open_list ≡ frame_of k → ⊥) → Then settings open_list (fixed_block (n - 15)) r.rest (frame_of k) → FixedOnly f (n - 15) r.rest k)
          → FixedOnly (suc f) n os k
      go (inr short) later =
          let count : length r.block ≡ n = r.as_many ∙ omega arith in
          let none_left : n - 15 ≡ 0 = omega arith in
          let end = then_frame 1 k (judge_block (Fixed (n - 15)) r.block) (fixed_block (n - 15)) r.rest (ap (λ x. judge_block (Fixed x) r.block) none_left) r.goes_on in
          (r.block, count, r.whole_is ∙ ap (λ x. r.block ++ (check_of r.block ∷ x)) end.0 ∙ sym (one_block (suc f) r.block (omega arith) (omega arith) (omega arith)), end.1)
      go (inl long) later =
          let count : length r.block ≡ 15 = r.as_many ∙ omega arith in
          let more : n - 15 ≡ suc (n - 16) = omega arith in
          let (us, as_many, are, one) = later (omega arith) (omega arith) (λ e. cc) (subst (λ u. Then settings u (fixed_block (n - 15)) r.rest (frame_of k)) (ap (λ x. judge_block (Fixed x) r.block) more) r.goes_on) in (
            r.block ++ us,
            length-append r.block us ∙ omega arith,
            r.whole_is ∙ ap (λ x. r.block ++ (check_of r.block ∷ x)) are ∙ sym (append_assoc r.block (check_of r.block ∷ []) (cut_in f us)) ∙ sym (cut_more f r.block us count),
            one,
          )

  first_joined : (hs os : List ℕ) → 1 ≤ length hs → first_octet (hs ++ os) ≡ first_octet hs
  first_joined [] os h = absurd (omega arith)
  first_joined (o ∷ hs) os h = refl

  record VariableOnly (os : List ℕ) (k : ℕ) : Type 0 where
    users_are : List ℕ
    from : settings.header ≤ length users_are
    to : length users_are ≤ settings.header + 15
    first : first_octet users_are ≡ length users_are - settings.header
    whole_is : os ≡ with_check (take settings.header users_are) ++ in_blocks (drop settings.header users_are)
    of_kind : k ≡ 2

  variable_only : (v : Verdict) (os : List ℕ) (k : ℕ) → (v ≡ frame_of k → ⊥) → Then settings v (users Header [] settings.header) os (frame_of k) → VariableOnly os k
  variable_only v os k none t = go (cases_lt 15 n) (cases_eq n 0)
    where
      r : BlockOnly settings Header [] settings.header os k
      r = block_only settings settings.header v Header [] os k none t

      hs : List ℕ
      hs = r.block

      n : ℕ
      n = first_octet hs

      front : (body : List ℕ) → take settings.header (hs ++ body) ≡ hs
      front body = take_at hs body settings.header r.as_many

      back : (body : List ℕ) → drop settings.header (hs ++ body) ≡ body
      back body = drop_at hs body settings.header r.as_many

      -- a header and its body
      made : (body : List ℕ) → length body ≡ n → n ≤ 15 → os ≡ with_check hs ++ in_blocks body → k ≡ 2 → VariableOnly os k
      made body count few are two = record {
        users_are = hs ++ body;
        from = omega (arith, length-append hs body, r.as_many);
        to = omega (arith, length-append hs body, r.as_many);
        first = first_joined hs body (omega (arith, r.as_many)) ∙ omega (arith, length-append hs body, r.as_many);
        whole_is = are ∙ sym (ap₂ (λ x y. with_check x ++ in_blocks y) (front body) (back body));
        of_kind = two;
      }

      go : (15 < n) ⊎ (n ≤ 15) → (n ≡ 0) ⊎ (n ≡ 0 → ⊥) → VariableOnly os k
      go (inl many) z =
          absurd (then_no_fault settings (judge_count n) (users Body [] n) r.rest k fault.BodyCount (cond-true (ltb 15 n) (faulty fault.BodyCount) (cond (eqb n 0) (frame_of 2) open_list) (lt-ltb 15 n many)) r.goes_on)
      go (inr few) (inl z) =
          let end = then_frame 2 k (judge_count n) (users Body [] n) r.rest (count_none n z) r.goes_on in
          made [] (sym z) few (r.whole_is ∙ ap (λ x. hs ++ (check_of hs ∷ x)) end.0 ∙ sym (append-nil (with_check hs))) end.1
      go (inr few) (inr some) =
          let q = block_only settings n open_list Body [] r.rest k (λ e. cc) (subst (λ u. Then settings u (users Body [] n) r.rest (frame_of k)) (count_some n (omega arith) few) r.goes_on) in
          let end = then_frame 2 k (frame_of 2) (after_block Body q.block) q.rest refl q.goes_on in
          let body : List ℕ = q.block in
          let count : length body ≡ n = q.as_many in
          let one : in_blocks body ≡ with_check body = one_block (length body) body (omega arith) (omega arith) (omega arith) in
          made body count few
          (r.whole_is ∙ ap (λ x. hs ++ (check_of hs ∷ x)) (q.whole_is ∙ ap (λ x. body ++ (check_of body ∷ x)) end.0 ∙ sym one) ∙ sym (append_assoc hs (check_of hs ∷ []) (in_blocks body)))
          end.1

  -- octets that are read as a frame are the frame of a kind and of user octets that suit it
  pub record FrameOnly (os : List ℕ) (n : ℕ) : Type 0 where
    pub of_kind : Kind
    pub users_are : List ℕ
    pub numbered : n ≡ kind_number of_kind
    pub whole_is : os ≡ frame_octets settings of_kind users_are
    pub count : count_suits settings of_kind (length users_are) ≡ true
    pub first : first_suits settings of_kind users_are ≡ true

  pub frames_only : (os : List ℕ) (n : ℕ) → Then settings open_list start os (frame_of n) → FrameOnly os n
  frames_only [] n t = cc
  frames_only (o ∷ os) n t = go (cases_eq o 0x27) (cases_eq o 0x14)
    where
      go : (o ≡ 0x27) ⊎ (o ≡ 0x27 → ⊥) → (o ≡ 0x14) ⊎ (o ≡ 0x14 → ⊥) → FrameOnly (o ∷ os) n
      go (inl e) z =
          let rest = subst (λ x. Then settings (judge start x) (next settings start x) os (frame_of n)) e t.1 in
          let (us, as_many, are, one) = fixed_only settings.fixed settings.fixed open_list os n settings.limits.0 (omega arith) (λ e. cc) rest in
          record {
            of_kind = kind.Fixed;
            users_are = us;
            numbered = one;
            whole_is = ap₂ (λ x y. x ∷ y) e (are ∙ ap (λ f. cut_in f us) (sym as_many));
            count = eq-eqb (length us) settings.fixed as_many;
            first = refl;
          }
      go (inr a) (inl e) =
          let rest = subst (λ x. Then settings (judge start x) (next settings start x) os (frame_of n)) e t.1 in
          let r = variable_only open_list os n (λ e. cc) rest in
          let us : List ℕ = r.users_are in
          record {
            of_kind = kind.Variable;
            users_are = us;
            numbered = r.of_kind;
            whole_is = ap₂ (λ x y. x ∷ y) e r.whole_is;
            count = and_from (leb settings.header (length us)) (leb (length us) (settings.header + 15)) (le-leb settings.header (length us) r.from) (le-leb (length us) (settings.header + 15) r.to);
            first = eq-eqb (first_octet us) (length us - settings.header) r.first;
          }
      go (inr a) (inr b) =
          absurd (then_no_fault settings (judge start o) (next settings start o) os n fault.StartOctet (cond-false (eqb o 0x27) open_list _ (ne_eqb o 0x27 a) ∙ due_fault o 0x14 open_list fault.StartOctet b) t.1)

-- the user octets of a frame are octets
chained_octets : (us : List ℕ) (bs : List (List ℕ)) → Octets (chained us bs) → Octets (us ++ joined bs)
chained_octets us [] a = octets_join us [] (octets_front us (check_of us ∷ []) a) tt
chained_octets us (vs ∷ bs) a = octets_join us (joined (vs ∷ bs)) (octets_front us (check_of us ∷ chained vs bs) a) (chained_octets vs bs (octets_back us (check_of us ∷ chained vs bs) a).1)

pub framed_octets : (settings : Settings) (k : Kind) (os : List ℕ) → Framed settings k os → Octets (frame_octets settings k os) → Octets os
framed_octets settings k os f a = subst Octets f.all (chained_octets f.octets f.others (subst Octets f.as_octets a).1)
