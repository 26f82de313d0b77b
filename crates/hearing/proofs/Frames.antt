-- From a quiet gap to the frame behind it, mark by mark.
use Rattle.std.proofs.Common.{◌≡◌, ℕ, zero, suc, ◌+◌, ◌<◌, ◌≤◌, List, [], ◌∷◌, ◌++◌, length, take, drop, set, sym, refl, ap, ◌∙◌, subst, arith}
use Rattle.std.proofs.lemmas.List.{append_assoc, append-nil, length_push, take_more_set}
use Rattle.lines.specs.declared.mark.Mark.{Mark}
use Rattle.lines.specs.declared.mark.Mark.TheVariants.{Zero, One}
use Rattle.formats.specs.Laws.{Laws, Model}
use Rattle.formats.specs.Marks.{Begins, ones}
use Rattle.formats.specs.Verdicts.{JudgedAlong, Verdict, Open, OpenAlong, octet_told, open_list, tells, frame_of, fault_of, told_along}
use Rattle.hearing.specs.Promise.{Entry, HandedOver, handed, no_frame}
use Rattle.hearing.specs.Rules.{Hearer, Stage, Step, by_stage, comes_to, count_told, hears, holding, judged, ready, run_after, waiting, within}
use Rattle.hearing.proofs.Gap.{Passing, Set, passed, passing_one}
use Rattle.hearing.proofs.Traces.{Free, Trace, entry, stop, mark, free}
use Rattle.hearing.proofs.Verdicts.{begins_more, open_snoc, told_snoc}

module _ (m : Model) (laws : Laws m) (kind : ℕ) (octets : List ℕ) where
  -- a list that is a part of the frame: what is to come closes it as that frame, and its octets are in the buffer
  pub record Part (done rest : List Mark) (buffer : List ℕ) : Type 0 where
    pub judges : JudgedAlong m.verdict done rest (frame_of kind)
    pub opened : OpenAlong m.verdict [] done
    pub all_told : told_along m.verdict [] done ++ told_along m.verdict done rest ≡ octets
    pub kept : take (count_told m done) buffer ≡ told_along m.verdict [] done

  -- at the frame's last mark
  at_last : (done : List Mark) (x : Mark) (run : ℕ) (buffer : List ℕ) (s : Step) → s ≡ judged m done run buffer x → Part done (x ∷ []) buffer → entry s ≡ handed kind octets
  at_last done x run buffer s e p =
      let v = m.verdict in
      let whole : s ≡ comes_to m.gap run buffer (length done) (count_told m done) (done ++ (x ∷ [])) (frame_of kind) = e ∙ ap (comes_to m.gap run buffer (length done) (count_told m done) (done ++ (x ∷ []))) p.judges in
      let told : told_along v [] done ≡ octets = sym (append-nil (told_along v [] done)) ∙ ap (λ w. told_along v [] done ++ (octet_told w ++ [])) (sym p.judges) ∙ p.all_told in
      ap entry whole ∙ ap (handed kind) (p.kept ∙ told)

  module _ (done : List Mark) (x y : Mark) (ys : List Mark) (run : ℕ) (buffer : List ℕ) (room : 255 ≤ length buffer) (begins : Begins (done ++ (x ∷ []))) (p : Part done (x ∷ (y ∷ ys)) buffer) where
    opened_more : OpenAlong m.verdict [] (done ++ (x ∷ []))
    opened_more = open_snoc m.verdict x [] done p.opened p.judges.0

    told_more : (w : Verdict) → m.verdict (done ++ (x ∷ [])) ≡ w → told_along m.verdict [] (done ++ (x ∷ [])) ≡ told_along m.verdict [] done ++ octet_told w
    told_more w e = told_snoc m.verdict x [] done ∙ ap (λ u. told_along m.verdict [] done ++ octet_told u) e

    all_more : told_along m.verdict [] (done ++ (x ∷ [])) ++ told_along m.verdict (done ++ (x ∷ [])) (y ∷ ys) ≡ octets
    all_more =
        ap (λ t. t ++ told_along m.verdict (done ++ (x ∷ [])) (y ∷ ys)) (told_snoc m.verdict x [] done)
        ∙ append_assoc (told_along m.verdict [] done) (octet_told (m.verdict (done ++ (x ∷ [])))) (told_along m.verdict (done ++ (x ∷ [])) (y ∷ ys))
        ∙ p.all_told

    -- at an earlier mark of the frame
    pub record GoesOn (s : Step) : Type 0 where
      pub silent : entry s ≡ no_frame
      pub on : s.hearer.stage ≡ within (done ++ (x ∷ []))
      pub part : Part (done ++ (x ∷ [])) (y ∷ ys) s.hearer.buffer

    goes_on : (w : Verdict) → m.verdict (done ++ (x ∷ [])) ≡ w → GoesOn (comes_to m.gap run buffer (length done) (count_told m done) (done ++ (x ∷ [])) w)
    goes_on open_list e =
        let told = told_more open_list e ∙ append-nil (told_along m.verdict [] done) in
        record { silent = refl; on = refl; part = record { judges = p.judges.1; opened = opened_more; all_told = all_more; kept = ap (λ t. take (length t) buffer) told ∙ p.kept ∙ sym told } }
    goes_on (tells octet) e =
        let told = told_more (tells octet) e in
        let few : length (told_along m.verdict [] (done ++ (x ∷ []))) ≤ 255 = laws.few_told (done ++ (x ∷ [])) begins opened_more in
        let longer : length (told_along m.verdict [] (done ++ (x ∷ []))) ≡ count_told m done + 1 = ap length told ∙ length_push (told_along m.verdict [] done) octet in
        let space : count_told m done < length buffer = omega arith in
        record { silent = refl; on = refl; part = record { judges = p.judges.1; opened = opened_more; all_told = all_more; kept = ap (λ n. take n (set buffer (count_told m done) octet)) longer ∙ take_more_set buffer (count_told m done) octet space ∙ ap (λ t. t ++ (octet ∷ [])) p.kept ∙ sym told } }
    goes_on (frame_of k) e = absurd (subst Open e p.judges.0)
    goes_on (fault_of c) e = absurd (subst Open e p.judges.0)

  -- along the frame from any of its marks on
  abbrev pub Along : Hearer → List Mark → List Entry → Type 0
  Along a ms h = (done rest more : List Mark) → ms ≡ rest ++ more → a.stage ≡ within done → Begins done → Part done rest a.buffer → HandedOver rest kind octets h

  along_one : (done : List Mark) (a : Hearer) (x x' : Mark) (ms rest more : List Mark) (h : List Entry) (run : ℕ) (s : Step) → 255 ≤ length a.buffer → s ≡ judged m done run a.buffer x → x ∷ ms ≡ x' ∷ (rest ++ more) → Begins (done ++ (x' ∷ [])) → Part done (x' ∷ rest) a.buffer → Along s.hearer ms h → HandedOver (x' ∷ rest) kind octets (entry s ∷ h)
  along_one done a x x' ms [] more h run s room e same begins p go =
      let first : x ≡ x' = cc in
      at_last done x' run a.buffer s (e ∙ ap (judged m done run a.buffer) first) p
  along_one done a x x' ms (y ∷ ys) more h run s room e same begins p go =
      let first : x ≡ x' = cc in
      let later : ms ≡ y ∷ (ys ++ more) = cc in
      let here = e ∙ ap (judged m done run a.buffer) first in
      let g = subst (GoesOn done x' y ys run a.buffer room begins p) (sym here) (goes_on done x' y ys run a.buffer room begins p (m.verdict (done ++ (x' ∷ []))) refl) in
      (g.silent, go (done ++ (x' ∷ [])) (y ∷ ys) more later g.on begins g.part)

  along_mark : (a : Hearer) (x : Mark) (ms : List Mark) (h : List Entry) → 255 ≤ length a.buffer → Along (hears m a x).hearer ms h → Along a (x ∷ ms) (entry (hears m a x) ∷ h)
  along_mark a x ms h room go done [] more same on begins p = tt
  along_mark a x ms h room go done (x' ∷ rest) more same on begins p =
      along_one done a x x' ms rest more h (run_after m.gap a.run x) (hears m a x) room (ap (λ s. by_stage m s (run_after m.gap a.run x) a.buffer x) on) same (begins_more done (x' ∷ []) begins) p go

  pub along_frame : {a b : Hearer} {ms ns : List Mark} {h : List Entry} → Trace m a ms h b ns → Along a ms h
  along_frame stop = λ done rest more same on begins p. tt
  along_frame {a} (mark {x = x} {ms = ms} {h = h} f l t) = along_mark a x ms h l (along_frame t)
  along_frame (free k c held t) = λ done rest more same on begins p. cc

  module _ (rest : List Mark) (whole : Part [] (Zero ∷ rest) []) where
    -- from a receiver that is ready, or will be once it is released
    abbrev pub Start : Hearer → List Mark → List Entry → Type 0
    Start a ms h = (more : List Mark) → ms ≡ Zero ∷ (rest ++ more) → Set a.stage → HandedOver (Zero ∷ rest) kind octets h

    begin : (buffer : List ℕ) → Part [] (Zero ∷ rest) buffer
    begin buffer = record { judges = whole.judges; opened = tt; all_told = whole.all_told; kept = refl }

    first : (s : Stage) (a : Hearer) (x : Mark) (ms : List Mark) (h : List Entry) → a.stage ≡ s → Free s → 255 ≤ length a.buffer → Along (hears m a x).hearer ms h → Set s → (more : List Mark) → x ∷ ms ≡ Zero ∷ (rest ++ more) → HandedOver (Zero ∷ rest) kind octets (entry (hears m a x) ∷ h)
    first waiting a x ms h e f room go set more same = absurd set
    first ready a x ms h e f room go set more same =
        let zero : x ≡ Zero = cc in
        let opens : hears m a x ≡ judged m [] (run_after m.gap a.run x) a.buffer Zero = ap (λ s. by_stage m s (run_after m.gap a.run x) a.buffer x) e ∙ ap (by_stage m ready (run_after m.gap a.run x) a.buffer) zero in
        along_one [] a Zero Zero ms rest more h (run_after m.gap a.run x) (hears m a x) room opens (ap (λ y. y ∷ ms) (sym zero) ∙ same) tt (begin a.buffer) go
    first (within list) a x ms h e f room go set more same = absurd set
    first (holding k c) a x ms h e f room go set more same = absurd f

    pub start_frame : {a b : Hearer} {ms ns : List Mark} {h : List Entry} → Trace m a ms h b ns → Start a ms h
    start_frame stop = λ more same set. tt
    start_frame {a} (mark {x = x} {ms = ms} {h = h} f l t) = λ more same set. first a.stage a x ms h refl f l (along_frame t) set more same
    start_frame (free k c held t) = λ more same set. start_frame t more same tt

    -- through the gap, of which k marks are to come and j are taken
    abbrev pub Through : Hearer → List Mark → List Entry → Type 0
    Through a ms h = (k j : ℕ) (more : List Mark) → ms ≡ ones k ++ (Zero ∷ (rest ++ more)) → j + k ≡ m.gap → Passing m j a.run a.stage → HandedOver (Zero ∷ rest) kind octets (drop k h)

    over : (a : Hearer) (ms : List Mark) (h : List Entry) → Start a ms h → (j : ℕ) (more : List Mark) → ms ≡ Zero ∷ (rest ++ more) → j + 0 ≡ m.gap → Passing m j a.run a.stage → HandedOver (Zero ∷ rest) kind octets h
    over a ms h start j more same sum p =
        let all : j ≡ m.gap = omega arith in
        start more same (passed m laws a.run a.stage (subst (λ i. Passing m i a.run a.stage) all p))

    stopped : (a : Hearer) (ms : List Mark) → Through a ms []
    stopped a ms zero j more same sum p = tt
    stopped a ms (suc k) j more same sum p = tt

    through_mark : (a : Hearer) (x : Mark) (ms : List Mark) (h : List Entry) → Start a (x ∷ ms) (entry (hears m a x) ∷ h) → Through (hears m a x).hearer ms h → Through a (x ∷ ms) (entry (hears m a x) ∷ h)
    through_mark a x ms h start go zero j more same sum p = over a (x ∷ ms) (entry (hears m a x) ∷ h) start j more same sum p
    through_mark a x ms h start go (suc k) j more same sum p =
        let one : x ≡ One = cc in
        let later : ms ≡ ones k ++ (Zero ∷ (rest ++ more)) = cc in
        let less : j < m.gap = omega arith in
        let next = passing_one m j a less p in
        go k (suc j) more later (omega arith) (subst (λ y. Passing m (suc j) (hears m a y).hearer.run (hears m a y).hearer.stage) (sym one) next)

    pub through_gap : {a b : Hearer} {ms ns : List Mark} {h : List Entry} → Trace m a ms h b ns → Through a ms h
    through_gap {a} {b} {ms} stop = stopped a ms
    through_gap {a} (mark {x = x} {ms = ms} {h = h} f l t) = through_mark a x ms h (start_frame (mark f l t)) (through_gap t)
    through_gap (free k c held t) = λ n j more same sum p. through_gap t n j more same sum tt
