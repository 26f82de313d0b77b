-- The laws of a format that judges mark by mark, told by its states, are the format's laws.
use Rattle.std.proofs.Common.{◌≡◌, ℕ, ◌<◌, ◌≤◌, ◌⊎◌, List, [], ◌∷◌, ◌++◌, length, Ok, Result, sym, refl, ap, ◌∙◌, subst, inl, inr, append_assoc}
use Rattle.lines.specs.declared.mark.Mark.{Mark}
use Rattle.lines.specs.declared.mark.Mark.TheVariants.{Zero, One, Bad}
use Rattle.formats.specs.Answers.{Added, Tells, list_after}
use Rattle.formats.specs.Laws.{Model, Lawful, Laws}
use Rattle.formats.specs.Machine.{Machine, reached, Opened, StandsFor}
use Rattle.formats.specs.Marks.{Altered, Begins, Quiet, behind_first, ones}
use Rattle.formats.specs.declared.format.Progress.{Progress}
use Rattle.formats.specs.declared.format.Progress.TheVariants as progress
use Rattle.formats.specs.Verdicts.{Cause, Verdict, Open, Fault, open_list, tells, frame_of, fault_of, octet_told, OpenAlong, JudgedAlong, FaultAlong, told_along}

-- a fault here, or open here and a break later
abbrev pub BreaksBy : Verdict → Type 0 → Type 0
BreaksBy v X = Fault v ⊎ (Open v × X)

module _ {S : Type 0} (t : Machine S) where
  -- every mark but the last leaves the list open, and at the last it is judged w
  abbrev pub Judged : S → List Mark → Verdict → Type 0
  Judged s [] w = ⊥
  Judged s (m ∷ []) w = t.says s m ≡ w
  Judged s (m ∷ (n ∷ ms)) w = Open (t.says s m) × Judged (t.after s m) (n ∷ ms) w

  -- one of the marks brings a fault, and those before it leave the list open
  abbrev pub Breaks : S → List Mark → Type 0
  Breaks s [] = ⊥
  Breaks s (m ∷ ms) = Fault (t.says s m) ⊎ (Open (t.says s m) × Breaks (t.after s m) ms)

  -- the octets that the marks tell
  abbrev pub told : S → List Mark → List ℕ
  told s [] = []
  told s (m ∷ ms) = octet_told (t.says s m) ++ told (t.after s m) ms

  pub reached_join : (s : S) (ms ns : List Mark) → reached t s (ms ++ ns) ≡ reached t (reached t s ms) ns
  reached_join s [] ns = refl
  reached_join s (m ∷ ms) ns = reached_join (t.after s m) ms ns

  pub opened_join : (s : S) (ms ns : List Mark) → Opened t s ms → Opened t (reached t s ms) ns → Opened t s (ms ++ ns)
  opened_join s [] ns a b = b
  opened_join s (m ∷ ms) ns a b = (a.0, opened_join (t.after s m) ms ns a.1 b)

begins_first : (done : List Mark) (m : Mark) (ms : List Mark) → Begins (done ++ (m ∷ ms)) → Begins (done ++ (m ∷ []))
begins_first [] Zero ms b = tt
begins_first [] One ms b = b
begins_first [] Bad ms b = tt
begins_first (Zero ∷ done) m ms b = tt
begins_first (One ∷ done) m ms b = b
begins_first (Bad ∷ done) m ms b = tt

-- the machine says of a list what the format says of it
abbrev pub Agrees : {S : Type 0} → Machine S → (List Mark → Verdict) → Type 0
Agrees t v = (done : List Mark) (m : Mark) → Begins (done ++ (m ∷ [])) → Opened t t.start done → v (done ++ (m ∷ [])) ≡ t.says (reached t t.start done) m

module _ {S : Type 0} (t : Machine S) (v : List Mark → Verdict) (agrees : Agrees t v) where
  one_more : (done : List Mark) (m : Mark) (ms : List Mark) → Begins (done ++ (m ∷ ms)) → Begins ((done ++ (m ∷ [])) ++ ms)
  one_more done m ms b = subst Begins (sym (append_assoc done (m ∷ []) ms)) b

  here : S → List Mark → S
  here s done = reached t s done

  next : (done : List Mark) (m : Mark) → reached t t.start (done ++ (m ∷ [])) ≡ t.after (reached t t.start done) m
  next done m = reached_join t t.start done (m ∷ [])

  step : (done : List Mark) (m : Mark) → Opened t t.start done → Open (t.says (reached t t.start done) m) → Opened t t.start (done ++ (m ∷ []))
  step done m a b = opened_join t t.start done (m ∷ []) a (b, tt)

  pub open_to : (done ms : List Mark) → Begins (done ++ ms) → Opened t t.start done → OpenAlong v done ms → Opened t (reached t t.start done) ms
  open_to done [] b a o = tt
  open_to done (m ∷ ms) b a o =
      let now = subst Open (agrees done m (begins_first done m ms b) a) o.0 in
      (now, subst (λ s. Opened t s ms) (next done m) (open_to (done ++ (m ∷ [])) ms (one_more done m ms b) (step done m a now) o.1))

  pub open_from : (done ms : List Mark) → Begins (done ++ ms) → Opened t t.start done → Opened t (reached t t.start done) ms → OpenAlong v done ms
  open_from done [] b a o = tt
  open_from done (m ∷ ms) b a o =
      (subst Open (sym (agrees done m (begins_first done m ms b) a)) o.0, open_from (done ++ (m ∷ [])) ms (one_more done m ms b) (step done m a o.0) (subst (λ s. Opened t s ms) (sym (next done m)) o.1))

  pub judged_to : (done ms : List Mark) (w : Verdict) → Begins (done ++ ms) → Opened t t.start done → JudgedAlong v done ms w → Judged t (reached t t.start done) ms w
  judged_to done [] w b a j = j
  judged_to done (m ∷ []) w b a j = sym (agrees done m b a) ∙ j
  judged_to done (m ∷ (n ∷ ms)) w b a j =
      let now = subst Open (agrees done m (begins_first done m (n ∷ ms) b) a) j.0 in
      (now, subst (λ s. Judged t s (n ∷ ms) w) (next done m) (judged_to (done ++ (m ∷ [])) (n ∷ ms) w (one_more done m (n ∷ ms) b) (step done m a now) j.1))

  pub judged_from : (done ms : List Mark) (w : Verdict) → Begins (done ++ ms) → Opened t t.start done → Judged t (reached t t.start done) ms w → JudgedAlong v done ms w
  judged_from done [] w b a j = j
  judged_from done (m ∷ []) w b a j = agrees done m b a ∙ j
  judged_from done (m ∷ (n ∷ ms)) w b a j =
      (subst Open (sym (agrees done m (begins_first done m (n ∷ ms) b) a)) j.0, judged_from (done ++ (m ∷ [])) (n ∷ ms) w (one_more done m (n ∷ ms) b) (step done m a j.0) (subst (λ s. Judged t s (n ∷ ms) w) (sym (next done m)) j.1))

  pub breaks_from : (done ms : List Mark) → Begins (done ++ ms) → Opened t t.start done → Breaks t (reached t t.start done) ms → FaultAlong v done ms
  breaks_from done [] b a k = k
  breaks_from done (m ∷ ms) b a (inl f) = inl (subst Fault (sym (agrees done m (begins_first done m ms b) a)) f)
  breaks_from done (m ∷ ms) b a (inr k) =
      inr (subst Open (sym (agrees done m (begins_first done m ms b) a)) k.0, breaks_from (done ++ (m ∷ [])) ms (one_more done m ms b) (step done m a k.0) (subst (λ s. Breaks t s ms) (sym (next done m)) k.1))

  -- along marks that stay open, the format tells what the machine tells
  pub told_open : (done ms : List Mark) → Begins (done ++ ms) → Opened t t.start done → Opened t (reached t t.start done) ms → told_along v done ms ≡ told t (reached t t.start done) ms
  told_open done [] b a o = refl
  told_open done (m ∷ ms) b a o =
      let now = agrees done m (begins_first done m ms b) a in
      let rest = told_open (done ++ (m ∷ [])) ms (one_more done m ms b) (step done m a o.0) (subst (λ s. Opened t s ms) (sym (next done m)) o.1) in
      ap (λ w. octet_told w ++ told_along v (done ++ (m ∷ [])) ms) now ∙ ap (λ os. octet_told (t.says (reached t t.start done) m) ++ os) (rest ∙ ap (λ s. told t s ms) (next done m))

  -- and so along marks that come to a verdict at the last
  pub told_judged : (done ms : List Mark) (w : Verdict) → Begins (done ++ ms) → Opened t t.start done → Judged t (reached t t.start done) ms w → told_along v done ms ≡ told t (reached t t.start done) ms
  told_judged done [] w b a j = refl
  told_judged done (m ∷ []) w b a j = ap (λ u. octet_told u ++ []) (agrees done m b a)
  told_judged done (m ∷ (n ∷ ms)) w b a j =
      let now = agrees done m (begins_first done m (n ∷ ms) b) a in
      let rest = told_judged (done ++ (m ∷ [])) (n ∷ ms) w (one_more done m (n ∷ ms) b) (step done m a j.0) (subst (λ s. Judged t s (n ∷ ms) w) (sym (next done m)) j.1) in
      ap (λ u. octet_told u ++ told_along v (done ++ (m ∷ [])) (n ∷ ms)) now ∙ ap (λ os. octet_told (t.says (reached t t.start done) m) ++ os) (rest ∙ ap (λ s. told t s (n ∷ ms)) (next done m))

-- the laws of a format, told by the states of a machine
pub record MachineLaws {S : Type 0} (t : Machine S) (f : Model) : Type 0 where
  pub gap_least : 1 ≤ f.gap
  pub distance_least : 2 ≤ f.distance
  pub begins : (kind : ℕ) (octets : List ℕ) → Lawful f kind octets → (rest : List Mark) × (f.frame kind octets ≡ Zero ∷ rest)
  pub frame_reads : (kind : ℕ) (octets : List ℕ) → Lawful f kind octets → Judged t t.start (f.frame kind octets) (frame_of kind) × (told t t.start (f.frame kind octets) ≡ octets)
  pub only_frames : (marks : List Mark) (kind : ℕ) → Begins marks → Judged t t.start marks (frame_of kind) → Lawful f kind (told t t.start marks) × (marks ≡ f.frame kind (told t t.start marks))
  pub alteration_shows : (kind : ℕ) (octets : List ℕ) (heard : List Mark) → Lawful f kind octets → Altered f.distance (f.frame kind octets) heard → Breaks t t.start heard
  pub gap_closes : (marks : List Mark) → Begins marks → Opened t t.start marks → Opened t (reached t t.start marks) (ones f.gap) → ⊥
  pub no_gap_within : (kind : ℕ) (octets : List ℕ) (heard : List Mark) → Lawful f kind octets → Altered f.distance (f.frame kind octets) heard → Quiet f.gap (behind_first heard) → ⊥
  pub open_is_short : (marks : List Mark) → Begins marks → Opened t t.start marks → length marks < 65535
  pub few_told : (marks : List Mark) → Begins marks → Opened t t.start marks → length (told t t.start marks) ≤ 255

begins_altered : (d : ℕ) (sent heard rest : List Mark) → sent ≡ Zero ∷ rest → Altered d sent heard → Begins heard
begins_altered d sent heard rest e a = go heard (subst (λ s. Altered d s heard) e a)
  where
    go : (h : List Mark) → Altered d (Zero ∷ rest) h → Begins h
    go [] x = x
    go (n ∷ ns) x = subst (λ k. Begins (k ∷ ns)) (sym x.0) tt

begins_zero : (marks rest : List Mark) → marks ≡ Zero ∷ rest → Begins marks
begins_zero marks rest e = subst Begins (sym e) tt

begins_longer : (ms ns : List Mark) → Begins ms → Begins (ms ++ ns)
begins_longer [] ns b = absurd b
begins_longer (Zero ∷ ms) ns b = tt
begins_longer (One ∷ ms) ns b = b
begins_longer (Bad ∷ ms) ns b = tt

pub laws_of : {S : Type 0} (t : Machine S) (f : Model) → Agrees t f.verdict → MachineLaws t f → Laws f
laws_of t f agrees l = record {
  gap_least = l.gap_least;
  distance_least = l.distance_least;
  begins = l.begins;
  frame_reads = λ kind octets lawful.
      let b = l.begins kind octets lawful in
      let starts = begins_zero (f.frame kind octets) b.0 b.1 in
      let r = l.frame_reads kind octets lawful in
      record {
        judged = judged_from t f.verdict agrees [] (f.frame kind octets) (frame_of kind) starts tt r.0;
        told = told_judged t f.verdict agrees [] (f.frame kind octets) (frame_of kind) starts tt r.0 ∙ r.1;
      };
  only_frames = λ marks kind octets b r.
      let j = judged_to t f.verdict agrees [] marks (frame_of kind) b tt r.judged in
      let same = sym (told_judged t f.verdict agrees [] marks (frame_of kind) b tt j) ∙ r.told in
      let o = l.only_frames marks kind b j in
      (subst (Lawful f kind) same o.0, o.1 ∙ ap (f.frame kind) same);
  alteration_shows = λ kind octets heard lawful a.
      let b = l.begins kind octets lawful in
      let starts = begins_altered f.distance (f.frame kind octets) heard b.0 b.1 a in
      breaks_from t f.verdict agrees [] heard starts tt (l.alteration_shows kind octets heard lawful a);
  gap_closes = λ marks b o quiet.
      let opened = open_to t f.verdict agrees [] marks b tt o in
      l.gap_closes marks b opened (open_to t f.verdict agrees marks (ones f.gap) (begins_longer marks (ones f.gap) b) opened quiet);
  no_gap_within = l.no_gap_within;
  open_is_short = λ marks b o. l.open_is_short marks b (open_to t f.verdict agrees [] marks b tt o);
  few_told = λ marks b o.
      let opened = open_to t f.verdict agrees [] marks b tt o in
      subst (λ os. length os ≤ 255) (sym (told_open t f.verdict agrees [] marks b tt opened)) (l.few_told marks b opened);
}

begins_front : (m : Mark) (ms ns : List Mark) → Begins ((m ∷ ms) ++ ns) → Begins (m ∷ ms)
begins_front Zero ms ns b = tt
begins_front One ms ns b = b
begins_front Bad ms ns b = tt

-- the state after a verdict: on while the list is open, else the start again
abbrev pub state_after : {S : Type 0} → Verdict → S → S → S
state_after open_list next start = next
state_after (tells octet) next start = next
state_after (frame_of kind) next start = start
state_after (fault_of why) next start = start

-- adding a mark to a state does what adding it to the lists does for which the state stands
module _ {S : Type 0} (t : Machine S) (v : List Mark → Verdict) (agrees : Agrees t v) (leaves : (ms : List Mark) → Begins ms → Opened t t.start ms → reached t t.start ms ≡ t.start → ⊥) where
  not_idle : (s : S) (ms : List Mark) (m : Mark) → StandsFor t s ms → Begins (ms ++ (m ∷ [])) → s ≡ t.start → m ≡ One → ⊥
  not_idle s [] m st b e one = subst (λ k. Begins (k ∷ [])) one b
  not_idle s (n ∷ ms) m st b e one = leaves (n ∷ ms) (begins_front n ms (m ∷ []) b) st.1 (st.0 ∙ e)

  goes_on : (s next : S) (ms : List Mark) (m : Mark) → StandsFor t s ms → Open (t.says s m) → next ≡ t.after s m → StandsFor t next (ms ++ (m ∷ []))
  goes_on s next ms m st o n = (
    reached_join t t.start ms (m ∷ []) ∙ ap (λ k. t.after k m) st.0 ∙ sym n,
    opened_join t t.start ms (m ∷ []) st.1 (subst (λ k. Open (t.says k m)) (sym st.0) o, tt),
  )

  stands_after : (s next : S) (ms : List Mark) (m : Mark) (w : Verdict) → StandsFor t s ms → t.says s m ≡ w → next ≡ state_after w (t.after s m) t.start → StandsFor t next (list_after w (ms ++ (m ∷ [])))
  stands_after s next ms m open_list st e n = goes_on s next ms m st (subst Open (sym e) tt) n
  stands_after s next ms m (tells octet) st e n = goes_on s next ms m st (subst Open (sym e) tt) n
  stands_after s next ms m (frame_of kind) st e n = (sym n, tt)
  stands_after s next ms m (fault_of why) st e n = (sym n, tt)

  pub added_of : {E : Type 0} (cause : E → Cause) (s next : S) (m : Mark) (r : Result Progress E)
      → (s ≡ t.start → m ≡ One → (r ≡ Ok progress.Open) × (next ≡ t.start))
      → ((s ≡ t.start → m ≡ One → ⊥) → Tells cause (t.says s m) r × (next ≡ state_after (t.says s m) (t.after s m) t.start))
      → Added cause (StandsFor t s) (StandsFor t next) v m r
  added_of cause s next m r idle judged = record {
    idle = λ st one. let i = idle (sym st.0) one in (i.0, (sym i.1, tt));
    judged = λ ms st b.
        let j = judged (not_idle s ms m st b) in
        let same = agrees ms m b st.1 ∙ ap (λ k. t.says k m) st.0 in (
          subst (λ w. Tells cause w r) (sym same) j.0,
          stands_after s next ms m (v (ms ++ (m ∷ []))) st (sym same) (j.1 ∙ ap (λ w. state_after w (t.after s m) t.start) (sym same)),
        );
  }
