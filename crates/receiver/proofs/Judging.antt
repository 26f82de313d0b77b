-- One mark more in an open list, by what the format answers.
use Rattle.std.proofs.Common.{◌≡◌, ℕ, ◌<◌, List, [], ◌∷◌, ◌++◌, length, set, Some, None, Ok, Err, Option, Result, sym, refl, ap, ◌∙◌, subst, arith}
use Rattle.std.proofs.lemmas.List.{append-nil, length_push}
use Rattle.lines.specs.declared.mark.Mark.{Mark}
use Rattle.formats.specs.Answers.{Added, Tells, list_after}
use Rattle.formats.specs.Laws.{Laws, Model}
use Rattle.formats.specs.Marks.{Begins}
use Rattle.formats.specs.Verdicts.{Open, OpenAlong, Verdict, fault_of, frame_of, octet_told, open_list, tells, told_along}
use Rattle.formats.specs.declared.fault.Fault.{Ghosts as Faults}
use Rattle.formats.specs.declared.format.Progress.{Progress}
use Rattle.formats.specs.declared.format.Progress.TheVariants as progress
use Rattle.formats.specs.declared.format.ReadFormat.{Ghosts as Reads}
use Rattle.hearing.proofs.Verdicts.{open_snoc, told_snoc}
use Rattle.hearing.specs.Rules.{Step, comes_to, count_told, judged, within}
use Rattle.hearing.specs.Rules as rules
use Rattle.hearing.specs.declared.answer.Ending.{Ending}
use Rattle.hearing.specs.declared.answer.Ending.TheVariants as ending
use Rattle.hearing.specs.declared.fault.ReceiverFault.{ReceiverFault}
use Rattle.receiver.proofs.Stages.{Stands, stands_resting}
use Rattle.receiver.specs.Stages.{kept, list_kept, with_mark, with_octet}
use Rattle.receiver.specs.Steps.{EndedBy, Judges}
use Rattle.receiver.specs.declared.receiver.Receiver.{Receiver}
use Rattle.receiver.specs.declared.stage.OpenList.{OpenList}
use Rattle.receiver.specs.declared.stage.Stage.{Stage}
use Rattle.receiver.specs.declared.stage.Stage.TheVariants as stage

module _ {F E : Type 0} (read : Reads F E) (fault : Faults E) (f f' : F) (mark : Mark) (so_far : OpenList) (run : ℕ) where
  abbrev m : Model
  m = read.model f

  -- a stage with an answer and a buffer is what a step comes to
  pub record Follows (s : Stage) (answer : Option (Ending (ReceiverFault E))) (buffer' : List ℕ) (step : Step) : Type 0 where
    pub stands : Stands read.model read.stands f' s step.hearer.stage
    pub run_counts : run ≡ step.hearer.run
    pub buffer_is : step.hearer.buffer ≡ buffer'
    pub ended : EndedBy fault.cause step.event answer

  -- for each list of which so much is kept
  abbrev pub Following : Stage → Option (Ending (ReceiverFault E)) → List ℕ → List ℕ → Type 0
  Following s answer buffer buffer' =
      (list : List Mark) → read.stands f list → OpenAlong m.verdict [] list → Begins (list ++ (mark ∷ [])) → so_far ≡ list_kept m list
      → Follows s answer buffer' (judged m list run buffer mark)

  module _ (laws : Laws (read.model f)) (same : read.model f' ≡ read.model f) (answered : Result Progress E) (added : Added fault.cause (read.stands f) (read.stands f') (read.model f).verdict mark answered) where
    -- a list that goes on
    module _ (list : List Mark) (opened : OpenAlong m.verdict [] list) (begins : Begins (list ++ (mark ∷ []))) (is : so_far ≡ list_kept m list) (w : Verdict) (e : m.verdict (list ++ (mark ∷ [])) ≡ w) (still : Open w) where
      longer : OpenAlong m.verdict [] (list ++ (mark ∷ []))
      longer = open_snoc m.verdict mark [] list opened (subst Open (sym e) still)

      told : count_told m (list ++ (mark ∷ [])) ≡ length (told_along m.verdict [] list ++ octet_told w)
      told = ap length (told_snoc m.verdict mark [] list) ∙ ap (λ u. length (told_along m.verdict [] list ++ octet_told u)) e

      short : so_far.marks < 65535
      short = omega (arith, laws.open_is_short (list ++ (mark ∷ [])) begins longer, length_push list mark, ap (λ l. l.marks) is)

      -- an octet that is told is numbered below 255
      few : (octet : ℕ) → w ≡ tells octet → so_far.octets < 255
      few octet ew =
          let all = laws.few_told (list ++ (mark ∷ [])) begins longer in
          let more = told ∙ ap (λ u. length (told_along m.verdict [] list ++ octet_told u)) ew ∙ length_push (told_along m.verdict [] list) octet in
          omega (arith, all, more, ap (λ l. l.octets) is)

      goes_on : (l : OpenList) → l ≡ list_kept m (list ++ (mark ∷ [])) → read.stands f' (list ++ (mark ∷ [])) → Stands read.model read.stands f' (stage.Open l) (within (list ++ (mark ∷ [])))
      goes_on l el st =
          record { stage_kept = ap stage.Open (el ∙ ap (λ k. list_kept k (list ++ (mark ∷ []))) (sym same)); list_stands = st; sound = (begins, subst (λ k. OpenAlong k.verdict [] (list ++ (mark ∷ []))) (sym same) longer) }

    -- by the verdict
    abbrev By : Stage → Option (Ending (ReceiverFault E)) → List ℕ → List ℕ → Type 0
    By s answer buffer buffer' =
        (list : List Mark) → OpenAlong m.verdict [] list → Begins (list ++ (mark ∷ [])) → so_far ≡ list_kept m list
        → (w : Verdict) → m.verdict (list ++ (mark ∷ [])) ≡ w → Tells fault.cause w answered → read.stands f' (list_after w (list ++ (mark ∷ [])))
        → Follows s answer buffer' (comes_to m.gap run buffer (length list) (count_told m list) (list ++ (mark ∷ [])) w)

    follow : (s : Stage) (answer : Option (Ending (ReceiverFault E))) (buffer buffer' : List ℕ) → By s answer buffer buffer' → Following s answer buffer buffer'
    follow s answer buffer buffer' by list st o b is = let p = added.judged list st b in by list o b is (m.verdict (list ++ (mark ∷ []))) refl p.0 p.1

    pub open_follows : answered ≡ Ok progress.Open → (l : OpenList) → (so_far.marks < 65535 → l ≡ with_mark so_far) → (buffer : List ℕ) → Following (stage.Open l) None buffer buffer
    open_follows ea l fits buffer = follow _ _ buffer buffer by
      where
        by : By (stage.Open l) None buffer buffer
        by list o b is open_list e t st =
            let none = told list o b is open_list e tt ∙ ap length (append-nil (told_along m.verdict [] list)) in
            let one = length_push list mark in
            let el = fits (short list o b is open_list e tt) in
            record { stands = goes_on list o b is open_list e tt l (cc) st; run_counts = refl; buffer_is = refl; ended = refl }
        by list o b is (tells octet) e t st = cc
        by list o b is (frame_of kind) e t st = cc
        by list o b is (fault_of why) e t st = let q = t.1 in cc

    pub octet_follows : (octet : ℕ) → answered ≡ Ok (progress.Octet octet) → (l : OpenList) → (so_far.marks < 65535 → so_far.octets < 255 → l ≡ with_octet (with_mark so_far)) → (buffer buffer' : List ℕ)
        → (so_far.marks < 65535 → so_far.octets < 255 → buffer' ≡ set buffer so_far.octets octet) → Following (stage.Open l) None buffer buffer'
    octet_follows octet ea l fits buffer buffer' writes = follow _ _ buffer buffer' by
      where
        by : By (stage.Open l) None buffer buffer'
        by list o b is (tells octet') e t st =
            let here : octet ≡ octet' = cc in
            let more = told list o b is (tells octet') e tt ∙ length_push (told_along m.verdict [] list) octet' in
            let one = length_push list mark in
            let room = short list o b is (tells octet') e tt in
            let number = few list o b is (tells octet') e tt octet' refl in
            let el = fits room number in
            let written = writes room number in
            record { stands = goes_on list o b is (tells octet') e tt l (cc) st; run_counts = refl; buffer_is = cc; ended = refl }
        by list o b is open_list e t st = cc
        by list o b is (frame_of kind) e t st = cc
        by list o b is (fault_of why) e t st = let q = t.1 in cc

    pub frame_follows : (kind : ℕ) → answered ≡ Ok (progress.Frame kind) → (buffer : List ℕ) → Following (stage.Holding kind so_far.octets) (Some (ending.Frame kind so_far.octets)) buffer buffer
    frame_follows kind ea buffer = follow _ _ buffer buffer by
      where
        by : By (stage.Holding kind so_far.octets) (Some (ending.Frame kind so_far.octets)) buffer buffer
        by list o b is (frame_of kind') e t st =
            let here : kind ≡ kind' = cc in
            record { stands = record { stage_kept = cc; list_stands = st; sound = tt }; run_counts = refl; buffer_is = refl; ended = cc }
        by list o b is open_list e t st = cc
        by list o b is (tells octet) e t st = cc
        by list o b is (fault_of why) e t st = let q = t.1 in cc

    pub fault_follows : (x : E) → answered ≡ Err x → (s : Stage) → s ≡ kept (read.model f') (rules.resting m.gap run) → (x' : ReceiverFault E) → x'.fault ≡ x → x'.place ≡ so_far.marks → (buffer : List ℕ) → Following s (Some (ending.Fault x')) buffer buffer
    fault_follows x ea s es x' ex ep buffer = follow _ _ buffer buffer by
      where
        by : By s (Some (ending.Fault x')) buffer buffer
        by list o b is (fault_of why) e t st =
            let (y, ey, ew) = t in
            let here : x ≡ y = cc in
            let place : x'.place ≡ length list = cc in
            let caused : fault.cause x'.fault ≡ why = ap fault.cause (ex ∙ here) ∙ ew in
            record { stands = stands_resting read.model read.stands f' s m.gap run es st; run_counts = refl; buffer_is = refl; ended = cc }
        by list o b is open_list e t st = cc
        by list o b is (tells octet) e t st = cc
        by list o b is (frame_of kind) e t st = cc

pub judges_following : {F E : Type 0} (read : Reads F E) (fault : Faults E) (r : Receiver F) (f' : F) (same : read.model f' ≡ read.model r.format) (s : Stage) (mark : Mark) (so_far : OpenList) (answer : Option (Ending (ReceiverFault E))) (buffer buffer' : List ℕ)
    → Following read fault r.format f' mark so_far r.run s answer buffer buffer' → Judges fault.cause read.model read.stands mark so_far r (record { format = f'; stage = s; run = r.run }) buffer buffer' answer
judges_following read fault r f' same s mark so_far answer buffer buffer' go =
    record {
      same_format = same;
      each = λ list st o b is.
          let p = go list st o b is in
          (record { stage_kept = p.stands.stage_kept; run_kept = p.run_counts; buffer_kept = p.buffer_is; list_stands = p.stands.list_stands; sound = p.stands.sound }, p.ended);
    }
