-- A mark added to the reader is a mark added to the lists that it stands for.
use Rattle.std.proofs.Common.{◌≡◌, true, false, Ok, Result, sym, refl, ap, ◌∙◌, subst}
use Rattle.lines.specs.declared.mark.Mark.{Mark}
use Rattle.lines.specs.declared.mark.Mark.TheVariants.{One}
use Rattle.formats.specs.Answers.{Added, Tells}
use Rattle.formats.specs.Verdicts.{Verdict, Open, open_list, tells, frame_of, fault_of}
use Rattle.formats.specs.declared.format.Progress.{Progress}
use Rattle.formats.specs.declared.format.Progress.TheVariants as progress
use Rattle.formats.proofs.Machines.{added_of, state_after}
use Rattle.ft2_laws.specs.Faults.{ft2_cause}
use Rattle.ft2_laws.specs.Reading.{Place, Reading, start, user, check, after_at, beginning, ft2_machine, judge_list, says_at}
use Rattle.ft2_laws.specs.declared.fault.Ft2Fault.{Ft2Fault}
use Rattle.ft2_laws.specs.declared.reading.Part.{Part}
use Rattle.ft2_laws.specs.declared.reading.Part.TheVariants.{First}
use Rattle.ft2_laws.specs.declared.settings.Settings.{Settings}
use Rattle.ft2_laws.proofs.Agreement.{agrees, leaves}
use Rattle.ft2.specs.Standing.{AtRest, Holds, Standing, Takes, closes, position_of}
use Rattle.ft2.specs.declared.reader.Position.TheVariants as position
use Rattle.ft2.specs.declared.reader.Reader.{Reader}

-- at rest the reader holds the beginning, and only there
pub rest_start : (r : Reader) (s : Reading) → Holds r s → AtRest r → s ≡ beginning start
rest_start r s h rest = go s.place s.part (sym h.at_place.position_is ∙ rest.0) (sym h.part_is ∙ rest.1)
  where
    go : (p : Place) (a : Part) → position_of p ≡ position.Start → a ≡ First → ◌≡◌ {A = Reading} (record { place = p; part = a }) (beginning start)
    go start a e f = ap (λ x. record { place = start; part = x }) f
    go (user b os left) a e f = cc
    go (check b os) a e f = cc

pub start_rest : (r : Reader) (s : Reading) → Holds r s → s ≡ beginning start → AtRest r
start_rest r s h e = (h.at_place.position_is ∙ ap (λ x. position_of x.place) e, h.part_is ∙ ap (λ x. x.part) e)

module _ (settings : Settings) where
  -- a 1 at rest
  pub adding_idle : (r : Reader) (m : Mark) → AtRest r → m ≡ One → Added ft2_cause (Standing settings r) (Standing settings r) (judge_list settings start) m (Ok progress.Open)
  adding_idle r m rest one = record {
    idle = λ st e. (refl, st);
    judged = λ ms st b.
        let (s, holds, stands) = st in
        let a = added_of (ft2_machine settings) (judge_list settings start) (agrees settings) (leaves settings) ft2_cause s (beginning start) m (Ok progress.Open) (λ e o. (refl, refl)) (λ other. absurd (other (rest_start r s holds rest) one)) in
        let j = a.judged ms stands b in
        (j.0, (beginning start, subst (Holds r) (rest_start r s holds rest) holds, j.1));
  }

  -- what the reader holds after a mark
  held : (taken after : Reader) (s : Reading) (m : Mark) (r : Result Progress Ft2Fault) (w : Verdict) → Tells ft2_cause w r → (Open w → Holds taken (after_at settings s.place s.part m)) → (closes r ≡ true → Holds after (beginning start)) → (closes r ≡ false → after ≡ taken) → Holds after (state_after w (after_at settings s.place s.part m) (beginning start))
  held taken after s m r open_list t on shut go = subst (λ x. Holds x (after_at settings s.place s.part m)) (sym (go (ap closes t))) (on tt)
  held taken after s m r (tells o) t on shut go = subst (λ x. Holds x (after_at settings s.place s.part m)) (sym (go (ap closes t))) (on tt)
  held taken after s m r (frame_of k) t on shut go = shut (ap closes t)
  held taken after s m r (fault_of c) t on shut go = shut (ap closes t.1)

  -- any other mark
  pub adding_taken : (before taken after : Reader) (m : Mark) (r : Result Progress Ft2Fault) → (AtRest before × (m ≡ One) → ⊥) → Takes settings before m r taken → (closes r ≡ true → Holds after (beginning start)) → (closes r ≡ false → after ≡ taken) → Added ft2_cause (Standing settings before) (Standing settings after) (judge_list settings start) m r
  adding_taken before taken after m r other takes shut go = record {
    idle = λ st one. let (s, holds, stands) = st in absurd (other (start_rest before s holds (sym stands.0), one));
    judged = λ ms st b.
        let (s, holds, stands) = st in
        let w : Verdict = says_at s.place s.part m in
        let t = takes s holds in
        let next : Reading = state_after w (after_at settings s.place s.part m) (beginning start) in
        let a = added_of (ft2_machine settings) (judge_list settings start) (agrees settings) (leaves settings) ft2_cause s next m r (λ e one. absurd (other (start_rest before s holds e, one))) (λ k. (t.0, refl)) in
        let j = a.judged ms stands b in
        (j.0, (next, held taken after s m r w t.0 t.1 shut go, j.1));
  }
