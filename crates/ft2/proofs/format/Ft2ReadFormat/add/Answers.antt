use Rattle.std.proofs.Common.{sym, refl}
use Rattle.std.proofs.lemmas.Bool.{both_ways}
use Rattle.ft2.specs.Standing.{closes}
use Rattle.ft2.proofs.Adding.{adding_idle, adding_taken}
use Rattle.ft2.proofs.format.Ft2ReadFormat.add.Goals as goal

pub returns-then-is_idle-clause-added : goal.returns-then-is_idle-clause-added
returns-then-is_idle-clause-added c =
    let (rest, one) = c.is_idle.ensures.0 c.if-is_idle.true in
    adding_idle c.args.self.now.settings c.args.self.now.reader c.args.mark rest one

pub returns-then-is_closed-clause-added : goal.returns-then-is_closed-clause-added
returns-then-is_closed-clause-added c =
    adding_taken c.args.self.now.settings c.args.self.now.reader c.take-taken.new.self c.new-self.result c.args.mark c.take-taken.result
    (λ idle. both_ways c.is_idle.result c.if-is_idle.false (c.is_idle.ensures.1 idle))
    c.take-taken.ensures
    (λ k. c.new-self.ensures)
    (λ k. absurd (both_ways (closes c.take-taken.result) k (sym c.if-is_closed.ensures)))

pub returns-else-is_closed-clause-added : goal.returns-else-is_closed-clause-added
returns-else-is_closed-clause-added c =
    adding_taken c.args.self.now.settings c.args.self.now.reader c.take-taken.new.self c.take-taken.new.self c.args.mark c.take-taken.result
    (λ idle. both_ways c.is_idle.result c.if-is_idle.false (c.is_idle.ensures.1 idle))
    c.take-taken.ensures
    (λ k. absurd (both_ways (closes c.take-taken.result) (sym c.if-is_closed.ensures) k))
    (λ k. refl)
