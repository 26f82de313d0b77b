use Rattle.std.proofs.Common.{◌≡◌, ◌<◌, ◌++◌, length, drop, sym, refl, ap, ◌∙◌, subst, arith}
use Rattle.std.specs.Array.{IsFirstChunk}
use Rattle.hearing.specs.declared.answer.Ending.TheVariants as ending
use Rattle.hearing.specs.declared.refusal.ReceiverRefusal.TheVariants.{ShortBuffer}
use Rattle.receiver.proofs.Asked.{from_none, from_ok, from_some, whole}
use Rattle.receiver.proofs.Listening.{Passes, ends_loudly, ends_quietly, passes_more}
use Rattle.receiver.proofs.Stages.{Free, Holds}
use Rattle.receiver.specs.Stages.{state_kept}
use Rattle.receiver.proofs.receiver.Receiver.listen.Goals as goal

-- a frame is held
pub returns-then-is_some : goal.returns-then-is_some
returns-then-is_some g c =
    let self = c.args.self.now in
    let buffer = c.args.buffer.now in
    let chunk = from_ok (length buffer < 255) (λ y. IsFirstChunk buffer y.now 255) c.first_chunk_mut.result ShortBuffer c.in_ok-frame.frame c.first_chunk_mut.ensures.cases (sym c.ok_or.ensures.value ∙ c.in_ok-frame.was) in
    let (octets, held) = from_some (Free self.stage) (Holds self.stage) c.held.result c.held.ensures (sym c.is_some.ensures ∙ c.if-is_some.true) in
    (chunk.enough, ap state_kept held.1, (refl, refl, whole buffer c.in_ok-frame.frame.now chunk))

-- the line is empty
pub returns-in_default : goal.returns-in_default
returns-in_default g c =
    let self = c.args.self.now in
    let buffer = c.args.buffer.now in
    let pending = g.L.Line.pending in
    let chunk = from_ok (length buffer < 255) (λ y. IsFirstChunk buffer y.now 255) c.first_chunk_mut.result ShortBuffer c.in_ok-frame.frame c.first_chunk_mut.ensures.cases (sym c.ok_or.ensures.value ∙ c.in_ok-frame.was) in
    let free = from_none (Free self.stage) (Holds self.stage) c.held.result c.held.ensures (sym c.is_some.ensures ∙ c.if-is_some.false) in
    let empty = c.in_default.ensures in
    let less = c.loop-taken-test.true in
    let so_far = subst (λ b. Passes g.F.ReadFormat.model g.F.ReadFormat.stands self c.loop-taken.self (pending c.args.line.now) (pending c.loop-taken.line) b (c.loop-taken.frame ++ drop 255 buffer) c.loop-taken.taken) (whole buffer c.in_ok-frame.frame.now chunk) c.loop-taken.invariant in
    let none_left = subst (λ l. Passes g.F.ReadFormat.model g.F.ReadFormat.stands self c.loop-taken.self (pending c.args.line.now) l buffer (c.loop-taken.frame ++ drop 255 buffer) c.loop-taken.taken) (empty.0 ∙ sym empty.1) so_far in
    (chunk.enough, free, ends_quietly g.F.Fault.Fault.cause g.F.ReadFormat.model g.F.ReadFormat.stands c.args.budget self c.loop-taken.self (pending c.args.line.now) (pending c.take.new.self) buffer (c.loop-taken.frame ++ drop 255 buffer) c.loop-taken.taken none_left ending.Empty tt (omega arith) (less, empty.1))

-- a frame or a fault
pub returns-in-Some-hear : goal.returns-in-Some-hear
returns-in-Some-hear g c =
    let self = c.args.self.now in
    let buffer = c.args.buffer.now in
    let rest = drop 255 buffer in
    let pending = g.L.Line.pending in
    let chunk = from_ok (length buffer < 255) (λ y. IsFirstChunk buffer y.now 255) c.first_chunk_mut.result ShortBuffer c.in_ok-frame.frame c.first_chunk_mut.ensures.cases (sym c.ok_or.ensures.value ∙ c.in_ok-frame.was) in
    let free = from_none (Free self.stage) (Holds self.stage) c.held.result c.held.ensures (sym c.is_some.ensures ∙ c.if-is_some.false) in
    let so_far = subst (λ b. Passes g.F.ReadFormat.model g.F.ReadFormat.stands self c.loop-taken.self (pending c.args.line.now) (pending c.loop-taken.line) b (c.loop-taken.frame ++ rest) c.loop-taken.taken) (whole buffer c.in_ok-frame.frame.now chunk) c.loop-taken.invariant in
    (chunk.enough, free, ends_loudly g.F.Fault.Fault.cause g.F.ReadFormat.model g.F.ReadFormat.stands c.args.budget self c.loop-taken.self (pending c.args.line.now) (pending c.loop-taken.line) buffer (c.loop-taken.frame ++ rest) c.loop-taken.taken so_far c.hear.new.self c.in-Some.mark (pending c.take.new.self) (c.hear.new.frame ++ rest) c.in-Some.ensures c.hear.result (c.hear.ensures.takes rest) c.in-Some-hear.ending c.in-Some-hear.is c.hear.ensures.loud c.loop-taken-test.true)

-- a mark that brings nothing
pub loop-taken-preserved : goal.loop-taken-preserved
loop-taken-preserved g c =
    let rest = drop 255 c.args.buffer.now in
    passes_more g.F.Fault.Fault.cause g.F.ReadFormat.model g.F.ReadFormat.stands c.args.budget _ c.loop-taken.self _ _ _ _ c.loop-taken.taken c.loop-taken.invariant c.hear.new.self c.in-Some.mark (g.L.Line.pending c.take.new.self) (c.hear.new.frame ++ rest) c.in-Some.ensures c.hear.result (c.hear.ensures.takes rest) c.in_default-hear.is

-- the budget is used up
pub returns : goal.returns
returns g c =
    let self = c.args.self.now in
    let buffer = c.args.buffer.now in
    let pending = g.L.Line.pending in
    let chunk = from_ok (length buffer < 255) (λ y. IsFirstChunk buffer y.now 255) c.first_chunk_mut.result ShortBuffer c.in_ok-frame.frame c.first_chunk_mut.ensures.cases (sym c.ok_or.ensures.value ∙ c.in_ok-frame.was) in
    let free = from_none (Free self.stage) (Holds self.stage) c.held.result c.held.ensures (sym c.is_some.ensures ∙ c.if-is_some.false) in
    let few = c.loop-taken.auto.taken-end in
    let all = c.loop-taken-test.false in
    let spent : c.loop-taken.taken ≡ c.args.budget = omega arith in
    let so_far = subst (λ b. Passes g.F.ReadFormat.model g.F.ReadFormat.stands self c.loop-taken.self (pending c.args.line.now) (pending c.loop-taken.line) b (c.loop-taken.frame ++ drop 255 buffer) c.loop-taken.taken) (whole buffer c.in_ok-frame.frame.now chunk) c.loop-taken.invariant in
    let to_the_budget = subst (Passes g.F.ReadFormat.model g.F.ReadFormat.stands self c.loop-taken.self (pending c.args.line.now) (pending c.loop-taken.line) buffer (c.loop-taken.frame ++ drop 255 buffer)) spent so_far in
    (chunk.enough, free, ends_quietly g.F.Fault.Fault.cause g.F.ReadFormat.model g.F.ReadFormat.stands c.args.budget self c.loop-taken.self (pending c.args.line.now) (pending c.loop-taken.line) buffer (c.loop-taken.frame ++ drop 255 buffer) c.args.budget to_the_budget ending.Spent tt (omega arith) refl)
