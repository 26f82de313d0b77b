use Rattle.std.proofs.Common.{[], vec_items, sym, refl, subst, append-nil}
use Rattle.hearing.specs.declared.answer.Ending.TheVariants.{Frame}
use Rattle.day.specs.Hearing.{Told, begin}
use Rattle.day.proofs.Sofar.{all_told, next}
use Rattle.day.proofs.Turns.{comes, faulty, handed, holds, over, spent}
use Rattle.day.proofs.hear.hear.Goals as goal
use Rattle.day.proofs.hear.hear.Goals.{in-Fault, in-Frame}

pub loop-entries-init : goal.loop-entries-init
loop-entries-init g c = record {
  same = c.new-receiver.ensures.same;
  hearer = begin;
  here = c.new-receiver.ensures.begun.begins begin.buffer;
  free = tt;
  done = [];
  goes = refl;
  told = subst (Told c.args.site []) (sym c.new-entries.ensures.items) tt;
}

pub returns-in-Empty : goal.returns-in-Empty
returns-in-Empty g c =
    let l = (rw c.unwrap-heard.ensures at c.listen.ensures).2 in
    let end = over l c.args.site c.in-Empty.is in
    let entries = vec_items c.loop-entries.entries in
    all_told end.0 (next entries c.loop-entries.invariant end.1 (sym (append-nil entries)))

pub loop-entries-preserved-in-Spent : goal.loop-entries-preserved-in-Spent
loop-entries-preserved-in-Spent g c =
    let l = (rw c.unwrap-heard.ensures at c.listen.ensures).2 in
    let entries = vec_items c.loop-entries.entries in
    next entries c.loop-entries.invariant (spent l c.args.site c.in-Spent.is) (sym (append-nil entries))

pub held-entry-requires : goal.held-entry-requires
held-entry-requires g c =
    let l = (rw c.unwrap-heard.ensures at c.listen.ensures).2 in
    let i = c.loop-entries.invariant in
    let b = comes l (Frame c.in-Frame.kind c.in-Frame.octets) c.in-Frame.is i.hearer i.here i.free in
    holds g.F.ReadFormat.model g.F.ReadFormat.stands c.listen.new.self c.listen.new.buffer b.0 c.in-Frame.kind c.in-Frame.octets b.1 b.2.0

pub loop-entries-preserved : goal.loop-entries-preserved
loop-entries-preserved g c =
    let l = (rw c.unwrap-heard.ensures at c.listen.ensures).2 in
    let i = c.loop-entries.invariant in
    let more = c.in_ok-push.ensures.items in
    elim c.match-heard.branch [
      | in-Fault w ↦ rw w.receiver-is (next (vec_items c.push.new.self) i (faulty l c.args.site w.in-Fault.fault w.in-Fault.is w.into.result (rw w.in-Fault.fault-is at w.into.ensures)) (rw w.entry-is at more))
      | in-Frame w ↦ rw w.receiver-is (next (vec_items c.push.new.self) i (handed l c.args.site w.in-Frame.kind w.in-Frame.octets w.in-Frame.is (λ b here. here.buffer_kept) w.held-entry.new.receiver w.held-entry.result w.held-entry.ensures) (rw w.entry-is at more))
    ]
