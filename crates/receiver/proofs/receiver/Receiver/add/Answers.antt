use Rattle.std.proofs.Common.{◌≡◌, ◌<◌, ◌++◌, set, sym, ap, ◌∙◌, arith}
use Rattle.std.proofs.lemmas.List.{set-append_left}
use Rattle.receiver.proofs.Judging.{judges_following, octet_follows, open_follows}
use Rattle.receiver.specs.Stages.{with_mark, with_octet}
use Rattle.receiver.proofs.receiver.Receiver.add.Goals as goal

pub returns-in-Ok-Open-clause-judges : goal.returns-in-Ok-Open-clause-judges
returns-in-Ok-Open-clause-judges g c =
    let self = c.args.self.now in
    let lawful = g.met.F.ReadFormat.lawful self.format in
    λ rest. judges_following g.F.ReadFormat g.F.Fault.Fault self c.add.new.self c.add.ensures.same _ c.args.mark c.args.list _ _ _ (open_follows g.F.ReadFormat g.F.Fault.Fault self.format c.add.new.self c.args.mark c.args.list self.run lawful c.add.ensures.same c.add.result c.add.ensures.added (cc) c.with_mark.result c.with_mark.ensures (c.args.frame.now ++ rest))

pub returns-in-Ok-Octet-clause-judges : goal.returns-in-Ok-Octet-clause-judges
returns-in-Ok-Octet-clause-judges g c =
    let self = c.args.self.now in
    let lawful = g.met.F.ReadFormat.lawful self.format in
    let marked = c.with_mark-in-Ok-Octet in
    let numbered : c.args.list.marks < 65535 → c.args.list.octets < 255 → marked.result.octets < 255 = λ few room. omega (arith, room, ap (λ l. l.octets) (marked.ensures few)) in
    let fits : c.args.list.marks < 65535 → c.args.list.octets < 255 → c.with_octet.result ≡ with_octet (with_mark c.args.list) = λ few room. c.with_octet.ensures.more (numbered few room) ∙ ap with_octet (marked.ensures few) in
    λ rest.
    let writes : c.args.list.marks < 65535 → c.args.list.octets < 255 → c.with_octet.new.frame ++ rest ≡ set (c.args.frame.now ++ rest) c.args.list.octets c.in-Ok-Octet.octet = λ few room.
    ap (λ l. l ++ rest) (c.with_octet.ensures.written (numbered few room) ∙ ap (λ n. set c.args.frame.now n c.in-Ok-Octet.octet) (ap (λ l. l.octets) (marked.ensures few))) ∙ sym (set-append_left c.args.frame.now rest c.args.list.octets c.in-Ok-Octet.octet (omega (arith, room, c.told-frame)))
    in
    judges_following g.F.ReadFormat g.F.Fault.Fault self c.add.new.self c.add.ensures.same _ c.args.mark c.args.list _ _ _ (octet_follows g.F.ReadFormat g.F.Fault.Fault self.format c.add.new.self c.args.mark c.args.list self.run lawful c.add.ensures.same c.add.result c.add.ensures.added c.in-Ok-Octet.octet (cc) c.with_octet.result fits (c.args.frame.now ++ rest) (c.with_octet.new.frame ++ rest) writes)
