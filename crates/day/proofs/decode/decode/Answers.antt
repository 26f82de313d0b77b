use Rattle.std.proofs.Common.{◌≡◌, subst, arith, rules, tests}
use Rattle.day.specs.Decoding.{Suits}
use Rattle.day.specs.declared.entry.Site.TheVariants.{Lab}
use Rattle.day.proofs.decode.decode.Goals as goal

pub returns-then-temperature-ne-BATH_TEMPERATURE : goal.returns-then-temperature-ne-BATH_TEMPERATURE
returns-then-temperature-ne-BATH_TEMPERATURE c =
    let x = c.in_ok-reading.reading in
    let lab : c.args.site ≡ Lab = search (tests, rules) in (
      omega arith,
      (
        x,
        c.in_ok-reading.ensures,
        λ suits.
            let bath : x.temperature ≡ 400 = subst (λ site. Suits site x) lab suits in
            absurd (c.if-temperature-ne-BATH_TEMPERATURE.true (omega arith)),
      ),
    )
