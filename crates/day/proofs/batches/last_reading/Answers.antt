use Rattle.std.proofs.Common.{None, sym, ◌∙◌, rules, tests}
use Rattle.std.proofs.lemmas.Iterator.{YieldsList-from_slice}
use Rattle.std.proofs.lemmas.Iterator.Consumers.{YieldsList-at, YieldsList-from_filter, YieldsList-from_filter_map}
use Rattle.day.specs.Batches.{is_wanted, reading_in}
use Rattle.day.proofs.Chains.{last_from_yields_List, last_of_chain}
use Rattle.day.proofs.batches.last_reading.Goals as goal

pub returns : goal.returns
returns c =
    last_from_yields_List c.last.result c.last.ensures.ran (YieldsList-from_filter _ (is_wanted c.args.batch) (YieldsList-at c.filter.ensures.source (YieldsList-from_filter_map _ reading_in (YieldsList-from_slice c.args.entries.now cc) c.filter_map.ensures.closure (λ x r q k. search (rules, tests)))) c.filter.ensures.closure (λ x b q k. search (rules, tests)))
    ∙ sym (last_of_chain c.args.batch None c.args.entries.now)
