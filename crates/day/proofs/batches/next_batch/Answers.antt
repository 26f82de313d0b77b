use Rattle.std.proofs.Common.{sym, ◌∙◌, nat_lt, rules, tests}
use Rattle.std.proofs.lemmas.Iterator.{YieldsList-from_map, YieldsList-from_slice}
use Rattle.std.proofs.lemmas.Iterator.Adapters.{option_map_id}
use Rattle.std.proofs.lemmas.Iterator.Consumers.{YieldsList-at, YieldsList-from_filter, YieldsList-from_filter_map, min_from_yields_List}
use Rattle.readings.specs.declared.reading.Reading.{Reading}
use Rattle.day.specs.Batches.{reading_in}
use Rattle.day.proofs.Chains.{least_above_chain}
use Rattle.day.proofs.batches.next_batch.Goals as goal

pub returns : goal.returns
returns c =
    sym (option_map_id c.min.result)
    ∙ min_from_yields_List c.filter.result c.min.result c.min.ensures.ran (YieldsList-from_filter _ (nat_lt c.args.after) (YieldsList-at c.filter.ensures.source (YieldsList-from_map _ (λ (x : Reading). x.batch) (YieldsList-at c.map.ensures.source (YieldsList-from_filter_map _ reading_in (YieldsList-from_slice c.args.entries.now cc) c.filter_map.ensures.closure (λ x r q k. search (rules, tests)))) c.map.ensures.closure (λ x r q k. search (rules, tests)))) c.filter.ensures.closure (λ x b q k. search (rules, tests)))
    ∙ sym (least_above_chain c.args.after c.args.entries.now)
