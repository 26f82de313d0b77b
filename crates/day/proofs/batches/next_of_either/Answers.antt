use Rattle.std.proofs.Common.{List, ◌∷◌, [], None, Bor, sym, ◌∙◌, rules, tests}
use Rattle.std.proofs.lemmas.Iterator.{YieldsList-from_slice}
use Rattle.std.proofs.lemmas.Iterator.Adapters.{option_map_id}
use Rattle.std.proofs.lemmas.Iterator.Consumers.{YieldsList-from_filter_map, min_from_yields_List}
use Rattle.day.specs.Batches.{Entry, least_above}
use Rattle.day.proofs.Chains.{lower_chain}
use Rattle.day.proofs.batches.next_of_either.Goals as goal

pub returns : goal.returns
returns c =
    sym (option_map_id c.min.result)
    ∙ min_from_yields_List c.filter_map.result c.min.result c.min.ensures.ran (YieldsList-from_filter_map _ (λ (es : Bor (List Entry)). least_above c.args.after None es.now) (YieldsList-from_slice (c.args.line ∷ (c.args.lab ∷ [])) cc) c.filter_map.ensures.closure (λ x r q k. search (rules, tests)))
    ∙ sym (lower_chain (least_above c.args.after None c.args.line.now) (least_above c.args.after None c.args.lab.now))
