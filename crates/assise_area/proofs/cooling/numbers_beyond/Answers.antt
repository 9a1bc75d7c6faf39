use Rattle.assise_area.proofs.Common.{rules, tests}
use Rattle.std.proofs.lemmas.Iterator.{items_from_collect, YieldsList-from_map}
use Rattle.std.proofs.lemmas.Iterator.Adapters.{YieldsList-from_skip}
use Rattle.std.proofs.lemmas.Iterator.Consumers.{YieldsList-at, YieldsList-from_rest}
use Rattle.assise_area.proofs.cooling.numbers_beyond.Goals as goal

pub returns : goal.returns
returns c =
    let behind = YieldsList-from_skip c.args.first (YieldsList-at c.skip.ensures.source (YieldsList-from_rest c.args.hot.now.entries c.iter.ensures.rest))
    c.skip.ensures.count in
    items_from_collect c.collect.result c.collect.ensures.ran
    (YieldsList-from_map _ (λ e. e.0) (YieldsList-at c.map.ensures.source behind) c.map.ensures.closure (λ x r q k. search (rules, tests)))
