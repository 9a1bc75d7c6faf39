use Rattle.assise_chain.proofs.Common.{rules, nat_le, nat_lt, YieldsList-from_slice}
use borrow.Author.Tests.{tests}
use Rattle.std.proofs.lemmas.Iterator.Consumers.{YieldsList-at, YieldsList-from_chain, YieldsList-from_copied, YieldsList-from_filter}
use Rattle.assise_chain.proofs.Successors.{found_then_next, nobody_found}
use Rattle.assise_chain.proofs.order.successor.Goals as goal

pub returns-in_err-find : goal.returns-in_err-find
returns-in_err-find c =
    nobody_found c.args.node _ _ _ _ c.find.ensures.ran
    (YieldsList-from_chain
    (YieldsList-at c.chain-chain.ensures.first
    (YieldsList-from_filter _ (nat_le c.args.head)
    (YieldsList-at c.filter-above.ensures.source
    (YieldsList-from_copied (YieldsList-at c.copied.ensures.source (YieldsList-from_slice c.args.full_nodes.now c.iter.ensures.rest))))
    c.filter-above.ensures.closure (λ x b q k. search (rules, tests))))
    (YieldsList-at c.chain-chain.ensures.second
    (YieldsList-from_filter _ (λ n. nat_lt n c.args.head)
    (YieldsList-at c.filter-below.ensures.source
    (YieldsList-from_copied (YieldsList-at c.copied-2.ensures.source (YieldsList-from_slice c.args.full_nodes.now c.iter-2.ensures.rest))))
    c.filter-below.ensures.closure (λ x b q k. search (rules, tests))))
    c.chain-chain.ensures.first_done c.chain-chain.ensures.second_done)
    (λ x b q k. search (rules, tests)) (search rules) (search rules)

pub returns : goal.returns
returns c = search (found_then_next c.args.node _ _ _ _ _ c.in_ok-find.field-0 c.find.ensures.ran
    (YieldsList-from_chain
    (YieldsList-at c.chain-chain.ensures.first
    (YieldsList-from_filter _ (nat_le c.args.head)
    (YieldsList-at c.filter-above.ensures.source
    (YieldsList-from_copied (YieldsList-at c.copied.ensures.source (YieldsList-from_slice c.args.full_nodes.now c.iter.ensures.rest))))
    c.filter-above.ensures.closure (λ x b q k. search (rules, tests))))
    (YieldsList-at c.chain-chain.ensures.second
    (YieldsList-from_filter _ (λ n. nat_lt n c.args.head)
    (YieldsList-at c.filter-below.ensures.source
    (YieldsList-from_copied (YieldsList-at c.copied-2.ensures.source (YieldsList-from_slice c.args.full_nodes.now c.iter-2.ensures.rest))))
    c.filter-below.ensures.closure (λ x b q k. search (rules, tests))))
    c.chain-chain.ensures.first_done c.chain-chain.ensures.second_done)
    (λ x b q k. search (rules, tests)) c.in_ok-find.was c.next.ensures.steps)
