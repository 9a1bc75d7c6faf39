use Rattle.assise_console.proofs.Common.{length, machine, revokers, console_seen, Least, Whole, Eights, opened_answer}
use Rattle.assise_console.proofs.SmallNumbers.{no_node_so_large}
use Rattle.assise_console.proofs.OneCommand.{opens_by, opens_none}
use Rattle.assise_console.proofs.Stored.{kept, other_kinds_eights, other_kinds_least, other_kinds_whole, others_stay, takes}
use Rattle.assise_console.proofs.console.ConsoleOf.open.Goals as goal

pub returns-in_default-clause-opens : goal.returns-in_default-clause-opens
returns-in_default-clause-opens g c =
    opens_none (console_seen c.args.self.now) c.args.node c.args.kind c.args.durability
    (no_node_so_large c.args.self.now.cluster (c.number_of.ensures.none c.in_default.is))

pub returns-in-Least-clause-opens : goal.returns-in-Least-clause-opens
returns-in-Least-clause-opens g c =
    rw c.in-Least.is
    (opens_by (console_seen c.args.self.now) c.args.node c.in-Some.node Least c.args.durability c.opened.result (opened_answer c.open_next.result)
    (machine c.open_next.new.cluster) (length c.open_next.new.stock.items)
    c.in-Some.ensures.some c.opened.ensures c.open_next.ensures.served c.open_next.ensures.stock)

pub returns-in-Whole-clause-opens : goal.returns-in-Whole-clause-opens
returns-in-Whole-clause-opens g c =
    rw c.in-Whole.is
    (opens_by (console_seen c.args.self.now) c.args.node c.in-Some.node Whole c.args.durability c.opened-in-Whole.result
    (opened_answer c.open_next-in-Whole.result) (machine c.open_next-in-Whole.new.cluster) (length c.open_next-in-Whole.new.stock.items)
    c.in-Some.ensures.some c.opened-in-Whole.ensures c.open_next-in-Whole.ensures.served c.open_next-in-Whole.ensures.stock)

pub returns-in-Eights-clause-opens : goal.returns-in-Eights-clause-opens
returns-in-Eights-clause-opens g c =
    rw c.in-Eights.is
    (opens_by (console_seen c.args.self.now) c.args.node c.in-Some.node Eights c.args.durability c.opened-in-Eights.result
    (opened_answer c.open_next-in-Eights.result) (machine c.open_next-in-Eights.new.cluster) (length c.open_next-in-Eights.new.stock.items)
    c.in-Some.ensures.some c.opened-in-Eights.ensures c.open_next-in-Eights.ensures.served c.open_next-in-Eights.ensures.stock)

pub returns-in-Least-clause-stores : goal.returns-in-Least-clause-stores
returns-in-Least-clause-stores g c =
    let told = c.opened.ensures in
    let left = c.open_next.new.stock.items in
    let was = revokers c.args.self.now.cluster in
    let now = revokers c.open_next.new.cluster in
    rw c.in-Least.is (record {
      takes = takes c.opened.result c.open_next.result c.args.self.now.stock.least.items left was now told c.open_next.ensures.gets;
      kept = kept c.opened.result c.open_next.result c.args.self.now.stock.least.items left was now told c.open_next.ensures.refused;
      kinds = λ k other. other_kinds_least c.args.self.now.stock c.open_next.new.stock k other;
      others = others_stay c.opened.result c.open_next.result c.args.self.now.stock.least.items left was now told c.open_next.ensures.others;
    })

pub returns-in-Whole-clause-stores : goal.returns-in-Whole-clause-stores
returns-in-Whole-clause-stores g c =
    let told = c.opened-in-Whole.ensures in
    let left = c.open_next-in-Whole.new.stock.items in
    let was = revokers c.args.self.now.cluster in
    let now = revokers c.open_next-in-Whole.new.cluster in
    rw c.in-Whole.is (record {
      takes = takes c.opened-in-Whole.result c.open_next-in-Whole.result c.args.self.now.stock.whole.items left was now told c.open_next-in-Whole.ensures.gets;
      kept = kept c.opened-in-Whole.result c.open_next-in-Whole.result c.args.self.now.stock.whole.items left was now told c.open_next-in-Whole.ensures.refused;
      kinds = λ k other. other_kinds_whole c.args.self.now.stock c.open_next-in-Whole.new.stock k other;
      others = others_stay c.opened-in-Whole.result c.open_next-in-Whole.result c.args.self.now.stock.whole.items left was now told
          c.open_next-in-Whole.ensures.others;
    })

pub returns-in-Eights-clause-stores : goal.returns-in-Eights-clause-stores
returns-in-Eights-clause-stores g c =
    let told = c.opened-in-Eights.ensures in
    let left = c.open_next-in-Eights.new.stock.items in
    let was = revokers c.args.self.now.cluster in
    let now = revokers c.open_next-in-Eights.new.cluster in
    rw c.in-Eights.is (record {
      takes = takes c.opened-in-Eights.result c.open_next-in-Eights.result c.args.self.now.stock.eights.items left was now told
          c.open_next-in-Eights.ensures.gets;
      kept = kept c.opened-in-Eights.result c.open_next-in-Eights.result c.args.self.now.stock.eights.items left was now told
          c.open_next-in-Eights.ensures.refused;
      kinds = λ k other. other_kinds_eights c.args.self.now.stock c.open_next-in-Eights.new.stock k other;
      others = others_stay c.opened-in-Eights.result c.open_next-in-Eights.result c.args.self.now.stock.eights.items left was now told
          c.open_next-in-Eights.ensures.others;
    })
