use Rattle.assise_threads.proofs.Common.{rules, ◌∙◌, ap, sym, Extends, last, seen, machine_seen}
use Rattle.assise_threads.proofs.LedTakes.{between, works_seen}
use Rattle.assise_threads.proofs.main_thread.MainThreadOf.history.Goals as goal

pub returns-clause-worked : goal.returns-clause-worked
returns-clause-worked g c = works_seen (last c.args.self.now.pass) (last c.give.new.pass) c.take-held.result c.args.self.now.met
    (c.give.ensures.last ∙ search rules) (c.take-held.ensures.worked c.args.self.now.alone)

pub returns-clause-extends : goal.returns-clause-extends
returns-clause-extends g c =
    let old = c.args.self.now.pass in
    let new = c.give.new.pass in
    let extends : Extends (seen new) (seen old) = search rules in
    between (λ a b. Extends b a) (seen old) (seen new) c.args.self.now.known
    (c.give.ensures.seen ∙ sym (ap (λ z. (machine_seen z).history) c.give.ensures.last)) extends
