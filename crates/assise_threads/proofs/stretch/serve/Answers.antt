use Rattle.assise_threads.proofs.Common.{◌∙◌, sym, ap, subst, sights, IsStretchSaid, AreCallsSaid, HasAllOf, untold, main_keeper, main_seen, AreAt, HaveTurns}
use Rattle.assise_threads.proofs.Ends.{all_make, has_all, is_said, still_at, still_turns}
use Rattle.assise_threads.proofs.stretch.serve.Goals as goal

pub write_calls-requires-clause-all : goal.write_calls-requires-clause-all
write_calls-requires-clause-all g c =
    let stretch = c.args.stretch.now in
    let ends = c.in-Ok-run_cluster.ends.items in
    let made = all_make stretch c.args.clients.items c.in-Ok-lists_of.lists.items ends c.in-Ok-lists_of.ensures.lists c.in-Ok-run_cluster.ensures.served in
    subst (HasAllOf stretch) (sym (ap untold c.as_mut_slice.ensures.value ∙ c.in-Ok-parted.ensures.outcomes)) (has_all stretch c.args.clients.items ends made)

pub returns-clause-at : goal.returns-clause-at
returns-clause-at g c =
    let stretch = c.args.stretch.now in
    let ends = c.in-Ok-run_cluster.ends.items in
    let made = all_make stretch c.args.clients.items c.in-Ok-lists_of.lists.items ends c.in-Ok-lists_of.ensures.lists c.in-Ok-run_cluster.ensures.served in
    subst (AreAt (main_keeper c.args.main.now)) (sym c.in-Ok-parted.ensures.same)
    (still_at stretch (main_keeper c.args.main.now) c.args.clients.items ends made c.requires.at)

pub returns-clause-turns : goal.returns-clause-turns
returns-clause-turns g c =
    let stretch = c.args.stretch.now in
    let ends = c.in-Ok-run_cluster.ends.items in
    let made = all_make stretch c.args.clients.items c.in-Ok-lists_of.lists.items ends c.in-Ok-lists_of.ensures.lists c.in-Ok-run_cluster.ensures.served in
    λ turns limits. subst (HaveTurns turns) (sym c.in-Ok-parted.ensures.same) (still_turns stretch turns c.args.clients.items ends made limits)

pub returns-clause-said : goal.returns-clause-said
returns-clause-said g c =
    let stretch = c.args.stretch.now in
    let ends = c.in-Ok-run_cluster.ends.items in
    let made = all_make stretch c.args.clients.items c.in-Ok-lists_of.lists.items ends c.in-Ok-lists_of.ensures.lists c.in-Ok-run_cluster.ensures.served in
    let old = g.W.Write.contents c.args.writer.now in
    let new = g.W.Write.contents c.write_calls.new.writer in
    let seen = main_seen c.args.main.now in
    λ turns limits.
    subst (λ z. IsStretchSaid turns stretch seen (sights c.args.clients.items) z old new) (sym c.in-Ok-parted.ensures.clients)
    (is_said turns stretch c.args.clients.items ends made limits seen old new c.requires.calls
    (subst (λ z. AreCallsSaid turns stretch seen z old new) (ap untold c.as_mut_slice.ensures.value ∙ c.in-Ok-parted.ensures.outcomes)
    (c.in_ok-write_calls.ensures.said turns seen)))
