use Rattle.assise_manager.proofs.Common.{◌∙◌, ◌-◌, arith, sym, ap, cond, map, eq-eqb, drop-map, refilled_from, all_inodes, standing, listed_since}
use Rattle.assise_manager.proofs.Common.{listed_inodes, stale_inodes, returning}
use Rattle.assise_manager.proofs.node.Node.started_over.Goals as goal

pub returns : goal.returns
returns c = record {
  over =
      let r = c.in-Returning.returning in
      let f = c.args.refill.now in
      ap (returning r.since f.donor) (c.in_ok-of.ensures.inodes ∙ ap (λ l. all_inodes (map listed_inodes l)) c.written_since-lists.ensures
      ∙ ap all_inodes (sym (drop-map listed_inodes (r.since - f.first) f.lists.now)))
      ∙ sym (ap (λ b. cond b (returning r.since f.donor (listed_since f.lists.now f.first r.since)) (returning r.since r.donor (stale_inodes r.stale)))
      (eq-eqb r.donor f.failed (search (arith))))
      ∙ sym (ap (λ n. refilled_from (listed_since f.lists.now f.first) f.donor f.failed (standing n)) c.in-Returning.is);
}
