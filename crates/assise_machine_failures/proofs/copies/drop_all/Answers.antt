use Rattle.assise_machine_failures.proofs.Common.{ap, subst, sym, ◌∙◌, deque_iter_rest, nil_from_length, region_in, IsNumber, nodes_without}
use Rattle.assise_machine_failures.proofs.DroppedCopies.{logless_quiet, one_logless, one_number}
use Rattle.assise_machine_failures.proofs.copies.drop_all.Goals as goal

pub loop-inode-init : goal.loop-inode-init
loop-inode-init c = record {
  there = c.requires.node;
  no_logs = c.requires.no_logs;
  left = ap (nodes_without c.args.nodes.now c.args.node) c.into_iter-inode-iterator.ensures.into_iter_gives.0;
}

pub stale-requires-clause-quiet : goal.stale-requires-clause-quiet
stale-requires-clause-quiet c = logless_quiet (region_in c.loop-inode.nodes c.args.node) c.in-Some.inode.now c.loop-inode.invariant.no_logs

pub loop-inode-preserved : goal.loop-inode-preserved
loop-inode-preserved c = record {
  there = subst (λ rs. IsNumber rs c.args.node) (sym c.stale.ensures)
      (one_number c.loop-inode.nodes c.args.node c.in-Some.inode.now c.loop-inode.invariant.there);
  no_logs = ap (λ rs. (region_in rs c.args.node).logs) c.stale.ensures ∙ one_logless c.loop-inode.nodes c.args.node c.in-Some.inode.now
      c.loop-inode.invariant.there c.loop-inode.invariant.no_logs;
  left =
      ap (λ rs. nodes_without rs c.args.node (deque_iter_rest c.next.new.self)) c.stale.ensures
      ∙ ap (nodes_without c.loop-inode.nodes c.args.node) (sym c.in-Some.ensures.steps)
      ∙ c.loop-inode.invariant.left;
}

pub returns : goal.returns
returns c =
    ap (nodes_without c.loop-inode.nodes c.args.node) (sym (nil_from_length (deque_iter_rest c.loop-inode.inode-iterator) c.in-None.ensures.steps.0))
    ∙ c.loop-inode.invariant.left
