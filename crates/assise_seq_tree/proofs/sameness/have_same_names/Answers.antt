use Rattle.assise_seq_tree.proofs.Common.{rules, ◌≡◌, ap, arith, size_of_pairs, sizes_of, map_entries}
use Rattle.assise_seq_tree.proofs.SameTrees.{names_more, size_more}
use Rattle.assise_seq_tree.proofs.sameness.have_same_names.Goals as goal

pub loop-name-preserved : goal.loop-name-preserved
loop-name-preserved c =
    let pushed = c.in_ok-push.ensures.items in
    let name : c.in-Some.name.now ≡ c.in-Some-next.other_name.now = search rules in
    record {
      same = names_more c.loop-name.name-iterator c.loop-name.left c.next.new.self c.next-in-loop-name.new.self _ _ c.in-Some.tree c.in-Some-next.other
          c.loop-name.pending.items _ c.in-Some.ensures.steps c.in-Some-next.ensures.steps name pushed c.loop-name.invariant.same;
      size = omega (
        arith,
        c.loop-name.invariant.size,
        ap size_of_pairs pushed,
        size_more c.loop-name.pending.items (c.in-Some.tree, c.in-Some-next.other),
        ap (λ es. sizes_of (map_entries es)) c.in-Some.ensures.steps,
      );
    }
