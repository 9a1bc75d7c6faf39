use Rattle.assise_manager.proofs.Common.{◌∙◌, sym, ap, subst, take, map, nat_cmp, IsStrictlySortedBy, IsStrictlyIncreasing-dedup}
use Rattle.assise_manager.proofs.Common.{sorted_from_strictly_increasing, take_all, all_inodes, listed_inodes}
use Rattle.std.specs.FinSet as set
use Rattle.std.proofs.lemmas.List.Filters.{dedup_is}
use Rattle.assise_manager.proofs.Shared.Sets.{from_append, from_permutation, all_take}
use Rattle.assise_manager.proofs.AscendingSets.{dedup_set}
use Rattle.assise_manager.proofs.stale_set.StaleSet.of.Goals as goal

pub loop-list-preserved : goal.loop-list-preserved
loop-list-preserved c =
    ap set.from_list c.in_ok-extend_from_slice.ensures.items
    ∙ from_append _ _
    ∙ (λ i. set.union (c.loop-list.invariant i) (c.as_slice.ensures.inodes i))
    ∙ ap (λ l. set.union (all_inodes (map listed_inodes (take c.loop-list.list-index c.args.lists.now))) (listed_inodes l)) c.list-item.is
    ∙ all_take listed_inodes c.args.lists.now c.loop-list.list-index _ c.loop-list-test.true

pub invariant_of-result : goal.invariant_of-result
invariant_of-result c = record {
  ascending = subst (IsStrictlySortedBy nat_cmp) (sym (c.from_vec-inodes.ensures.items ∙ dedup_is _ _ _ c.dedup.ensures.filtered))
      (sorted_from_strictly_increasing _ (IsStrictlyIncreasing-dedup _ c.sort_unstable.ensures.sorted));
}

pub returns : goal.returns
returns c = record {
  inodes =
      ap set.from_list (c.from_vec-inodes.ensures.items ∙ dedup_is _ _ _ c.dedup.ensures.filtered)
      ∙ dedup_set _
      ∙ from_permutation _ _ c.sort_unstable.ensures.permutation
      ∙ c.loop-list.invariant
      ∙ ap (λ l. all_inodes (map listed_inodes l)) (take_all _ _ c.loop-list-test.false);
}
