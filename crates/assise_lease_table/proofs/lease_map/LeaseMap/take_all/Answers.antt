use Rattle.assise_lease_table.proofs.Common.{refl, rules, SmallVec, Lease, without_holder, is_any}
use Rattle.assise_lease_table.proofs.Shared.Retained.{kept_after, all_held, nothing_left}
use Rattle.assise_lease_table.proofs.lease_map.LeaseMap.take_all.Goals as goal

pub invariant_of-self : goal.invariant_of-self
invariant_of-self c = record {
  held = all_held (λ (v : SmallVec Lease). v.items) (λ v. is_any v.items) (λ v. nothing_left v.items) _ (without_holder c.args.holder) refl _
      (λ k v b w f' t. search rules) _ _ c.retain.ensures.filtered;
  unique = c.retain.ensures.unique;
}

pub returns : goal.returns
returns c = kept_after (λ (v : SmallVec Lease). v.items) (λ v. is_any v.items) (λ v. nothing_left v.items) _ (without_holder c.args.holder) refl _
    (λ k v b w f' t. search rules) _ _ c.args.self.now.unique c.retain.ensures.filtered
