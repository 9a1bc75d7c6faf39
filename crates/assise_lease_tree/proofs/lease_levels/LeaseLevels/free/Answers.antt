use Rattle.assise_lease_tree.proofs.Common.{refl, rules, or_parts, without_holder, is_any, kept_after, all_held, nothing_left, is_in_use, BothLevels}
use Rattle.assise_lease_tree.proofs.lease_levels.LeaseLevels.free.Goals as goal

pub invariant_of-self : goal.invariant_of-self
invariant_of-self c = record {
  held = all_held (λ (b : BothLevels). b.nodes.items) is_in_use
      (λ v e. nothing_left v.nodes.items (or_parts (is_any v.clients.items) (is_any v.nodes.items) e).1) _ (without_holder c.args.node) refl _
      (λ k v b w f' t. search rules) _ _ c.retain.ensures.filtered;
  unique = c.retain.ensures.unique;
}

pub returns-clause-clients : goal.returns-clause-clients
returns-clause-clients c =
    kept_after (λ (b : BothLevels). b.clients.items) is_in_use
    (λ v e. nothing_left v.clients.items (or_parts (is_any v.clients.items) (is_any v.nodes.items) e).0) _ (λ ls. ls) refl _
    (λ k v b w f' t. search rules) _ _ c.args.self.now.unique c.retain.ensures.filtered

pub returns-clause-nodes : goal.returns-clause-nodes
returns-clause-nodes c =
    kept_after (λ (b : BothLevels). b.nodes.items) is_in_use
    (λ v e. nothing_left v.nodes.items (or_parts (is_any v.clients.items) (is_any v.nodes.items) e).1) _ (without_holder c.args.node) refl _
    (λ k v b w f' t. search rules) _ _ c.args.self.now.unique c.retain.ensures.filtered
