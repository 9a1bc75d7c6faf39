use Rattle.assise_lease_tree.proofs.Common.{◌≡◌, ◌||◌, refl, rules, ap, ◌∙◌, revoke, is_any, middle, lists_after, held_after, revoke_any, is_in_use, BothLevels}
use Rattle.assise_lease_tree.proofs.lease_levels.LeaseLevels.revoke.Goals as goal

pub invariant_of-self : goal.invariant_of-self
invariant_of-self g c =
    let choice = g.T.Chooses.choice c.args.test.now in
    record {
      held = λ i. held_after is_in_use _ _ (λ k v b w f' t.
          middle (λ (is : (w.clients.items ≡ revoke choice v.clients.items) × (w.nodes ≡ v.nodes)).
          ap (λ z. z || is_any w.nodes.items) (ap is_any is.0 ∙ revoke_any choice v.clients.items) ∙ ap (λ n. is_any v.clients.items || is_any n.items) is.1)
          (search rules)) _ _ c.retain.ensures.filtered i ∙ c.args.self.now.held i;
      unique = c.retain.ensures.unique;
    }

pub returns-clause-clients : goal.returns-clause-clients
returns-clause-clients g c = lists_after (λ (b : BothLevels). b.clients.items) _ (revoke (g.T.Chooses.choice c.args.test.now)) refl _
    (λ k v b w f' t. search rules) _ _ c.retain.ensures.filtered

pub returns-clause-nodes : goal.returns-clause-nodes
returns-clause-nodes g c = lists_after (λ (b : BothLevels). b.nodes.items) _ (λ ls. ls) refl _ (λ k v b w f' t. search rules) _ _ c.retain.ensures.filtered
