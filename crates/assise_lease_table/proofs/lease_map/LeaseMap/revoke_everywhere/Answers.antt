use Rattle.assise_lease_table.proofs.Common.{◌≡◌, refl, rules, ap, ◌∙◌, SmallVec, Lease, revoke, is_any}
use Rattle.assise_lease_table.proofs.Shared.Retained.{middle, lists_after, held_after, revoke_any}
use Rattle.assise_lease_table.proofs.lease_map.LeaseMap.revoke_everywhere.Goals as goal

pub invariant_of-self : goal.invariant_of-self
invariant_of-self g c =
    let choice = g.T.Chooses.choice c.args.test.now in
    record {
      held = λ i. held_after (λ (v : SmallVec Lease). is_any v.items) _ _
          (λ k v b w f' t. middle (λ (is : w.items ≡ revoke choice v.items). ap is_any is ∙ revoke_any choice v.items) (search rules)) _ _
          c.retain.ensures.filtered i ∙ c.args.self.now.held i;
      unique = c.retain.ensures.unique;
    }

pub returns : goal.returns
returns g c = lists_after (λ (v : SmallVec Lease). v.items) _ (revoke (g.T.Chooses.choice c.args.test.now)) refl _ (λ k v b w f' t. search rules) _ _
    c.retain.ensures.filtered
