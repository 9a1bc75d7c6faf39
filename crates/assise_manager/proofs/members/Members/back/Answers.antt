use Rattle.assise_manager.proofs.Common.{is_some, ◌∙◌, Some, sym, ap, map, option_map, with_node, stale_of, back_as, returning, standing_of, full_nodes}
use Rattle.assise_manager.proofs.Common.{standing, membership}
use Rattle.std.specs.FinSet as set
use Rattle.assise_manager.proofs.Places.{stands_now, known_as, donor_is, down_listed, since_is}
use Rattle.assise_manager.proofs.Shared.Lawful.{back_known}
use Rattle.assise_manager.proofs.members.Members.back.Goals as goal

pub first_listed-requires : goal.first_listed-requires
first_listed-requires c = record {
  some = down_listed (membership c.args.self.now) c.args.node c.in-Down.since c.args.self.now.lawful
      (c.in_ok-since.ensures.ok ∙ ap (λ n. Some (standing n)) c.in-Down.is);
}

pub put-requires-clause-known : goal.put-requires-clause-known
put-requires-clause-known c =
    let old = c.args.self.now in
    known_as (membership old) c.in-Down.since _ _ _ _
    (donor_is old.full.items (full_nodes (map standing old.nodes.items)) _ old.listed old.lawful.some_full c.index-donor.ensures)
    (c.in_ok-stale.ensures.inodes ∙ since_is old.written.items _ _ _ _ _ c.written_since-lists.ensures c.first_listed.ensures c.deref.ensures.value)
    (back_known (membership old) c.args.node c.in-Down.since old.lawful (c.in_ok-since.ensures.ok ∙ ap (λ n. Some (standing n)) c.in-Down.is))

pub returns-clause-ok : goal.returns-clause-ok
returns-clause-ok c =
    let old = c.args.self.now in
    let donor = donor_is old.full.items (full_nodes (map standing old.nodes.items)) c.index-donor.result.now old.listed old.lawful.some_full
    c.index-donor.ensures in
    let stale = c.in_ok-stale.ensures.inodes ∙ since_is old.written.items _ _ _ _ _ c.written_since-lists.ensures c.first_listed.ensures c.deref.ensures.value
    in
    c.put.ensures
    ∙ (λ i. with_node (membership old) c.args.node (returning c.in-Down.since (donor i) (stale i)))
    ∙ sym (ap (back_as (membership old) c.args.node) (c.in_ok-since.ensures.ok ∙ ap (λ n. Some (standing n)) c.in-Down.is))

pub returns-clause-count : goal.returns-clause-count
returns-clause-count c =
    ap (λ m. option_map set.len (stale_of (standing_of m.nodes c.args.node))) c.put.ensures
    ∙ ap (λ o. option_map set.len (stale_of o)) (stands_now (membership c.args.self.now).nodes c.args.node _ (ap is_some c.in_ok-since.ensures.ok))
    ∙ ap Some (sym c.len-count.ensures)
