use Rattle.assise_manager.proofs.Common.{◌≡◌, ◌∙◌, Some, None, sym, ap, map, subst, length, stale_of, copied_as, IsLowestOf, IsMembership, returning}
use Rattle.assise_manager.proofs.Common.{standing_of, full_nodes, standing, listed_inodes, stale_inodes}
use Rattle.assise_manager.proofs.Places.{copied_either, whole}
use Rattle.assise_manager.proofs.members.Members.note_copied.Goals as goal

pub invariant_of-self : goal.invariant_of-self
invariant_of-self c =
    let old = c.args.self.now in
    let r = c.in_ok-returning.field-0.now in
    let same = whole old.nodes.items c.drop_lowest.new.nodes old.nodes.len old.nodes.ok.0 (c.drop_lowest.ensures.len ∙ ap length c.deref_mut.ensures.value) in
    let at : standing_of (map standing old.nodes.items) c.args.node ≡ Some (returning r.since r.donor (stale_inodes r.stale)) = c.in_ok-returning.ensures.ok in
    let lawful : IsMembership (record
    { epoch = old.epoch; nodes = map standing c.drop_lowest.new.nodes; written = map listed_inodes old.written.items; levels = old.levels.items }) =
    copied_either old.epoch (map listed_inodes old.written.items) c.args.node r (map standing old.nodes.items) (map standing c.drop_lowest.new.nodes)
    old.levels.items old.lawful at
    (λ inode low. c.drop_lowest.ensures.copied inode
    (subst (λ ns. IsLowestOf (stale_of (standing_of (map standing ns) c.args.node)) (Some inode)) (sym c.deref_mut.ensures.value) low)
    ∙ ap (λ ns. copied_as (map standing ns) c.args.node inode (standing_of (map standing ns) c.args.node)) c.deref_mut.ensures.value)
    (λ none. c.drop_lowest.ensures.none
    (subst (λ ns. IsLowestOf (stale_of (standing_of (map standing ns) c.args.node)) None) (sym c.deref_mut.ensures.value) none)
    ∙ ap (map standing) c.deref_mut.ensures.value) in
    record {
      lawful = subst (λ ns. IsMembership
          (record { epoch = old.epoch; nodes = map standing ns; written = map listed_inodes old.written.items; levels = old.levels.items })) (sym same) lawful;
      listed = old.listed ∙ sym (ap (λ ns. full_nodes (map standing ns)) same ∙ c.drop_lowest.ensures.away
          ∙ ap (λ ns. full_nodes (map standing ns)) c.deref_mut.ensures.value);
      room = old.room;
      few = old.few;
    }
