use Rattle.assise_manager.proofs.Common.{[], ◌∷◌, ◌+◌, ◌≡◌, ◌∙◌, ◌++◌, ◌-◌, sym, ap, map, take, drop, subst, length, arith, nat_cmp, map-append, length-map}
use Rattle.assise_manager.proofs.Common.{refilled_from, failed, IsMembership, with_standing, full_nodes, lowest_besides, listed_since, standing, listed_inodes}
use Rattle.assise_manager.proofs.Common.{membership}
use Rattle.std.specs.FinSet as set
use Rattle.assise_manager.specs.Standings.{down}
use Rattle.assise_manager.proofs.Places.{whole, listed_is, first_is, failed_is, may_fail, new_donor_is}
use Rattle.assise_manager.proofs.Shared.Lawful.{failed_lawful}
use Rattle.assise_manager.proofs.members.Members.fail_full.Goals as goal
use Rattle.assise_manager.proofs.members.Members.fail_full.Goals.{After-put}

-- what stands then
failed_now : (c : After-put) → let old = c.args.self.now in
    let refilled = take old.nodes.len (c.refill_all.new.nodes ++ drop (length c.refill_all.new.nodes) old.nodes.items) in
    record {
      epoch = old.epoch + 1;
      nodes = map standing (take old.nodes.len (c.put.new.nodes ++ drop (length c.put.new.nodes) refilled));
      written = map listed_inodes c.push.new.self.items;
      levels = old.levels.items;
    } ≡ failed (membership old) c.args.node (set.from_list c.args.inodes.now)
failed_now c =
    let old = c.args.self.now in
    let m = membership old in
    let inodes : set.FinSet nat_cmp = set.from_list c.args.inodes.now in
    let as_many = c.refill_all.ensures.len ∙ ap length c.deref_mut.ensures.value in
    let refilled = whole old.nodes.items c.refill_all.new.nodes old.nodes.len old.nodes.ok.0 as_many in
    let put = whole (take old.nodes.len (c.refill_all.new.nodes ++ drop (length c.refill_all.new.nodes) old.nodes.items)) c.put.new.nodes old.nodes.len
    (old.nodes.ok.0 ∙ sym (ap length refilled ∙ as_many)) (c.put.ensures.len ∙ ap length c.deref_mut-2.ensures.value) in
    let lists : map listed_inodes c.push.new.self.items ≡ m.written ++ inodes ∷ [] = ap (map listed_inodes) c.in_ok-push.ensures.items
    ∙ map-append listed_inodes old.written.items (c.in_ok-list.list ∷ []) ∙ ap (λ l. m.written ++ l ∷ []) c.in_ok-list.ensures.inodes in
    let nodes = ap (map standing) put ∙ c.put.ensures.nodes ∙ ap (λ ns. with_standing (map standing ns) c.args.node (down (old.epoch + 1)))
    (c.deref_mut-2.ensures.value ∙ refilled) ∙ ap (λ ns. with_standing ns c.args.node (down (old.epoch + 1)))
    (c.in_default.ensures.ok
    ∙ ap (λ ns. map (refilled_from (listed_since c.deref-2.result.now (old.epoch + 1 - c.len.result)) c.lowest_besides-donor.result c.args.node)
    (map standing ns)) c.deref_mut.ensures.value) in
    failed_is m c.args.node inodes _ c.lowest_besides-donor.result (map listed_inodes c.push.new.self.items) _ c.requires.full
    (listed_is m c.args.node inodes c.deref-2.result.now _ (ap (map listed_inodes) c.deref-2.ensures.value ∙ lists)
    (first_is m c.args.node inodes c.len.result old.lawful (c.len.ensures ∙ old.written.ok.0 ∙ sym (length-map old.written.items listed_inodes))))
    (c.lowest_besides-donor.ensures ∙ ap (λ l. lowest_besides l c.args.node) (c.deref.ensures.value ∙ old.listed)
    ∙ sym (new_donor_is m.nodes c.args.node (old.epoch + 1) c.requires.full c.requires.others)) lists nodes

pub returns-clause-ok : goal.returns-clause-ok
returns-clause-ok c = failed_now (goal.at.returns-clause-ok c).After-put

pub invariant_of-self-2 : goal.invariant_of-self-2
invariant_of-self-2 c =
    let old = c.args.self.now in
    let m = membership old in
    record {
      lawful = subst IsMembership (sym (failed_now (goal.at.invariant_of-self-2 c).After-put))
          (failed_lawful m c.args.node (set.from_list c.args.inodes.now) old.lawful (may_fail m c.args.node c.requires.full c.requires.others));
      listed = c.list_full.ensures.full ∙ ap (λ ns. full_nodes (map standing ns)) c.deref-3.ensures.value;
      room = (let l = c.list_full.ensures.capacity in let r = old.room in omega arith);
      few = old.few;
    }
