use Rattle.assise_manager.proofs.Common.{◌≡◌, ◌+◌, true, false, Some, refl, [], List, ◌∷◌, ◌∙◌, ◌++◌, sym, ap, map, take, drop, subst, length, arith, nat_cmp}
use Rattle.assise_manager.proofs.Common.{map-append, length-map, donor_of, joined, Membership, IsMembership, standing_of, with_standing, full_nodes, standing}
use Rattle.assise_manager.proofs.Common.{listed_inodes, joined_levels, membership}
use Rattle.std.specs.FinSet as set
use Rattle.std.specs.Prelude.{◌≤◌, vec_capacity}
use Rattle.assise_manager.specs.Standings.{full}
use Rattle.assise_manager.proofs.Places.{whole, joined_is, all_counted, some_away}
use Rattle.assise_manager.proofs.Shared.Lawful.{joined_lawful}
use Rattle.assise_manager.proofs.members.Members.join.Goals as goal
use Rattle.assise_manager.proofs.members.Members.join.Goals.{After-len-2, After-clear, After-push_reserved}

-- what stands then, with these lists
abbrev now : After-len-2 → List (set.FinSet nat_cmp) → Membership
now c lists =
    let old = c.args.self.now in
    record {
      epoch = old.epoch + 1;
      nodes = map standing (take old.nodes.len (c.put.new.nodes ++ drop (length c.put.new.nodes) old.nodes.items));
      written = lists;
      levels = take old.levels.len (c.join_levels.new.levels ++ drop (length c.join_levels.new.levels) old.levels.items);
    }

facts : (c : After-len-2) → let m = membership c.args.self.now in let nodes = with_standing m.nodes c.args.node full in
    ((now c []).nodes ≡ nodes) × (c.len.result ≡ length (full_nodes nodes)) × (c.len-2.result ≡ length nodes)
    × ((now c []).levels ≡ joined_levels m.levels c.args.node (donor_of (standing_of m.nodes c.args.node)))
facts c =
    let old = c.args.self.now in
    let as_many = c.put.ensures.len ∙ ap length c.deref_mut-2.ensures.value in
    let same = whole old.nodes.items c.put.new.nodes old.nodes.len old.nodes.ok.0 as_many in
    let put = c.put.ensures.nodes ∙ ap (λ ns. with_standing (map standing ns) c.args.node full) c.deref_mut-2.ensures.value in (
      ap (map standing) same ∙ put,
      c.len.ensures ∙ c.list_full.new.full.ok.0
          ∙ ap length (c.list_full.ensures.full ∙ ap (λ ns. full_nodes (map standing ns)) (c.deref.ensures.value ∙ same) ∙ ap full_nodes put),
      c.len-2.ensures ∙ old.nodes.ok.0 ∙ sym as_many ∙ sym (length-map c.put.new.nodes standing) ∙ ap length put,
      whole old.levels.items c.join_levels.new.levels old.levels.len old.levels.ok.0 (c.join_levels.ensures.len ∙ ap length c.deref_mut.ensures.value)
          ∙ c.join_levels.ensures.levels
          ∙ ap (λ ls. joined_levels ls c.args.node (Some c.in_ok-donor.donor)) c.deref_mut.ensures.value
          ∙ sym (ap (joined_levels (membership old).levels c.args.node) c.in_ok-donor.ensures.donor),
    )

-- what holds of the members then
sound : (c : After-len-2) (lists : List (set.FinSet nat_cmp)) → now c lists ≡ joined (membership c.args.self.now) c.args.node → IsMembership (now c lists)
    × (c.list_full.new.full.items ≡ full_nodes (now c []).nodes) × (c.args.self.now.nodes.len ≤ vec_capacity c.list_full.new.full)
sound c lists is =
    let old = c.args.self.now in (
      subst IsMembership (sym is) (joined_lawful (membership old) c.args.node old.lawful (c.in_ok-donor.ensures.faultless.0 refl)),
      c.list_full.ensures.full ∙ ap (λ ns. full_nodes (map standing ns)) c.deref.ensures.value,
      (let l = c.list_full.ensures.capacity in let r = old.room in omega arith),
    )

all_full : (c : After-clear)
    → now (goal.at.After-clear c).After-len-2 (map listed_inodes c.clear.new.self.items) ≡ joined (membership c.args.self.now) c.args.node
all_full c =
    let f = facts (goal.at.After-clear c).After-len-2 in
    joined_is (membership c.args.self.now) c.args.node _ _ _ true f.0 (ap (map listed_inodes) c.clear.ensures.items)
    (all_counted _ _ _ f.1 f.2 c.if-len.true) f.3

one_away : (c : After-push_reserved)
    → now (goal.at.After-push_reserved c).After-len-2 (map listed_inodes c.push_reserved.new.self.items) ≡ joined (membership c.args.self.now) c.args.node
one_away c =
    let old = c.args.self.now in
    let f = facts (goal.at.After-push_reserved c).After-len-2 in
    let lists = ap (map listed_inodes) (c.push_reserved.ensures.items ∙ ap (λ l. l ++ c.new.result ∷ []) c.reserve.ensures.items)
    ∙ map-append listed_inodes old.written.items (c.new.result ∷ []) ∙ ap (λ l. (membership old).written ++ l ∷ []) c.new.ensures in
    joined_is (membership old) c.args.node _ _ _ false f.0 lists (some_away _ _ _ f.1 f.2 c.if-len.false) f.3

pub returns-then-len-clause-ok : goal.returns-then-len-clause-ok
returns-then-len-clause-ok c = all_full (goal.at.returns-then-len-clause-ok c).After-clear

pub returns-else-len-clause-ok : goal.returns-else-len-clause-ok
returns-else-len-clause-ok c = one_away (goal.at.returns-else-len-clause-ok c).After-push_reserved

pub invariant_of-self-then-len : goal.invariant_of-self-then-len
invariant_of-self-then-len c =
    let at = goal.at.invariant_of-self-then-len c in
    let s = sound at.After-len-2 _ (all_full at.After-clear) in
    record { lawful = s.0; listed = s.1; room = s.2; few = c.args.self.now.few }

pub invariant_of-self-else-len : goal.invariant_of-self-else-len
invariant_of-self-else-len c =
    let at = goal.at.invariant_of-self-else-len c in
    let s = sound at.After-len-2 _ (one_away at.After-push_reserved) in
    record { lawful = s.0; listed = s.1; room = s.2; few = c.args.self.now.few }
