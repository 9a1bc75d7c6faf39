use Rattle.assise_machine.proofs.Common.{◌≡◌, ◌≤◌, ◌++◌, length, take, ap, sym, subst, ◌∙◌, arith, length-map, length-take, all_effects, touched, touched_by}
use Rattle.assise_machine.proofs.Common.{records_from, ahead, noted, membership, HasLog, log_in, value_of}
use Rattle.std.specs.FinSet as set
use Rattle.assise_machine.proofs.Digested.{digests_as, has_after, has_here, log_after, touch_disjoint, whole_as}
use Rattle.assise_machine.proofs.Fewer.{room_for_fewer}
use Rattle.assise_machine.proofs.TouchedInodes.{fewer_effects, prefix_touched}
use Rattle.assise_machine.proofs.digesting.digest_noted.Given as given
use Rattle.assise_machine.proofs.digesting.digest_noted.Goals as goal

-- the node's log of the client, before the digest and after it

pub digested-from-requires : goal.digested-from-requires
digested-from-requires g c = record {
  there = has_here (value_of c.args.state.now) c.args.node c.args.client c.requires.parts.shape c.requires.parts.world c.requires.full c.requires.client;
}

pub log-requires : goal.log-requires
log-requires g c = record {
  there = has_here (value_of c.args.state.now) c.args.node c.args.client c.requires.parts.shape c.requires.parts.world c.requires.full c.requires.client;
}

pub digest_some-requires-clause-there : goal.digest_some-requires-clause-there
digest_some-requires-clause-there g c =
    has_here (value_of c.args.state.now) c.args.node c.args.client c.requires.parts.shape c.requires.parts.world c.requires.full c.requires.client

pub digest_some-requires-clause-disjoint : goal.digest_some-requires-clause-disjoint
digest_some-requires-clause-disjoint g c =
    touch_disjoint (value_of c.args.state.now) c.args.node c.args.client c.requires.parts.shape c.requires.parts.world c.requires.full c.requires.client

pub log-requires-2 : goal.log-requires-2
log-requires-2 g c =
    let s = value_of c.args.state.now in
    record {
      there = subst (λ rs. HasLog rs c.args.node c.args.client) (sym c.in_ok-count.ensures.ok)
          (has_after s.nodes c.args.node c.args.client c.in_ok-count.count
          (has_here s c.args.node c.args.client c.requires.parts.shape c.requires.parts.world c.requires.full c.requires.client));
    }

pub effects_from-written-requires : goal.effects_from-written-requires
effects_from-written-requires g c = record { few = omega (arith, c.in_ok-count.ensures.at_most, c.requires.few_wanted) }

-- how many inodes are noted, and which

all_touched : (g : given.Over) (c : goal.After-deref g) →
    c.deref.result.now ≡ touched (all_effects (take c.args.wanted (ahead (log_in (value_of c.args.state.now).nodes c.args.node c.args.client))))
all_touched g c =
    let log = c.log.ensures.log in
    let from = c.digested-from.ensures in
    let added = c.in_ok-push_touched_from.ensures.added
    ∙ ap (λ xs. xs ++ touched (all_effects (take c.args.wanted (records_from c.log.result.now c.digested-from.result)))) c.new-inodes.ensures.items in
    c.deref.ensures.value ∙ added ∙ (λ i. touched (all_effects (take c.args.wanted (records_from (log i) (from i)))))

counted_now : (g : given.Over) (c : goal.After-deref g) →
    c.effects_from-written.result ≡ length (all_effects (take c.in_ok-count.count (ahead (log_in (value_of c.args.state.now).nodes c.args.node c.args.client))))
counted_now g c =
    let s = value_of c.args.state.now in
    let has = has_here s c.args.node c.args.client c.requires.parts.shape c.requires.parts.world c.requires.full c.requires.client in
    let log =
    c.log-2.ensures.log
    ∙ ap (λ rs. (log_in rs c.args.node c.args.client).log) c.in_ok-count.ensures.ok
    ∙ ap (λ l. l.log) (log_after s.nodes c.args.node c.args.client c.in_ok-count.count has) in
    let from = c.digested-from.ensures in
    c.effects_from-written.ensures ∙ (λ i. length (all_effects (take c.in_ok-count.count (records_from (log i) (from i)))))

low_now : (g : given.Over) (c : goal.After-deref g) → c.effects_from-written.result ≤ length c.deref.result.now
low_now g c =
    let rs = ahead (log_in (value_of c.args.state.now).nodes c.args.node c.args.client) in
    let all = ap length (all_touched g c) ∙ length-map (all_effects (take c.args.wanted rs)) touched_by in
    let few = fewer_effects rs c.in_ok-count.count c.args.wanted c.in_ok-count.ensures.at_most in
    omega (arith, counted_now g c, all, few)

pub slice_bounds-note_reserved-end : goal.slice_bounds-note_reserved-end
slice_bounds-note_reserved-end g c = (let taken = length-take c.effects_from-written.result c.deref.result.now in omega (arith, taken, low_now g c))

pub note_reserved-requires : goal.note_reserved-requires
note_reserved-requires g c =
    let taken = length-take c.effects_from-written.result c.deref.result.now in
    record {
      room =
          room_for_fewer (length (take c.effects_from-written.result c.deref.result.now)) c.len.result
          (omega (arith, taken, c.deref.ensures.len, c.len.ensures)) c.reserve_written.new.self c.args.node
          c.in_ok-reserve_written.ensures.room;
    }

pub returns-clause-ok : goal.returns-clause-ok
returns-clause-ok g c =
    let s = value_of c.args.state.now in
    let rs = ahead (log_in s.nodes c.args.node c.args.client) in
    let has = has_here s c.args.node c.args.client c.requires.parts.shape c.requires.parts.world c.requires.full c.requires.client in
    let inodes = (λ i. take (counted_now g c.before.before i) (all_touched g c.before.before i)) ∙ prefix_touched rs c.in_ok-count.count c.args.wanted
    c.in_ok-count.ensures.at_most in
    let members = c.note_reserved.ensures ∙ ap (λ m. noted m c.args.node (set.from_list (take c.effects_from-written.result c.deref.result.now)))
    c.reserve_written.ensures.same in
    digests_as s c.args.node c.args.client c.in_ok-count.count has c.digest_some.new.self (membership c.note_reserved.new.self)
    (take c.effects_from-written.result c.deref.result.now)
    c.in_ok-count.ensures.ok members inodes

pub returns-clause-group : goal.returns-clause-group
returns-clause-group g c =
    whole_as (value_of c.args.state.now) c.args.node c.args.client c.requires.parts.shape c.requires.parts.world c.requires.full c.requires.client
    c.in_ok-count.count (omega (arith, c.in_ok-count.ensures.at_most, c.requires.wanted))
    c.in_ok-count.ensures.groups
