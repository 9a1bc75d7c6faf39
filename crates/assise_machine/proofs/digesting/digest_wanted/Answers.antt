use Rattle.assise_machine.proofs.Common.{◌≤◌, length, ap, arith, full_nodes, standings, value_of}
use Rattle.assise_machine.proofs.Digested.{digests_unlisted, has_here, touch_disjoint, whole_as}
use Rattle.assise_machine.proofs.Shared.Results.{if_ok_as, if_ok_both}
use Rattle.assise_machine.proofs.digesting.digest_wanted.Given as given
use Rattle.assise_machine.proofs.digesting.digest_wanted.Goals as goal

pub digest_some-requires-clause-there : goal.digest_some-requires-clause-there
digest_some-requires-clause-there g c =
    has_here (value_of c.args.state.now) c.args.node c.args.client c.requires.parts.shape c.requires.parts.world c.requires.full c.requires.client

pub digest_some-requires-clause-disjoint : goal.digest_some-requires-clause-disjoint
digest_some-requires-clause-disjoint g c =
    touch_disjoint (value_of c.args.state.now) c.args.node c.args.client c.requires.parts.shape c.requires.parts.world c.requires.full c.requires.client

-- as many nodes are full as there are

all_full : (g : given.Over) (c : goal.After-digest_some g) → length (standings (value_of c.args.state.now)) ≤ length
    (full_nodes (standings (value_of c.args.state.now)))
all_full g c = (let counted = ap length c.full_nodes.ensures in omega (arith, c.if-full_nodes-len.false, c.len.ensures, c.requires.parts.shape.nodes, counted))

pub returns-clause-ok : goal.returns-clause-ok
returns-clause-ok g c =
    let s = value_of c.args.state.now in
    let has = has_here s c.args.node c.args.client c.requires.parts.shape c.requires.parts.world c.requires.full c.requires.client in
    if_ok_as c.digest_some.result _ _ c.digest_some.ensures.ok
    (λ count is. digests_unlisted s c.args.node c.args.client count has (all_full g c) c.requires.lists c.digest_some.new.self is)

pub returns-clause-group : goal.returns-clause-group
returns-clause-group g c =
    if_ok_both c.digest_some.result _ _ _ c.digest_some.ensures.at_most c.digest_some.ensures.groups
    (λ count low groups.
    whole_as (value_of c.args.state.now) c.args.node c.args.client c.requires.parts.shape c.requires.parts.world c.requires.full c.requires.client count
    (omega (arith, low, c.requires.wanted)) groups)
