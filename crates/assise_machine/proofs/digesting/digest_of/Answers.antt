use Rattle.assise_machine.proofs.Common.{◌≡◌, ◌<◌, min, sym, ◌∙◌, arith, ltb-false, ltb-true, undigested, world_of, value_of}
use Rattle.assise_machine.proofs.Digested.{digested_is, has_here, none_digested, none_whole, order, some_wanted, wanted_as}
use Rattle.assise_machine.proofs.digesting.digest_of.Given as given
use Rattle.assise_machine.proofs.digesting.digest_of.Goals as goal
use Rattle.assise_machine.proofs.digesting.digest_of.Goals.{After-whole_count-wanted}

pub digested-from-requires : goal.digested-from-requires
digested-from-requires g c = record {
  there = has_here (value_of c.args.state.now) c.args.node c.args.client c.requires.parts.shape c.requires.parts.world c.requires.full c.requires.client;
}

pub overflow_sub-acked : goal.overflow_sub-acked
overflow_sub-acked g c =
    let s = value_of c.args.state.now in
    let low = (order s c.args.node c.args.client c.requires.parts.shape c.requires.parts.world c.requires.full c.requires.client).replicated in
    let from = c.digested-from.ensures in
    let there = digested_is s c.args.node c.args.client c.requires.parts.shape c.requires.parts.world c.requires.full c.requires.client in
    omega (arith, low, from, there, c.acked-acked.ensures)

pub log-requires : goal.log-requires
log-requires g c = record {
  there = has_here (value_of c.args.state.now) c.args.node c.args.client c.requires.parts.shape c.requires.parts.world c.requires.full c.requires.client;
}

-- the most that may be digested; some of these end with a group where there are 64

most : (g : given.Over) (c : After-whole_count-wanted g) →
    c.min-most.result ≡ min c.args.at_most (undigested (world_of (value_of c.args.state.now)) c.args.node c.args.client)
most g c =
    wanted_as (value_of c.args.state.now) c.args.node c.args.client c.requires.parts.shape c.requires.parts.world c.requires.full c.requires.client
    c.digested-from.result c.acked-acked.result c.args.at_most c.min-most.result
    c.digested-from.ensures c.acked-acked.ensures c.min-most.ensures

some : (g : given.Over) (c : After-whole_count-wanted g) → c.args.at_most ≡ 64 →
    0 < undigested (world_of (value_of c.args.state.now)) c.args.node c.args.client →
    0 < c.whole_count-wanted.result
some g c =
    some_wanted (value_of c.args.state.now) c.args.node c.args.client c.requires.parts.shape c.requires.parts.world c.requires.full c.requires.client
    c.log.result.now c.digested-from.result c.acked-acked.result c.args.at_most
    c.min-most.result c.whole_count-wanted.result c.digested-from.ensures c.log.ensures.log c.acked-acked.ensures c.min-most.ensures
    c.whole_count-wanted.ensures.count c.whole_count-wanted.ensures.some

pub returns-then-wanted-eq0-clause-digests : goal.returns-then-wanted-eq0-clause-digests
returns-then-wanted-eq0-clause-digests g c =
    let s = value_of c.args.state.now in
    sym (none_digested s c.args.node c.args.client
    (has_here s c.args.node c.args.client c.requires.parts.shape c.requires.parts.world c.requires.full c.requires.client))

pub returns-then-wanted-eq0-clause-group : goal.returns-then-wanted-eq0-clause-group
returns-then-wanted-eq0-clause-group g c =
    none_whole (value_of c.args.state.now) c.args.node c.args.client c.requires.parts.shape c.requires.parts.world c.requires.full c.requires.client

pub returns-then-wanted-eq0-clause-all : goal.returns-then-wanted-eq0-clause-all
returns-then-wanted-eq0-clause-all g c whole =
    omega (arith, most g (goal.at.returns-then-wanted-eq0-clause-all g c).After-whole_count-wanted, ltb-false 0 c.min-most.result whole)

pub returns-then-wanted-eq0-clause-ended : goal.returns-then-wanted-eq0-clause-ended
returns-then-wanted-eq0-clause-ended g c ended =
    omega (arith, most g (goal.at.returns-then-wanted-eq0-clause-ended g c).After-whole_count-wanted, ltb-true 0 c.min-most.result ended)

pub returns-then-wanted-eq0-clause-some : goal.returns-then-wanted-eq0-clause-some
returns-then-wanted-eq0-clause-some g c fine all left =
    absurd (omega (arith, some g (goal.at.returns-then-wanted-eq0-clause-some g c).After-whole_count-wanted all left, c.if-wanted-eq0.true))

pub digest_wanted-requires-clause-wanted : goal.digest_wanted-requires-clause-wanted
digest_wanted-requires-clause-wanted g c =
    omega (arith, most g (goal.at.digest_wanted-requires-clause-wanted g c).After-whole_count-wanted, c.whole_count-wanted.ensures.within)

pub digest_wanted-requires-clause-few_wanted : goal.digest_wanted-requires-clause-few_wanted
digest_wanted-requires-clause-few_wanted g c = omega (arith, c.min-most.ensures, c.requires.few_most, c.whole_count-wanted.ensures.within)

pub returns-in-Ok-clause-few : goal.returns-in-Ok-clause-few
returns-in-Ok-clause-few g c =
    omega (arith, most g (goal.at.returns-in-Ok-clause-few g c).After-whole_count-wanted, c.in-Ok.ensures.few, c.whole_count-wanted.ensures.within)

pub returns-in-Ok-clause-all : goal.returns-in-Ok-clause-all
returns-in-Ok-clause-all g c whole =
    let high = ltb-false c.in-Ok.count c.min-most.result whole in
    omega (arith, most g (goal.at.returns-in-Ok-clause-all g c).After-whole_count-wanted, c.in-Ok.ensures.few, c.whole_count-wanted.ensures.within, high)

pub returns-in-Ok-clause-ended : goal.returns-in-Ok-clause-ended
returns-in-Ok-clause-ended g c ended =
    omega (arith, most g (goal.at.returns-in-Ok-clause-ended g c).After-whole_count-wanted, ltb-true c.in-Ok.count c.min-most.result ended)

pub returns-in-Ok-clause-some : goal.returns-in-Ok-clause-some
returns-in-Ok-clause-some g c fine all left =
    let wanted = some g (goal.at.returns-in-Ok-clause-some g c).After-whole_count-wanted all left in
    omega (arith, wanted, ltb-false c.in-Ok.count c.whole_count-wanted.result fine)

pub returns-in-Err-clause-digests : goal.returns-in-Err-clause-digests
returns-in-Err-clause-digests g c =
    let s = value_of c.args.state.now in
    c.in-Err.ensures.err ∙ sym (none_digested s c.args.node c.args.client
    (has_here s c.args.node c.args.client c.requires.parts.shape c.requires.parts.world c.requires.full c.requires.client))

pub returns-in-Err-clause-group : goal.returns-in-Err-clause-group
returns-in-Err-clause-group g c =
    none_whole (value_of c.args.state.now) c.args.node c.args.client c.requires.parts.shape c.requires.parts.world c.requires.full c.requires.client

pub returns-in-Err-clause-ended : goal.returns-in-Err-clause-ended
returns-in-Err-clause-ended g c ended =
    omega (arith, most g (goal.at.returns-in-Err-clause-ended g c).After-whole_count-wanted, c.if-wanted-eq0.false, c.whole_count-wanted.ensures.within)
