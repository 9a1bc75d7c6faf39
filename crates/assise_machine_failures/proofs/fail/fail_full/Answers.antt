use Rattle.assise_machine_failures.proofs.Common.{ap, refl, ◌∙◌, arith, err_from_is_err_and, levels_of, refused, value_of, failing_answer}
use Rattle.assise_machine_failures.proofs.Failed.{IsRefreshed}
use Rattle.assise_machine_failures.proofs.FailedFull.{AreCopiesDropped, ArePrefixesDropped, IsTakenDown, given_now, happens_now, refreshed_now}
use Rattle.assise_machine_failures.proofs.FailedFull.{lacks_so, last_fault, no_fault, refused_as, returning_now, shaped_now}
use Rattle.assise_machine_failures.proofs.Shared.TakenDown.{few_clients, sound_so}
use Rattle.assise_machine_failures.proofs.fail.fail_full.Given as given
use Rattle.assise_machine_failures.proofs.fail.fail_full.Goals as goal

-- the node is taken down
taken_down : (g : given.Over) (c : goal.After-deref g) →
    IsTakenDown (value_of c.args.sound.now.state) c.args.node c.in_ok-failure.failure (value_of c.take_down.new.state) c.deref.result.now
taken_down g c =
    let m = (value_of c.args.sound.now.state).members in
    record {
      may = record {
        holds = c.args.sound.now.invariant.holds;
        shape = c.args.sound.now.invariant.shape;
        noted = c.args.sound.now.invariant.noted;
        stands = c.requires.full;
        fine = no_fault m c.args.node c.full_nodes.result.now c.requires.full c.full_nodes.ensures c.if-full_nodes-eq1.false;
      };
      listed = c.in_ok-failure.ensures.listed;
      levels = levels_of c.take_down.new.state.leases;
      revoked = c.in_ok-losses.ensures.revoked;
      down = c.in_ok-losses.ensures.down;
      filled = c.deref.ensures.value ∙ ap (λ p. p.1.items) c.in_ok-losses.ensures.answer;
    }

-- the nodes that were filled from it have lost their copies
copies_dropped : (g : given.Over) (c : goal.After-len-last g) →
    AreCopiesDropped (value_of c.args.sound.now.state) c.args.node c.in_ok-failure.failure (value_of c.drop_filled.new.state)
copies_dropped g c = record {
  taken = value_of c.take_down.new.state;
  nodes = c.deref.result.now;
  is_down = taken_down g c.before.before.before;
  lose = c.drop_filled.ensures.copies;
}

refreshed : (g : given.Over) (c : goal.After-len-last g) → IsRefreshed (value_of c.args.sound.now.state) c.args.node (value_of c.drop_filled.new.state)
refreshed g c = refreshed_now (copies_dropped g c)

-- the prefixes are dropped
prefixes_dropped : (g : given.Over) (c : goal.After-drop_digested g) →
    ArePrefixesDropped (value_of c.args.sound.now.state) c.args.node c.in_ok-failure.failure (value_of c.drop_digested.new.state)
prefixes_dropped g c = record {
  refreshed = value_of c.drop_filled.new.state;
  copies = copies_dropped g c.before;
  last = c.len-last.result;
  all = c.len-last.ensures;
  drops = c.drop_digested.ensures.drops;
}

pub returns-then-full_nodes-eq1-clause-happens : goal.returns-then-full_nodes-eq1-clause-happens
returns-then-full_nodes-eq1-clause-happens g c =
    let s = value_of c.args.sound.now.state in
    refused_as s c.args.node _ _ (last_fault s.members c.args.node c.full_nodes.result.now c.requires.full c.full_nodes.ensures c.if-full_nodes-eq1.true) refl

pub list-requires-clause-few : goal.list-requires-clause-few
list-requires-clause-few g c = few_clients (value_of c.args.sound.now.state) c.args.sound.now.invariant.holds

pub list-requires-clause-parts : goal.list-requires-clause-parts
list-requires-clause-parts g c = record {
  world = sound_so (value_of c.args.sound.now.state) c.args.sound.now.invariant.holds;
  shape = c.args.sound.now.invariant.shape;
}

pub returns-in_err-failure-clause-happens : goal.returns-in_err-failure-clause-happens
returns-in_err-failure-clause-happens g c =
    let s = value_of c.args.sound.now.state in
    let error = err_from_is_err_and c.from_residual.result c.from_residual.ensures.1 in
    let fine = no_fault s.members c.args.node c.full_nodes.result.now c.requires.full c.full_nodes.ensures c.if-full_nodes-eq1.false in
    lacks_so s s c.args.node (failing_answer c.from_residual.result) fine
    (ap failing_answer error.1 ∙ ap refused error.2) refl

pub returns-in_err-losses-clause-happens : goal.returns-in_err-losses-clause-happens
returns-in_err-losses-clause-happens g c =
    let s = value_of c.args.sound.now.state in
    let error = err_from_is_err_and c.from_residual-in_err-losses.result c.from_residual-in_err-losses.ensures.1 in
    let fine = no_fault s.members c.args.node c.full_nodes.result.now c.requires.full c.full_nodes.ensures c.if-full_nodes-eq1.false in
    lacks_so s (value_of c.take_down.new.state) c.args.node (failing_answer c.from_residual-in_err-losses.result) fine
    (ap failing_answer error.1 ∙ ap refused (error.2 ∙ c.in_err-losses.ensures.only_memory)) c.in_err-losses.ensures.err

pub drop_filled-requires-clause-returning : goal.drop_filled-requires-clause-returning
drop_filled-requires-clause-returning g c = returning_now (taken_down g c)

pub drop_filled-requires-clause-shape : goal.drop_filled-requires-clause-shape
drop_filled-requires-clause-shape g c = shaped_now (taken_down g c)

pub overflow_cast-last : goal.overflow_cast-last
overflow_cast-last g c = (let few = (refreshed g c).few in omega (arith, few, c.len-last.ensures))

pub drop_digested-requires-clause-parts : goal.drop_digested-requires-clause-parts
drop_digested-requires-clause-parts g c = record {
  world = (refreshed g c).sound;
  shape = (refreshed g c).shape;
}

pub invariant_of-sound-2 : goal.invariant_of-sound-2
invariant_of-sound-2 g c = let done =
    given_now (prefixes_dropped g c) in record { invariant = record { holds = done.holds; shape = done.shape; noted = done.noted } }

pub returns-clause-happens : goal.returns-clause-happens
returns-clause-happens g c =
    happens_now c.in_ok-losses.losses.items (prefixes_dropped g c.before.before) (ap (λ p. p.0.items) c.in_ok-losses.ensures.answer)
