use Rattle.assise_machine.proofs.Common.{◌<◌, length, refl, ap, sym, subst, ◌∙◌, arith, undigested_to, observed, world_of, value_of, MachineInvariant}
use Rattle.assise_machine.proofs.Common.{CutsInvariant, ShapeInvariant, sound_so}
use Rattle.assise_model_events.specs.NodeEvents.Digesting.{is_refused}
use Rattle.assise_machine.proofs.Frames.{few_clients, fine_node}
use Rattle.assise_machine.proofs.WholeDigest.{Begins, Gives, begins, gives_as, lacks, lists_of, nothing_digested, same}
use Rattle.assise_machine.proofs.DigestedTo.{GoesTo}
use Rattle.assise_machine.proofs.digesting.digest.Given as given
use Rattle.assise_machine.proofs.digesting.digest.Goals as goal
use Rattle.assise_machine.proofs.digesting.digest.Goals.{else-progress-via-then-progress+else-progress-eq0, else-progress-via-else-progress}
use Rattle.assise_machine.proofs.digesting.digest.Goals.{After-digest_to-progress, After-drop_digested}

pub returns-in-Some-clause-happens : goal.returns-in-Some-clause-happens
returns-in-Some-clause-happens g c = is_refused c.in-Some.refusal (sym c.node_refusal.ensures ∙ c.in-Some.is) refl refl

pub overflow_cast-last : goal.overflow_cast-last
overflow_cast-last g c = omega (arith, c.len-last.ensures, few_clients (value_of c.args.sound.now.state) c.args.sound.now.invariant.holds)

pub digest_to-progress-requires-clause-full : goal.digest_to-progress-requires-clause-full
digest_to-progress-requires-clause-full g c = fine_node (value_of c.args.sound.now.state) c.args.node (sym c.node_refusal.ensures ∙ c.in_default.is)

pub digest_to-progress-requires-clause-parts : goal.digest_to-progress-requires-clause-parts
digest_to-progress-requires-clause-parts g c = record {
  world = sound_so (value_of c.args.sound.now.state) c.args.sound.now.invariant.holds;
  shape = c.args.sound.now.invariant.shape;
}

pub digest_to-progress-requires-clause-lists : goal.digest_to-progress-requires-clause-lists
digest_to-progress-requires-clause-lists g c = lists_of (value_of c.args.sound.now.state) c.args.sound.now.invariant.holds

begun : (g : given.Over) (c : After-digest_to-progress g) → Begins (value_of c.args.sound.now.state) c.args.node
begun g c = begins c.args.sound.now c.args.node (sym c.node_refusal.ensures ∙ c.in_default.is)

-- all clients had their turn
gone : (g : given.Over) (c : After-digest_to-progress g) → let s = value_of c.args.sound.now.state in let p = c.digest_to-progress.result in
    GoesTo s c.args.node (length s.clients) (value_of c.digest_to-progress.new.state) p.count p.refused p.ended
gone g c = rw (← c.len-last.ensures) (assumption c.digest_to-progress.ensures)

-- where memory ran out before the first, all is as it was

pub invariant_of-sound-then-progress-eq0 : goal.invariant_of-sound-then-progress-eq0
invariant_of-sound-then-progress-eq0 g c =
    let at = (goal.at.invariant_of-sound-then-progress-eq0 g c).After-digest_to-progress in
    let same = nothing_digested (begun g at) (gone g at) c.if-progress-eq0.true in
    record {
      invariant = record {
        holds = subst (λ s. ∥ MachineInvariant (observed s) ∥₁) (sym same) c.args.sound.now.invariant.holds;
        shape = subst ShapeInvariant (sym same) c.args.sound.now.invariant.shape;
        noted = subst CutsInvariant (sym same) c.args.sound.now.invariant.noted;
      };
    }

pub returns-then-progress-eq0-clause-happens : goal.returns-then-progress-eq0-clause-happens
returns-then-progress-eq0-clause-happens g c =
    let at = (goal.at.returns-then-progress-eq0-clause-happens g c).After-digest_to-progress in
    lacks (begun g at) (gone g at) c.if-progress.true c.if-progress-eq0.true

-- between the digests and the prefixes that go

pub drop_digested-requires-clause-last : goal.drop_digested-requires-clause-last
drop_digested-requires-clause-last g c =
    let at = (goal.at.drop_digested-requires-clause-last g c).After-digest_to-progress in
    omega (arith, ap length (same (begun g at) (gone g at)).clients, c.len-last.ensures)

pub drop_digested-requires-clause-parts : goal.drop_digested-requires-clause-parts
drop_digested-requires-clause-parts g c =
    let at = (goal.at.drop_digested-requires-clause-parts g c).After-digest_to-progress in
    let still = same (begun g at) (gone g at) in
    record { world = still.sound; shape = still.shape }

-- what is given then

given_now : (g : given.Over) (c : After-drop_digested g) →
    Gives (value_of c.args.sound.now.state) c.args.node c.digest_to-progress.result.count (value_of c.drop_digested.new.state)
given_now g c =
    let at = (goal.at.After-drop_digested g c).After-digest_to-progress in
    let go = gone g at in
    let s = value_of c.args.sound.now.state in
    let some : 0 < undigested_to (world_of s) c.args.node (length s.clients) → 0 < c.digest_to-progress.result.count =
    elim c.else-progress.branch [
      | else-progress-via-then-progress+else-progress-eq0 w ↦ (λ left. omega (arith, w.if-progress-eq0.false))
      | else-progress-via-else-progress w ↦ go.some w.if-progress.false
    ] in
    gives_as (begun g at) go some (rw c.len-last.ensures at c.drop_digested.ensures.drops)

pub invariant_of-sound-2 : goal.invariant_of-sound-2
invariant_of-sound-2 g c = (let gives = given_now g c in record { invariant = record { holds = gives.holds; shape = gives.shape; noted = gives.noted } })

pub returns-clause-happens : goal.returns-clause-happens
returns-clause-happens g c = (given_now g c.before).happens
