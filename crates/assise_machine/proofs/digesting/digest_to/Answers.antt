use Rattle.assise_machine.proofs.Common.{◌≡◌, ◌<◌, ◌≤◌, ◌+◌, ◌-◌, length, ap, subst, ◌∙◌, arith, not-false, not-true, value_of}
use Rattle.assise_machine.proofs.DigestedTo.{GoesTo, goes_on, goes_past, next_here, same_as}
use Rattle.assise_machine.proofs.digesting.digest_to.Given as given
use Rattle.assise_machine.proofs.digesting.digest_to.Goals as goal
use Rattle.assise_machine.proofs.digesting.digest_to.Goals.{else-not-progress, then-not-progress, Joined-not-progress}

pub digest_of-own-requires : goal.digest_of-own-requires
digest_of-own-requires g c =
    let s = value_of c.args.state.now in
    let parts = c.requires.parts in
    let m = c.loop-client.client - 1 in
    let low : m < length s.clients = omega (arith, c.loop-client.auto.client, c.loop-client-test.true, c.requires.last) in
    let same = same_as s c.args.node parts.shape parts.world c.requires.full m (omega (arith, low)) c.loop-client.invariant.goes in
    record {
      full = next_here s c.args.node parts.shape parts.world c.requires.full (value_of c.loop-client.state) m same low;
      client = record { some = c.loop-client.auto.client; there = omega (arith, ap length same.clients, c.loop-client-test.true, c.requires.last) };
      few_most = omega arith;
      parts = record { world = same.sound; shape = same.shape };
      lists = same.lists c.requires.lists;
    }

-- with the client's digest, if there was one
done_now : (g : given.Over) (c : Joined-not-progress g) → let p = c.if-not-progress.progress in
    GoesTo (value_of c.args.state.now) c.args.node c.loop-client.client (value_of c.if-not-progress.state) p.count p.refused p.ended
    × (c.if-not-progress.state.leases ≡ c.args.state.now.leases)
done_now g c =
    let k = c.loop-client.client in
    let s = value_of c.args.state.now in
    let n = c.args.node in
    let parts = c.requires.parts in
    let p = c.loop-client.progress in
    let was = c.loop-client.invariant in
    let some = c.loop-client.auto.client in
    let low : k ≤ length s.clients = omega (arith, c.loop-client-test.true, c.requires.last) in
    elim c.if-not-progress.branch [
      | then-not-progress b ↦
          let e = b.digest_of-own.ensures in
          let go = subst (GoesTo s n (k - 1) (value_of c.loop-client.state) p.count p.refused) (not-true p.ended b.if-not-progress.true) was.goes in
          rw (b.state-is, b.progress-is) (
            goes_on s n parts.shape parts.world c.requires.full k some low go (assumption e),
            e.revokers ∙ was.revokers,
          )
      | else-not-progress b ↦
          let past = goes_past s n parts.shape parts.world c.requires.full k some low was.goes (not-false p.ended b.if-not-progress.false) in
          rw (b.state-is, b.progress-is) (past, was.revokers)
    ]

pub loop-client-preserved : goal.loop-client-preserved
loop-client-preserved g c =
    let done = done_now g (goal.at.loop-client-preserved g c).Joined-not-progress in
    let next : c.loop-client.client + 1 - 1 ≡ c.loop-client.client = omega arith in
    record { goes = rw next done.0; revokers = done.1; low = omega (arith, c.loop-client-test.true) }

-- the last client, behind which no number comes
pub returns-after-not-progress : goal.returns-after-not-progress
returns-after-not-progress g c =
    let done = done_now g (goal.at.returns-after-not-progress g c).Joined-not-progress in
    let last : c.args.last ≡ c.loop-client.client = omega (arith, c.loop-client-test.true) in
    rw last (assumption done)
