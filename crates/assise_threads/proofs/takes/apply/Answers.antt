use Rattle.assise_threads.proofs.Common.{[], refl, machine}
use Rattle.assise_threads.proofs.ShownTrees.{shown_is_replicated}
use Rattle.assise_threads.proofs.takes.apply.Goals as goal

pub returns-in-Digest-clause-does : goal.returns-in-Digest-clause-does
returns-in-Digest-clause-does g c = rw c.in-Digest.is c.digest.ensures

pub returns-in-Release-clause-does : goal.returns-in-Release-clause-does
returns-in-Release-clause-does g c = rw c.in-Release.is c.release.ensures

pub returns-in-SetHot-clause-does : goal.returns-in-SetHot-clause-does
returns-in-SetHot-clause-does g c = rw c.in-SetHot.is c.set_hot.ensures

pub returns-in-Crash-clause-does : goal.returns-in-Crash-clause-does
returns-in-Crash-clause-does g c = rw c.in-Crash.is c.crash.ensures

pub returns-in-Fail-clause-does : goal.returns-in-Fail-clause-does
returns-in-Fail-clause-does g c = rw c.in-Fail.is c.fail.ensures

pub returns-in-BeginReturn-clause-does : goal.returns-in-BeginReturn-clause-does
returns-in-BeginReturn-clause-does g c = rw c.in-BeginReturn.is c.begin_return.ensures

pub returns-in-Refill-clause-does : goal.returns-in-Refill-clause-does
returns-in-Refill-clause-does g c = rw c.in-Refill.is c.refill.ensures

pub returns-in-Join-clause-does : goal.returns-in-Join-clause-does
returns-in-Join-clause-does g c = rw c.in-Join.is c.join.ensures

pub returns-in-Raise-clause-does : goal.returns-in-Raise-clause-does
returns-in-Raise-clause-does g c = rw c.in-Raise.is c.raise.ensures

pub returns-in-Tree-clause-does : goal.returns-in-Tree-clause-does
returns-in-Tree-clause-does g c =
    rw c.in-Tree.is (
      [],
      record {
        shows = c.tree.ensures;
        replicated = shown_is_replicated (machine c.args.cluster.now) _ c.tree.result c.args.cluster.now.sound.invariant.holds
            c.tree.ensures;
        stays = refl;
      },
    )

pub returns-in-Check-clause-does : goal.returns-in-Check-clause-does
returns-in-Check-clause-does g c = rw c.in-Check.is ([], record { verdict = c.check.ensures; stays = refl })
