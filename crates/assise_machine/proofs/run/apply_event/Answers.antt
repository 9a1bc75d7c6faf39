use Rattle.assise_machine.proofs.Common.{◌≡◌, ℕ, sym, subst, Answer, Machine, SettingHot, Event, setting_answer, machine, IsServed, event_seen, happens}
use Rattle.assise_machine.proofs.run.apply_event.Goals as goal

-- the event by its case
seen_so : {k : ℕ} {m m' : Machine} {e f : Event} {a : Answer} → e ≡ f → IsServed k m (event_seen f) a m' → IsServed k m (event_seen e) a m'
seen_so {k} {m} {m'} {e} {f} {a} is h = subst (λ x. IsServed k m (event_seen x) a m') (sym is) h

pub returns-in-Open-clause-served : goal.returns-in-Open-clause-served
returns-in-Open-clause-served g c = seen_so c.in-Open.is c.open_next.ensures.served

pub returns-in-Fsync-clause-served : goal.returns-in-Fsync-clause-served
returns-in-Fsync-clause-served g c = seen_so c.in-Fsync.is (happens c.try_fsync.ensures.happens)

pub returns-in-Outgoing-clause-served : goal.returns-in-Outgoing-clause-served
returns-in-Outgoing-clause-served g c = seen_so c.in-Outgoing.is (happens c.outgoing.ensures)

pub returns-in-Deliver-clause-served : goal.returns-in-Deliver-clause-served
returns-in-Deliver-clause-served g c = seen_so c.in-Deliver.is (happens c.deliver_copy.ensures.happens)

pub returns-in-Digest-clause-served : goal.returns-in-Digest-clause-served
returns-in-Digest-clause-served g c = seen_so c.in-Digest.is (happens c.digest.ensures.happens)

pub returns-in-ReleaseReady-clause-served : goal.returns-in-ReleaseReady-clause-served
returns-in-ReleaseReady-clause-served g c = seen_so c.in-ReleaseReady.is (happens c.release_ready.ensures.happens)

pub returns-in-SetHot-clause-served : goal.returns-in-SetHot-clause-served
returns-in-SetHot-clause-served g c =
    let set = subst (λ capacity. SettingHot (machine c.args.cluster.now) c.in-SetHot.node capacity (setting_answer c.set_hot.result)
    (machine c.set_hot.new.self)) c.get.ensures.value c.set_hot.ensures.happens in
    seen_so c.in-SetHot.is (happens set)

pub returns-in-Crash-clause-served : goal.returns-in-Crash-clause-served
returns-in-Crash-clause-served g c = seen_so c.in-Crash.is (happens c.crash.ensures.happens)

pub returns-in-Fail-clause-served : goal.returns-in-Fail-clause-served
returns-in-Fail-clause-served g c = seen_so c.in-Fail.is (happens c.fail.ensures.happens)

pub returns-in-Back-clause-served : goal.returns-in-Back-clause-served
returns-in-Back-clause-served g c = seen_so c.in-Back.is (happens c.back.ensures.happens)

pub returns-in-Refill-clause-served : goal.returns-in-Refill-clause-served
returns-in-Refill-clause-served g c = seen_so c.in-Refill.is (happens c.refill.ensures.happens)

pub returns-in-Raise-clause-served : goal.returns-in-Raise-clause-served
returns-in-Raise-clause-served g c = seen_so c.in-Raise.is (happens c.raise.ensures.happens)

pub returns-in-Join-clause-served : goal.returns-in-Join-clause-served
returns-in-Join-clause-served g c = seen_so c.in-Join.is (happens c.join.ensures.happens)
