-- What is seen of the main thread, and what it does in one take.
-- Assise (OSDI 2020), section 3 (digests, process crash, fail-over, recovery).
use Rattle.assise_keeper.specs.declared.keeper.Keeper.{Keeper}
use Rattle.assise_keeper.specs.Passes.{last}
use Rattle.assise_machine.specs.declared.cluster.ClusterOf.{ClusterOf}
use Rattle.assise_model_events.specs.Events.{back, crash, digest, fail, join, raise, refill, release_ready}
use Rattle.assise_model_events.specs.Machine.{Machine}
use Rattle.assise_console.specs.declared.response.Response.{Response}
use Rattle.assise_rounds.specs.Traces.{Told}
use Rattle.assise_console.specs.OneEvent.{IsOne, IsOneAt}
use Rattle.assise_console.specs.Steps.{SetsHot}
use Rattle.assise_threads.specs.Answered.{ChecksHistory, ShowsTree}
use Rattle.assise_threads.specs.LastSeen.{machine_seen}
use Rattle.assise_threads.specs.declared.main_thread.MainThreadOf.{MainThreadOf}
use Rattle.assise_threads.specs.declared.takes.Take.{Take}
use Rattle.assise_threads.specs.declared.takes.Take.TheVariants.{Digest, Release, SetHot, Crash, Fail, BeginReturn, Refill, Join, Raise, Tree, Check}

-- the machine that the main thread's pass has seen last
abbrev pub main_seen : {C : Type 0} → MainThreadOf C → Machine
main_seen t = machine_seen (last t.pass)

-- the keeper that it is lent
abbrev pub main_keeper : {C : Type 0} → MainThreadOf C → Keeper (ClusterOf C)
main_keeper t = t.keeper.now

abbrev pub DoesTake : Take → Response → Machine → Told → Machine → Type 0
DoesTake (Digest n) a = IsOne (digest n) a
DoesTake Release a = IsOne release_ready a
DoesTake (SetHot n capacity) a = SetsHot n capacity a
DoesTake (Crash c) a = IsOneAt crash c a
DoesTake (Fail n) a = IsOneAt fail n a
DoesTake (BeginReturn n) a = IsOneAt back n a
DoesTake (Refill n) a = IsOneAt refill n a
DoesTake (Join n) a = IsOneAt join n a
DoesTake (Raise n) a = IsOneAt raise n a
DoesTake (Tree n) a = ShowsTree n a
DoesTake Check a = ChecksHistory a
