-- A trace from the start in which there is each kind of entry.
use Rattle.assise_model_history.proofs.Common.{◌≡◌, true, false, List, [], ◌∷◌, ◌++◌, refl, ap, ◌∙◌, arith, Pessimistic, Loss, opens, calls, crashes, fails}
use Rattle.assise_model_history.proofs.Common.{returns, is_sync, NumberedCall, WorldInvariant, Full, end_of_log, received_by_all, received_by_all-end}
use Rattle.assise_model_history.proofs.Common.{plain_call, State, IsNode, begun_with, losses_of, IsOpening, IsCall, IsCrash, IsFailure, IsReturn, opening, call}
use Rattle.assise_model_history.proofs.Common.{crash, failure, comeback, IsTrace, last_of, IsEventful}
use Rattle.assise_model_world.proofs.Shared.QuietSteps.{end-same}
use Rattle.assise_model_history.proofs.EntriesPossible.{can_open, can_fsync, can_crash, can_fail, can_return}
use Rattle.assise_model_history.proofs.Shared.TracesKeep.{begun_sound, happens_sound}

abbrev start : State
start = begun_with 2

-- a client is opened on node 1
opened : (t : State) × IsOpening start 1 Pessimistic t
opened = can_open start 1 Pessimistic refl

abbrev with_client : State
with_client = opened.0

client_sound : WorldInvariant with_client.world
client_sound = happens_sound start with_client (begun_sound 2) (opening 1 Pessimistic opened.1)

client_lives : with_client.world.lives 1 ≡ true
client_lives = opened.1.world.lives_new

client_runs : with_client.world.crashed 1 ≡ false
client_runs = opened.1.world.crashed_new

nothing_yet : end_of_log start.world 1 ≡ 0
unfolding end_of_log
nothing_yet = refl

client_received : received_by_all with_client.world 1 ≡ end_of_log with_client.world 1
client_received = grind (arith, end-same start.world with_client.world opened.1.world.logs 1, nothing_yet, received_by_all-end with_client.world 1)

-- it makes an fsync
fsynced : (x : NumberedCall) × ((x.client ≡ 1) × (is_sync x.op Pessimistic ≡ true) × ((t : State) × IsCall with_client x t))
fsynced = grind (arith, can_fsync, client_sound, client_lives, client_runs, client_received)

abbrev with_fsync : State
with_fsync = fsynced.1.2.0

fsync_call : IsCall with_client fsynced.0 with_fsync
fsync_call = fsynced.1.2.1

-- it crashes
crashed : (t : State) × IsCrash with_fsync 1 t
crashed = can_crash with_fsync 1 (fsync_call.world.clients.lives 1 ∙ client_lives) (fsync_call.world.clients.crashed 1 ∙ client_runs)

abbrev with_crash : State
with_crash = crashed.0

crash_full : with_crash.world.full ≡ 2 ∷ 1 ∷ []
crash_full = crashed.1.world.nodes.full ∙ fsync_call.world.full ∙ opened.1.world.nodes.full

-- node 1 fails
abbrev lost : List Loss
lost = losses_of with_crash.world 1

failed : (t : State) × IsFailure with_crash 1 t
failed = can_fail with_crash 1 record { full_node = rw crash_full refl; survivor = (2, ((λ same. cc), rw crash_full refl)) }

abbrev with_failure : State
with_failure = failed.0

failure_full : Full with_failure.world 2
failure_full = failed.1.world.others 2 (rw crash_full refl) (λ same. cc)

failure_node : IsNode with_failure 1
failure_node =
    let nodes : with_failure.nodes ≡ 2 = failed.1.adds.nodes ∙ crashed.1.adds.nodes ∙ fsync_call.adds.nodes ∙ opened.1.adds.nodes in
    (omega arith, omega (arith, nodes))

-- and it returns, with all that node 2 has
returned : (t : State) × IsReturn with_failure 1 2 t
returned = can_return with_failure 1 2 failure_node failed.1.world.gone failure_full

abbrev with_return : State
with_return = returned.0

trace : IsTrace start (with_client ∷ with_fsync ∷ with_crash ∷ with_failure ∷ with_return ∷ [])
trace = (opening 1 Pessimistic opened.1, (call fsynced.0 fsync_call, (crash 1 crashed.1, (failure 1 failed.1, (comeback 1 2 returned.1, tt)))))

entries : with_return.history ≡ opens 1 1 Pessimistic ∷ calls (plain_call fsynced.0) ∷ crashes 1 ∷ fails 1 lost ∷ returns 1 ∷ []
entries =
    returned.1.adds.entry
    ∙ ap (λ h. h ++ returns 1 ∷ []) failed.1.adds.entry
    ∙ ap (λ h. (h ++ fails 1 lost ∷ []) ++ returns 1 ∷ []) crashed.1.adds.entry
    ∙ ap (λ h. ((h ++ crashes 1 ∷ []) ++ fails 1 lost ∷ []) ++ returns 1 ∷ []) fsync_call.adds.entry
    ∙ ap (λ h. (((h ++ calls (plain_call fsynced.0) ∷ []) ++ crashes 1 ∷ []) ++ fails 1 lost ∷ []) ++ returns 1 ∷ []) opened.1.adds.entry

pub eventful : (ts : List State) × (IsTrace (begun_with 2) ts × IsEventful (last_of (begun_with 2) ts).history)
eventful = (
  with_client ∷ with_fsync ∷ with_crash ∷ with_failure ∷ with_return ∷ [],
  (trace, record { sync = plain_call fsynced.0; losses = lost; is_one = fsynced.1.1; entries = entries }),
)
