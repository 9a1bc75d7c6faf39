use Rattle.assise_machine_calls.proofs.Common.{◌≡◌, arith, end_of_log, received_by_all, observed, world_of, machine_of, value_of, turn_answer}
use Rattle.assise_machine_calls.proofs.GroupedSyncs.{as_coalescing}
use Rattle.assise_machine_calls.proofs.SyncChanges.{all_received, fine_number, place_is}
use Rattle.assise_machine_calls.proofs.sync.sync_groups.Goals as goal

pub own_log-requires-clause-client : goal.own_log-requires-clause-client
own_log-requires-clause-client g c = fine_number (value_of c.args.sound.now.state) c.args.client c.requires.fine

pub acked-requires-clause-client : goal.acked-requires-clause-client
acked-requires-clause-client g c = fine_number (value_of c.args.sound.now.state) c.args.client c.requires.fine

pub coalesce-requires-clause-lacking : goal.coalesce-requires-clause-lacking
unfolding observed
coalesce-requires-clause-lacking g c =
    let s = value_of c.args.sound.now.state in
    let place : c.end-end.result ≡ end_of_log (world_of s) c.args.client =
    place_is s c.args.client c.end-end.result c.own_log.result.now c.args.sound.now.invariant.shape c.requires.fine
    c.args.sound.now.state.members.lawful.some_full
    c.own_log.ensures.log c.end-end.ensures.end in
    omega (arith, place, c.acked.ensures, c.if-acked-end.true)

pub returns : goal.returns
unfolding observed
returns g c =
    let s = value_of c.args.sound.now.state in
    let place : c.end-end.result ≡ end_of_log (world_of s) c.args.client =
    place_is s c.args.client c.end-end.result c.own_log.result.now c.args.sound.now.invariant.shape c.requires.fine
    c.args.sound.now.state.members.lawful.some_full
    c.own_log.ensures.log c.end-end.ensures.end in
    let all : received_by_all (world_of s) c.args.client ≡ end_of_log (world_of s) c.args.client = all_received s c.args.client c.acked.result c.end-end.result
    c.acked.ensures place c.if-acked-end.false in
    record {
      happens = as_coalescing (observed s) (machine_of c.sync.new.sound.state) c.args.client (turn_answer c.sync.result) all c.sync.ensures.happens;
      revokers = c.sync.ensures.revokers;
    }
