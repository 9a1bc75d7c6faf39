use Rattle.assise_machine_calls.proofs.Common.{◌≡◌, ◌+◌, ◌++◌, ◌∷◌, [], length, refl, ap, ◌∙◌, arith, length_push, err_from_is_err_and, Done, calls, refused}
use Rattle.assise_machine_calls.proofs.Common.{client_in, observed, value_of, turn_answer, op_of, not_yet, replied}
use Rattle.assise_model_events.specs.ClientEvents.Syncing.{lacks_memory}
use Rattle.assise_machine_calls.proofs.SyncChanges.{all_received, answered_given, awaited_given, client_now, fine_number, made_fits, next_fits, place_is}
use Rattle.assise_machine_calls.proofs.SyncChanges.{Gives, SyncsTo, still_number, syncs_some}
use Rattle.assise_machine_calls.proofs.sync.sync.Given as over
use Rattle.assise_machine_calls.proofs.sync.sync.Goals as goal

-- what is awaited, with the invariant after it
awaited : (g : over.Over) (c : goal.After-raise_goal g) → Gives (SyncsTo (value_of c.args.sound.now.state) c.args.client (op_of c.args.which) not_yet)
    (record (value_of c.args.sound.now.state) { clients = c.raise_goal.new.self })
awaited g c =
    let s = value_of c.args.sound.now.state in
    let place = place_is s c.args.client c.end-end.result c.own_log.result.now c.args.sound.now.invariant.shape c.requires.fine
    c.args.sound.now.state.members.lawful.some_full c.own_log.ensures.log c.end-end.ensures.end in
    awaited_given s c.args.client (op_of c.args.which) c.end-end.result c.raise_goal.new.self
    c.args.sound.now.invariant.shape c.requires.fine c.args.sound.now.invariant.holds c.raise_goal.ensures place (syncs_some c.args.which)
    c.args.sound.now.invariant.noted c.acked.result c.acked.ensures c.if-acked-end.true

-- what is answered, with the invariant after it
answered : (g : over.Over) (c : goal.After-note_call g) →
    Gives (SyncsTo (value_of c.args.sound.now.state) c.args.client (op_of c.args.which) (replied Done))
    (record (value_of c.args.sound.now.state) { clients = c.note_call.new.self; history = c.push.new.self.events })
answered g c =
    let s = value_of c.args.sound.now.state in
    let place = place_is s c.args.client c.end-end.result c.own_log.result.now c.args.sound.now.invariant.shape c.requires.fine
    c.args.sound.now.state.members.lawful.some_full c.own_log.ensures.log c.end-end.ensures.end in
    let all = all_received s c.args.client c.acked.result c.end-end.result c.acked.ensures place c.if-acked-end.false in
    answered_given s c.args.client (op_of c.args.which) c.end-end.result c.raise_goal-2.new.self
    c.args.sound.now.invariant.shape c.requires.fine c.args.sound.now.invariant.holds c.raise_goal-2.ensures place (syncs_some c.args.which)
    c.args.sound.now.invariant.noted all c.next-number.result c.call.result c.note_call.new.self c.reserve.new.self.events
    c.push.new.self.events (c.next-number.ensures ∙ ap (λ x. x.next) c.get.ensures)
    (c.call.ensures ∙ ap (λ o. calls (record { client = c.args.client; number = c.next-number.result; op = o; reply = Done })) c.op_of.ensures)
    c.note_call.ensures c.reserve.ensures.same c.push.ensures.grown

pub own_log-requires-clause-client : goal.own_log-requires-clause-client
own_log-requires-clause-client g c = fine_number (value_of c.args.sound.now.state) c.args.client c.requires.fine

pub acked-requires-clause-client : goal.acked-requires-clause-client
acked-requires-clause-client g c = fine_number (value_of c.args.sound.now.state) c.args.client c.requires.fine

pub raise_goal-requires : goal.raise_goal-requires
raise_goal-requires g c = record { client = fine_number (value_of c.args.sound.now.state) c.args.client c.requires.fine }

pub invariant_of-sound : goal.invariant_of-sound
invariant_of-sound g c = record { invariant = record { holds = (awaited g c).holds; shape = (awaited g c).shape; noted = (awaited g c).noted } }

pub returns-then-acked-end : goal.returns-then-acked-end
returns-then-acked-end g c = record { happens = (awaited g c.before).happens; revokers = λ d. refl }

pub returns-in_err-reserve : goal.returns-in_err-reserve
unfolding observed
returns-in_err-reserve g c =
    let s = value_of c.args.sound.now.state in
    let place = place_is s c.args.client c.end-end.result c.own_log.result.now c.args.sound.now.invariant.shape c.requires.fine
    c.args.sound.now.state.members.lawful.some_full c.own_log.ensures.log c.end-end.ensures.end in
    let all = all_received s c.args.client c.acked.result c.end-end.result c.acked.ensures place c.if-acked-end.false in
    let error = err_from_is_err_and c.from_residual.result c.from_residual.ensures.1 in
    record {
      happens = lacks_memory c.requires.fine all (ap turn_answer error.1 ∙ ap refused error.2)
          (ap (λ h. observed (record s { history = h })) c.reserve.ensures.same);
      revokers = λ d. refl;
    }

pub get-requires : goal.get-requires
get-requires g c = record { client = fine_number (value_of c.args.sound.now.state) c.args.client c.requires.fine }

pub raise_goal-requires-2 : goal.raise_goal-requires-2
raise_goal-requires-2 g c = record { client = fine_number (value_of c.args.sound.now.state) c.args.client c.requires.fine }

pub note_call-requires-clause-client : goal.note_call-requires-clause-client
note_call-requires-clause-client g c =
    let s = value_of c.args.sound.now.state in
    still_number s c.args.client (op_of c.args.which) c.end-end.result c.raise_goal-2.new.self c.args.sound.now.invariant.shape c.requires.fine
    c.args.sound.now.invariant.holds c.raise_goal-2.ensures

pub note_call-requires-clause-next : goal.note_call-requires-clause-next
note_call-requires-clause-next g c =
    let s = value_of c.args.sound.now.state in
    let more : length c.push.new.self.events ≡ length s.history + 1 =
    ap length (c.push.ensures.grown ∙ ap (λ h. h ++ c.call.result ∷ []) c.reserve.ensures.same) ∙ length_push s.history c.call.result in
    let now = client_now s c.args.client (op_of c.args.which) c.end-end.result c.raise_goal-2.new.self c.args.sound.now.invariant.shape c.requires.fine
    c.args.sound.now.invariant.holds c.raise_goal-2.ensures in
    next_fits s c.args.client c.requires.fine c.args.sound.now.invariant.holds (client_in c.raise_goal-2.new.self c.args.client) (ap (λ y. y.next) now)
    (omega (arith, more, c.push.ensures.few))

pub note_call-requires-clause-made : goal.note_call-requires-clause-made
note_call-requires-clause-made g c =
    let s = value_of c.args.sound.now.state in
    let now = client_now s c.args.client (op_of c.args.which) c.end-end.result c.raise_goal-2.new.self c.args.sound.now.invariant.shape c.requires.fine
    c.args.sound.now.invariant.holds c.raise_goal-2.ensures in
    made_fits s c.args.client c.requires.fine c.args.sound.now.invariant.holds (client_in c.raise_goal-2.new.self c.args.client) (ap (λ y. y.made) now)

pub invariant_of-sound-2 : goal.invariant_of-sound-2
invariant_of-sound-2 g c = record { invariant = record { holds = (answered g c).holds; shape = (answered g c).shape; noted = (answered g c).noted } }

pub returns : goal.returns
returns g c = record { happens = (answered g c.before).happens; revokers = λ d. refl }
