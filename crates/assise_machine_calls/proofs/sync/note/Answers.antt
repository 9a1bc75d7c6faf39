use Rattle.assise_machine_calls.proofs.Common.{◌≡◌, ◌+◌, ◌++◌, ◌∷◌, [], length, refl, ap, ◌∙◌, arith, length_push, err_from_is_err_and, refused, client_in}
use Rattle.assise_machine_calls.proofs.Common.{observed, value_of, turn_answer}
use Rattle.assise_model_events.specs.ClientEvents.Noting.{lacks_memory}
use Rattle.assise_machine_calls.proofs.SyncChanges.{fine_number, made_fits, next_fits, noted_given}
use Rattle.assise_machine_calls.proofs.sync.note.Goals as goal

pub returns-in_err-reserve : goal.returns-in_err-reserve
unfolding observed
returns-in_err-reserve g c =
    let s = value_of c.args.sound.now.state in
    let error = err_from_is_err_and c.from_residual.result c.from_residual.ensures.1 in
    record {
      happens = lacks_memory c.requires.fine (ap turn_answer error.1 ∙ ap refused error.2)
          (ap (λ h. observed (record s { history = h })) c.reserve.ensures.same);
      revokers = λ d. refl;
    }

pub get-requires : goal.get-requires
get-requires g c = record { client = fine_number (value_of c.args.sound.now.state) c.args.client c.requires.fine }

pub note_call-requires-clause-client : goal.note_call-requires-clause-client
note_call-requires-clause-client g c = fine_number (value_of c.args.sound.now.state) c.args.client c.requires.fine

pub note_call-requires-clause-next : goal.note_call-requires-clause-next
note_call-requires-clause-next g c =
    let s = value_of c.args.sound.now.state in
    let more : length c.push.new.self.events ≡ length s.history + 1 =
    ap length (c.push.ensures.grown ∙ ap (λ h. h ++ c.call.result ∷ []) c.reserve.ensures.same) ∙ length_push s.history c.call.result in
    next_fits s c.args.client c.requires.fine c.args.sound.now.invariant.holds (client_in s.clients c.args.client) refl
    (omega (arith, more, c.push.ensures.few))

pub note_call-requires-clause-made : goal.note_call-requires-clause-made
note_call-requires-clause-made g c =
    let s = value_of c.args.sound.now.state in
    made_fits s c.args.client c.requires.fine c.args.sound.now.invariant.holds (client_in s.clients c.args.client) refl

pub invariant_of-sound-2 : goal.invariant_of-sound-2
invariant_of-sound-2 g c =
    let s = value_of c.args.sound.now.state in
    let given =
    noted_given s c.args.client c.args.sound.now.invariant.shape c.requires.fine c.args.sound.now.invariant.holds c.requires.optimistic
    c.args.sound.now.invariant.noted
    c.next-number.result c.call.result c.note_call.new.self c.reserve.new.self.events c.push.new.self.events
    (c.next-number.ensures ∙ ap (λ x. x.next) c.get.ensures) c.call.ensures c.note_call.ensures c.reserve.ensures.same c.push.ensures.grown
    in
    record { invariant = record { holds = given.holds; shape = given.shape; noted = given.noted } }

pub returns : goal.returns
returns g c =
    let s = value_of c.args.sound.now.state in
    let given =
    noted_given s c.args.client c.args.sound.now.invariant.shape c.requires.fine c.args.sound.now.invariant.holds c.requires.optimistic
    c.args.sound.now.invariant.noted
    c.next-number.result c.call.result c.note_call.new.self c.reserve.new.self.events c.push.new.self.events
    (c.next-number.ensures ∙ ap (λ x. x.next) c.get.ensures) c.call.ensures c.note_call.ensures c.reserve.ensures.same c.push.ensures.grown
    in
    record { happens = given.happens; revokers = λ d. refl }
