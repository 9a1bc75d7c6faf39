use Rattle.assise_machine_calls.proofs.Common.{◌≡◌, ◌++◌, ◌∷◌, [], None, ap, refl, sym, ◌∙◌, levels_of, end_of_log, client_fault, client_in, crashed_at}
use Rattle.assise_machine_calls.proofs.Common.{with_client, observed, world_of, StateValue, value_of}
use Rattle.assise_model_events.specs.ClientEvents.Crashing.{is_refused}
use Rattle.assise_machine_calls.proofs.SyncChanges.{fine_number, place_is}
use Rattle.assise_machine_calls.proofs.Crashed.{HasCrashed, given}
use Rattle.assise_machine_calls.proofs.crash.crash.Given as over
use Rattle.assise_machine_calls.proofs.crash.crash.Goals as goal

pub returns-in-Some-clause-happens : goal.returns-in-Some-clause-happens
returns-in-Some-clause-happens g c = is_refused c.in-Some.refusal (sym c.client_refusal.ensures ∙ c.in-Some.is) refl refl

pub own_log-requires-clause-client : goal.own_log-requires-clause-client
own_log-requires-clause-client g c = fine_number (value_of c.args.sound.now.state) c.args.client (sym c.client_refusal.ensures ∙ c.in_default.is)

pub crash-requires : goal.crash-requires
crash-requires g c = record { client = fine_number (value_of c.args.sound.now.state) c.args.client (sym c.client_refusal.ensures ∙ c.in_default.is) }

-- the client has crashed
has_crashed : (g : over.Over) (c : goal.After-push g) →
    HasCrashed (value_of c.args.sound.now.state) c.args.client c.crash.new.self (levels_of c.freeze.new.self) c.note_all.new.cuts.items c.push.new.self.events
has_crashed g c =
    let s : StateValue = value_of c.args.sound.now.state in
    let fine : client_fault (observed s) c.args.client ≡ None = sym c.client_refusal.ensures ∙ c.in_default.is in
    let place : c.end-end.result ≡ end_of_log (world_of s) c.args.client =
    place_is s c.args.client c.end-end.result c.own_log.result.now c.args.sound.now.invariant.shape fine c.args.sound.now.state.members.lawful.some_full
    c.own_log.ensures.log c.end-end.ensures.end in
    record {
      holds = c.args.sound.now.invariant.holds;
      shape = c.args.sound.now.invariant.shape;
      noted = c.args.sound.now.invariant.noted;
      fine = fine;
      asked = c.in_ok-asked.asked.items;
      revoked = c.freeze.ensures.revoked;
      left = record { once = c.in_ok-asked.ensures.once; all = c.in_ok-asked.ensures.all };
      clients = c.crash.ensures ∙ ap (λ k. with_client s.clients c.args.client (crashed_at k (client_in s.clients c.args.client))) place;
      cuts = c.note_all.ensures ∙ (λ i. c.reserve-2.ensures.items i ++ c.into_iter.ensures.rest i);
      history = c.push.ensures.grown ∙ (λ i. c.reserve.ensures.same i ++ c.crash-2.ensures i ∷ []);
    }

pub invariant_of-sound-2 : goal.invariant_of-sound-2
invariant_of-sound-2 g c = let done = given (has_crashed g c) in record { invariant = record { holds = done.holds; shape = done.shape; noted = done.noted } }

pub returns-clause-happens : goal.returns-clause-happens
returns-clause-happens g c = (given (has_crashed g c.before)).happens
