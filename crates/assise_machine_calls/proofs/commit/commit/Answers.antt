use Rattle.assise_machine_calls.proofs.Common.{◌≡◌, ◌+◌, ◌<◌, ◌≤◌, ◌++◌, ◌∷◌, [], length, List, None, Some, true, refl, ap, sym, subst, ◌∙◌, arith, list_any}
use Rattle.assise_machine_calls.proofs.Common.{length_push, err_from_is_err_and, calls, has_some, makes, inode_number, end, LogHasRoom, RegionValue, Calling}
use Rattle.assise_machine_calls.proofs.Common.{replied, client_in, HasLog, log_in, observed, IsNumber, CutsInvariant, ShapeInvariant, value_of, step_in}
use Rattle.assise_machine_calls.proofs.CallCommits.{answered_given, call_log, call_made, call_number, end_fits, fault_is, has_room, lacking_given, next_fits}
use Rattle.assise_machine_calls.proofs.CallCommits.{refused_given}
use Rattle.assise_machine_calls.proofs.commit.commit.Goals as goal

pub room_refusal-requires-clause-client : goal.room_refusal-requires-clause-client
room_refusal-requires-clause-client g c = call_number (value_of c.args.state.now) c.args.client c.args.op.now c.requires.fine

pub room_refusal-requires-clause-few : goal.room_refusal-requires-clause-few
room_refusal-requires-clause-few g c =
    call_made (value_of c.args.state.now) c.args.client c.args.op.now c.requires.invariant.shape c.requires.fine c.requires.invariant.holds

pub room_refusal-requires-clause-log : goal.room_refusal-requires-clause-log
room_refusal-requires-clause-log g c = call_log (value_of c.args.state.now) c.args.client c.args.op.now c.requires.invariant.shape c.requires.fine

pub returns-in-Some-clause-happens : goal.returns-in-Some-clause-happens
returns-in-Some-clause-happens g c =
    let s = value_of c.args.state.now in
    refused_given s c.args.client c.args.op.now c.requires.invariant.shape c.requires.fine c.requires.invariant.holds (step_in c.args.outcome) c.requires.ready
    c.in-Some.refusal
    (fault_is s c.args.client c.args.outcome.effects.items c.deref.result.now c.room_refusal.result (Some c.in-Some.refusal) c.deref.ensures.value
    c.room_refusal.ensures c.in-Some.is)

pub get-known-requires : goal.get-known-requires
get-known-requires g c = record { client = call_number (value_of c.args.state.now) c.args.client c.args.op.now c.requires.fine }

pub inode_number-requires : goal.inode_number-requires
inode_number-requires g c =
    let few = call_made (value_of c.args.state.now) c.args.client c.args.op.now c.requires.invariant.shape c.requires.fine c.requires.invariant.holds in
    record { few = omega (arith, few, c.made.ensures, ap (λ x. x.made) c.get-known.ensures) }

pub returns-in_err-copy-clause-happens : goal.returns-in_err-copy-clause-happens
returns-in_err-copy-clause-happens g c =
    let error = err_from_is_err_and c.from_residual.result c.from_residual.ensures.1 in
    lacking_given (value_of c.args.state.now) c.args.client c.args.op.now c.from_residual.result _ c.args.state.now.nodes c.args.state.now.history.events
    c.requires.fine
    error.1 (error.2 ∙ c.in_err-copy.ensures.only_memory) refl refl

pub returns-in_err-copy-2-clause-happens : goal.returns-in_err-copy-2-clause-happens
returns-in_err-copy-2-clause-happens g c =
    let error = err_from_is_err_and c.from_residual-in_err-copy-2.result c.from_residual-in_err-copy-2.ensures.1 in
    lacking_given (value_of c.args.state.now) c.args.client c.args.op.now c.from_residual-in_err-copy-2.result _ c.args.state.now.nodes
    c.args.state.now.history.events c.requires.fine
    error.1 (error.2 ∙ c.in_err-copy-2.ensures.only_memory) refl refl

pub returns-in_err-reserve-clause-happens : goal.returns-in_err-reserve-clause-happens
returns-in_err-reserve-clause-happens g c =
    let error = err_from_is_err_and c.from_residual-in_err-reserve.result c.from_residual-in_err-reserve.ensures.1 in
    lacking_given (value_of c.args.state.now) c.args.client c.args.op.now c.from_residual-in_err-reserve.result _ c.args.state.now.nodes
    c.reserve.new.self.events c.requires.fine
    error.1 error.2 refl c.reserve.ensures.same

pub add_record-requires-clause-there : goal.add_record-requires-clause-there
add_record-requires-clause-there g c =
    let s = value_of c.args.state.now in
    let home : c.home-home.result ≡ (client_in s.clients c.args.client).home = c.home-home.ensures ∙ ap (λ y. y.home) c.get-known.ensures in
    subst (λ n. HasLog s.nodes n c.args.client) (sym home) (call_log s c.args.client c.args.op.now c.requires.invariant.shape c.requires.fine)

pub add_record-requires-clause-number_fits : goal.add_record-requires-clause-number_fits
add_record-requires-clause-number_fits g c =
    let s = value_of c.args.state.now in
    let home : c.home-home.result ≡ (client_in s.clients c.args.client).home = c.home-home.ensures ∙ ap (λ y. y.home) c.get-known.ensures in
    let few : length s.history < 9223372036854775808 = subst (λ h. length h < 9223372036854775808) c.reserve.ensures.same c.reserve.ensures.few in
    let fits = end_fits s c.args.client c.args.op.now c.requires.invariant.shape c.requires.fine c.requires.invariant.holds few in
    omega (arith, fits, ap (λ n. end (log_in s.nodes n c.args.client).log) home)

pub add_record-requires-clause-room : goal.add_record-requires-clause-room
add_record-requires-clause-room g c =
    let s = value_of c.args.state.now in
    let home : c.home-home.result ≡ (client_in s.clients c.args.client).home = c.home-home.ensures ∙ ap (λ y. y.home) c.get-known.ensures in
    let none = fault_is s c.args.client c.args.outcome.effects.items c.deref.result.now c.room_refusal.result None c.deref.ensures.value c.room_refusal.ensures
    c.in_default.is in
    subst (λ n. has_some c.args.outcome.effects.items ≡ true → LogHasRoom (log_in s.nodes n c.args.client)) (sym home)
    (has_room s c.args.client c.args.op.now c.requires.invariant.shape c.requires.fine c.requires.invariant.holds (step_in c.args.outcome) c.requires.ready
    none)

pub returns-in_err-add_record-clause-happens : goal.returns-in_err-add_record-clause-happens
returns-in_err-add_record-clause-happens g c =
    let error = err_from_is_err_and c.from_residual-in_err-add_record.result c.from_residual-in_err-add_record.ensures.1 in
    lacking_given (value_of c.args.state.now) c.args.client c.args.op.now c.from_residual-in_err-add_record.result _ c.add_record.new.nodes
    c.reserve.new.self.events c.requires.fine
    error.1 error.2 c.in_err-add_record.ensures.err c.reserve.ensures.same

pub note_call-requires-clause-client : goal.note_call-requires-clause-client
note_call-requires-clause-client g c = call_number (value_of c.args.state.now) c.args.client c.args.op.now c.requires.fine

pub note_call-requires-clause-next : goal.note_call-requires-clause-next
note_call-requires-clause-next g c =
    let s = value_of c.args.state.now in
    let more : length c.push.new.self.events ≡ length s.history + 1 =
    ap length (c.push.ensures.grown ∙ ap (λ h. h ++ c.call-entry.result ∷ []) c.reserve.ensures.same) ∙ length_push s.history c.call-entry.result in
    next_fits s c.args.client c.args.op.now c.requires.invariant.shape c.requires.fine c.requires.invariant.holds (omega (arith, more, c.push.ensures.few))

pub touch_all-requires : goal.touch_all-requires
touch_all-requires g c =
    let s = value_of c.args.state.now in
    let home : c.home-home.result ≡ (client_in s.clients c.args.client).home = c.home-home.ensures ∙ ap (λ y. y.home) c.get-known.ensures in
    let node : IsNumber s.nodes c.home-home.result =
    subst (λ n. IsNumber s.nodes n) (sym home) (call_log s c.args.client c.args.op.now c.requires.invariant.shape c.requires.fine).node in
    record { node = record { some = node.some; there = subst (λ k. c.home-home.result ≤ k) (sym c.add_record.ensures.nodes) node.there } }

pub returns : goal.returns
returns g c =
    let s = value_of c.args.state.now in
    let home : c.home-home.result ≡ (client_in s.clients c.args.client).home = c.home-home.ensures ∙ ap (λ y. y.home) c.get-known.ensures in
    let number : c.next-number.result ≡ (client_in s.clients c.args.client).next = c.next-number.ensures ∙ ap (λ y. y.next) c.get-known.ensures in
    let fresh : c.inode_number.result ≡ inode_number c.args.client (client_in s.clients c.args.client).made =
    c.inode_number.ensures ∙ ap (inode_number c.args.client) (c.made.ensures ∙ ap (λ y. y.made) c.get-known.ensures) in
    let entry : c.call-entry.result ≡ calls (record { client = c.args.client; number = c.next-number.result; op = c.args.op.now; reply = c.args.outcome.reply })
    =
    c.call-entry.ensures
    ∙ ap (λ op. calls (record { client = c.args.client; number = c.next-number.result; op = op; reply = c.in_ok-copy-2.field-0 })) c.in_ok-copy.ensures.equal
    ∙ ap (λ reply. calls (record { client = c.args.client; number = c.next-number.result; op = c.args.op.now; reply = reply })) c.in_ok-copy-2.ensures.equal in
    let none = fault_is s c.args.client c.args.outcome.effects.items c.deref.result.now c.room_refusal.result None c.deref.ensures.value c.room_refusal.ensures
    c.in_default.is in
    let given =
    answered_given s c.args.client c.args.op.now c.requires.invariant.shape c.requires.fine c.requires.invariant.holds (step_in c.args.outcome) c.requires.ready
    none c.requires.invariant.noted
    c.home-home.result c.next-number.result c.makes_inode-makes.result c.call-entry.result c.add_record.new.nodes c.note_call.new.self c.reserve.new.self.events
    c.push.new.self.events home number
    (c.makes_inode-makes.ensures ∙ ap (list_any (makes c.inode_number.result)) c.deref-2.ensures.value
    ∙ ap (λ i. list_any (makes i) c.args.outcome.effects.items) fresh)
    entry c.in_ok-add_record.ensures.ok c.note_call.ensures c.reserve.ensures.same c.push.ensures.grown
    in
    let after = λ (rs : List RegionValue). record s { nodes = rs; clients = c.note_call.new.self; history = c.push.new.self.events } in
    record {
      happens = subst (λ rs. Calling (observed s) c.args.client c.args.op.now (replied c.args.outcome.reply) (observed (after rs))) (sym c.touch_all.ensures)
          given.happens;
      shape = subst (λ rs. ShapeInvariant (after rs)) (sym c.touch_all.ensures) given.shape;
      noted = subst (λ rs. CutsInvariant (after rs)) (sym c.touch_all.ensures) given.noted;
      leases = refl;
    }
