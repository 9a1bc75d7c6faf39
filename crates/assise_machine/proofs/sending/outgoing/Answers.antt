use Rattle.assise_machine.proofs.Common.{◌≡◌, ◌≤◌, ◌+◌, ◌-◌, refl, ap, sym, ◌∙◌, length, arith, option_to_list, refused, sent, frames_to, is_refused, is_sent}
use Rattle.assise_machine.proofs.Common.{lacks_memory, machine_of, value_of, sending_answer, never}
use Rattle.std.proofs.lemmas.Result.{err_from_is_err_and}
use Rattle.assise_machine.proofs.Frames.{all_clients, few_clients, fine_node, is_one, some_frames, with_frame, without_frame}
use Rattle.assise_machine.proofs.sending.outgoing.Goals as goal
use Rattle.assise_machine.proofs.sending.outgoing.Goals.{else-loop-client-test, then-loop-client-test+in_ok-frame+else-client-client-end, in-Some-2+in_ok-push}
use Rattle.assise_machine.proofs.sending.outgoing.Goals.{in_default-2}

pub returns-in-Some : goal.returns-in-Some
returns-in-Some g c = is_refused c.in-Some.refusal (sym c.node_refusal.ensures ∙ c.in-Some.is) refl refl

pub overflow_cast-client-end : goal.overflow_cast-client-end
overflow_cast-client-end g c = omega (arith, c.len-client-end.ensures, few_clients (value_of c.args.sound.now.state) c.args.sound.now.invariant.holds)

pub frame_of-requires-clause-full : goal.frame_of-requires-clause-full
frame_of-requires-clause-full g c = fine_node (value_of c.args.sound.now.state) c.args.node (sym c.node_refusal.ensures ∙ c.in_default.is)

pub overflow_step-client : goal.overflow_step-client
overflow_step-client g c = omega
    (arith, c.loop-client-test.true, c.len-client-end.ensures, few_clients (value_of c.args.sound.now.state) c.args.sound.now.invariant.holds)

pub loop-client-preserved : goal.loop-client-preserved
loop-client-preserved g c =
    let m = machine_of c.args.sound.now.state in
    let n = c.args.node in
    let k = c.loop-client.client in
    let some = c.loop-client.auto.client in
    let before = c.loop-client.invariant.frames in
    let found = c.in_ok-frame.ensures.frame in
    let back : k + 1 - 1 ≡ k = omega arith in
    let frames : c.match-branch-2.frames.items ≡ frames_to m n k =
    elim c.match-branch-2.branch [
      | in-Some-2+in_ok-push w ↦ with_frame m n k _ some before found w.in-Some-2.is (ap (λ v. v.items) w.frames-is ∙ w.in_ok-push.ensures.items)
      | in_default-2 w ↦ without_frame m n k _ some before found w.in_default-2.is (ap (λ v. v.items) w.frames-is)
    ] in
    record { frames = rw back frames; last = omega (arith, c.loop-client-test.true, c.len-client-end.ensures) }

pub returns : goal.returns
returns g c =
    let s = value_of c.args.sound.now.state in
    let m = machine_of c.args.sound.now.state in
    let n = c.args.node in
    let k = c.loop-client.client in
    let some = c.loop-client.auto.client in
    let before = c.loop-client.invariant.frames in
    let all : c.loop-client-test.frames.items ≡ frames_to m n m.world.clients =
    elim c.loop-client-test.branch [
      | else-loop-client-test w ↦
          let last : k - 1 ≡ length s.clients = omega (arith, w.loop-client-test.false, some, c.loop-client.invariant.last, c.len-client-end.ensures) in
          ap (λ v. v.items) w.frames-is ∙ before ∙ ap (frames_to m n) (last ∙ sym (all_clients s))
      | then-loop-client-test+in_ok-frame+else-client-client-end w ↦
          let found = w.in_ok-frame.ensures.frame in
          let frames : w.match-branch-2.frames.items ≡ frames_to m n k =
          elim w.match-branch-2.branch [
            | in-Some-2+in_ok-push v ↦ with_frame m n k _ some before found v.in-Some-2.is (ap (λ u. u.items) v.frames-is ∙ v.in_ok-push.ensures.items)
            | in_default-2 v ↦ without_frame m n k _ some before found v.in_default-2.is (ap (λ u. u.items) v.frames-is)
          ] in
          let last : k ≡ length s.clients = omega (arith, w.loop-client-test.true, c.len-client-end.ensures) in
          ap (λ v. v.items) w.frames-is ∙ frames ∙ ap (frames_to m n) (last ∙ sym (all_clients s))
    ] in
    is_sent (sym c.node_refusal.ensures ∙ c.in_default.is) (ap sent all) refl

-- there is something to send, for which there is no memory

pub returns-in_err-frame : goal.returns-in_err-frame
returns-in_err-frame g c =
    let s = value_of c.args.sound.now.state in
    let m = machine_of c.args.sound.now.state in
    let error = err_from_is_err_and c.from_residual.result c.from_residual.ensures.1 in
    let low : c.loop-client.client ≤ m.world.clients = omega (arith, c.loop-client-test.true, c.len-client-end.ensures, all_clients s) in
    lacks_memory (sym c.node_refusal.ensures ∙ c.in_default.is)
    (some_frames m c.args.node c.loop-client.client m.world.clients c.loop-client.auto.client low (never c.in_err-frame.ensures.nothing_asked))
    (ap sending_answer error.1 ∙ ap refused (error.2 ∙ c.in_err-frame.ensures.only_memory)) refl

pub returns-in_err-push : goal.returns-in_err-push
returns-in_err-push g c =
    let s = value_of c.args.sound.now.state in
    let m = machine_of c.args.sound.now.state in
    let error = err_from_is_err_and c.from_residual-in_err-push.result c.from_residual-in_err-push.ensures.1 in
    let low : c.loop-client.client ≤ m.world.clients = omega (arith, c.loop-client-test.true, c.len-client-end.ensures, all_clients s) in
    let found = ap option_to_list (sym c.in-Some-2.is) ∙ c.in_ok-frame.ensures.frame in
    lacks_memory (sym c.node_refusal.ensures ∙ c.in_default.is)
    (some_frames m c.args.node c.loop-client.client m.world.clients c.loop-client.auto.client low (is_one found))
    (ap sending_answer error.1 ∙ ap refused error.2) refl
