use Rattle.assise_mail.proofs.Common.{◌≡◌, ◌<◌, ◌∙◌, Ok, Err, get_or, length, rules, refl, client_of, seen_by}
use Rattle.assise_mail.proofs.Stopped.{err≢ok, is_due, is_not_due, ok-value, one_call_more, stops_here, where_err}
use Rattle.assise_mail.proofs.due_call.make_all.Goals as goal

pub loop-wanted-preserved : goal.loop-wanted-preserved
loop-wanted-preserved g c =
    let wanted = c.wanted-item.result in
    let i = c.loop-wanted.wanted-index in
    let there : i < length c.args.calls.now = search rules in
    let is : get_or c.args.calls.now i wanted ≡ wanted = search rules in
    record {
      same = search rules;
      sees = one_call_more _ c.args.calls.now i wanted _ (seen_by c.loop-wanted.files) (seen_by c.call.new.self) there is c.loop-wanted.invariant.sees
          (client_of c.loop-wanted.files) c.in_ok-reply.reply c.loop-wanted.invariant.same.client (is_due _ _ c.ne.result c.ne.ensures c.if-ne.false)
          c.in_ok-reply.ensures.sees;
    }

pub returns-in_err-reply-clause-stops : goal.returns-in_err-reply-clause-stops
returns-in_err-reply-clause-stops g c =
    let wanted = c.wanted-item.result in
    let i = c.loop-wanted.wanted-index in
    let there : i < length c.args.calls.now = search rules in
    let is : get_or c.args.calls.now i wanted ≡ wanted = search rules in
    where_err c.from_residual.result _ _ c.from_residual.ensures.1 (λ fault from.
    stops_here _ c.args.calls.now i wanted _ (seen_by c.loop-wanted.files) (seen_by c.call.new.self) there is c.loop-wanted.invariant.sees
    (client_of c.loop-wanted.files) fault c.loop-wanted.invariant.same.client
    (record { came = Err c.in_err-reply.field-0.0; sees = c.in_err-reply.ensures.sees; fault = from; undue = λ reply came due. absurd (err≢ok came) }))

pub returns-then-ne-clause-stops : goal.returns-then-ne-clause-stops
returns-then-ne-clause-stops g c =
    let wanted = c.wanted-item.result in
    let i = c.loop-wanted.wanted-index in
    let there : i < length c.args.calls.now = search rules in
    let is : get_or c.args.calls.now i wanted ≡ wanted = search rules in
    stops_here _ c.args.calls.now i wanted _ (seen_by c.loop-wanted.files) (seen_by c.call.new.self) there is c.loop-wanted.invariant.sees
    (client_of c.loop-wanted.files) _ c.loop-wanted.invariant.same.client
    (record {
      came = Ok c.in_ok-reply.reply;
      sees = c.in_ok-reply.ensures.sees;
      fault = refl;
      undue = λ reply came due. is_not_due c.in_ok-reply.reply
          wanted.reply c.ne.result c.ne.ensures c.if-ne.true (ok-value came ∙ due);
    })
