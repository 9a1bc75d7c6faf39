use Rattle.assise_history.proofs.Common.{◌≡◌, ◌++◌, ◌∷◌, [], map, take, false, true, ap, sym, ◌∙◌, ◌+◌, opening}
use Rattle.assise_history.proofs.Shared.Runs.{stops, played_wrong, played_right, calls_more}
use Rattle.assise_history.proofs.replay.replay.Goals as goal

pub returns-then-not-is_answer-clause-ok : goal.returns-then-not-is_answer-clause-ok
returns-then-not-is_answer-clause-ok c =
    let cs = c.args.calls.now in
    let i = c.loop-call.call-index in
    let x = c.call-item.result in
    stops opening cs i x c.loop-call-test.true
    (rw (← c.call-item.is) (played_wrong opening (map (λ x. x.now) (take i cs)) c.loop-call.tree _ c.in_ok-reply.reply x.now c.loop-call.invariant.is
    c.in_ok-reply.ensures.ok
    (λ right. let bad : c.is_answer.result ≡ true = c.is_answer.ensures.1 right in let no_such : c.is_answer.result ≡ false = c.if-not-is_answer.true in cc)))

pub loop-call-preserved : goal.loop-call-preserved
loop-call-preserved c =
    let cs = c.args.calls.now in
    let i = c.loop-call.call-index in
    let x = c.call-item.result in
    let all : map (λ x. x.now) (take (i + 1) cs) ≡ map (λ x. x.now) (take i cs) ++ x.now ∷ [] = calls_more cs i x c.loop-call-test.true
    ∙ ap (λ y. map (λ x. x.now) (take i cs) ++ y.now ∷ []) (sym c.call-item.is) in
    let done = played_right opening (map (λ x. x.now) (take i cs)) c.loop-call.tree _ c.in_ok-reply.reply x.now c.loop-call.invariant.run
    c.loop-call.invariant.is c.in_ok-reply.ensures.ok (c.is_answer.ensures.0 c.if-not-is_answer.false) in
    rw all record { run = done.0; is = done.1 }
