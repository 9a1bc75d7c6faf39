use Rattle.assise_threads.proofs.Common.{◌≡◌, ◌≤◌, ◌∙◌, ap, length, sym, subst, take, arith, calls_ahead, is_one, AreCalls}
use Rattle.assise_threads.proofs.Ahead.{calls_in_prefix, few_ahead, first_is_none, first_taken}
use Rattle.assise_threads.proofs.crew.Crew.run_next.Goals as goal

pub returns-then-calls-eq0-clause-said : goal.returns-then-calls-eq0-clause-said
returns-then-calls-eq0-clause-said g c =
    let commands = c.args.commands.now in
    let first = c.index-commands-0.result in
    let none : calls_ahead commands ≡ 0 = omega (arith, c.if-calls-eq0.true, c.calls_ahead-calls.ensures) in
    is_one first (first_taken commands first c.requires.some c.index-commands-0.is) (first_is_none commands first c.requires.some c.index-commands-0.is none)
    c.in_ok-run_one.ensures.said

pub split_at-requires : goal.split_at-requires
split_at-requires g c = let few : calls_ahead c.args.commands.now ≤ length c.args.commands.now =
    few_ahead c.args.commands.now in omega (arith, few, c.calls_ahead-calls.ensures)

pub run_calls-requires-clause-calls : goal.run_calls-requires-clause-calls
run_calls-requires-clause-calls g c =
    λ bounds lives. subst AreCalls (ap (λ n. take n c.args.commands.now) (sym c.calls_ahead-calls.ensures) ∙ sym c.split_at.ensures.front)
    (calls_in_prefix c.args.commands.now)

pub returns-clause-some : goal.returns-clause-some
returns-clause-some g c =
    let few : calls_ahead c.args.commands.now ≤ length c.args.commands.now = few_ahead c.args.commands.now in
    (omega (arith, c.if-calls-eq0.false), omega (arith, few, c.calls_ahead-calls.ensures))
