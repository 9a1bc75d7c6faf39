use Rattle.assise_fault_script.proofs.Common.{sym, ◌∙◌, ap, arith, Ok, [], lines_of}
use Rattle.std.proofs.lemmas.Result.{err_from_is_err_and}
use Rattle.assise_fault_script.proofs.ClusterFirst.{cluster_first}
use Rattle.assise_fault_script.proofs.Steps.{one_read, all_read, faulty, reached, wanting, weaker}
use Rattle.assise_fault_script.proofs.parse.parse.Goals as goal

pub loop-line-preserved : goal.loop-line-preserved
loop-line-preserved c = record {
  read = one_read _ c.loop-line.progress _ c.in-Some.line.now (lines_of c.in-Some.more.now) (lines_of c.loop-line.rest.now) c.in-Some.ensures.first
      c.loop-line.invariant.read c.in_ok-take.ensures.gives c.in_ok-take.ensures.counts;
  few = omega (arith, c.in_ok-take.ensures.counts, c.in-Some.ensures.shorter, c.loop-line.invariant.few);
}

pub returns-in_err-take-clause-first_fault : goal.returns-in_err-take-clause-first_fault
returns-in_err-take-clause-first_fault c =
    let y = err_from_is_err_and c.from_residual.result c.from_residual.ensures.1 in
    rw y.1 (faulty _ c.loop-line.progress c.in-Some.line.now (lines_of c.in-Some.more.now) _ _ _ y.2 c.in-Some.ensures.first c.loop-line.invariant.read
    (weaker c.loop-line.progress c.in-Some.line.now _ c.in_err-take.ensures.gives))

pub returns-in_err-take-clause-memory : goal.returns-in_err-take-clause-memory
returns-in_err-take-clause-memory c =
    let y = err_from_is_err_and c.from_residual.result c.from_residual.ensures.1 in
    rw y.1 (wanting _ c.loop-line.progress c.in-Some.line.now (lines_of c.in-Some.more.now) _ _ _ y.2 c.in-Some.ensures.first c.loop-line.invariant.read
    c.in_err-take.ensures.faulty c.in_err-take.ensures.gives)

pub returns-in_err-take-2-clause-memory : goal.returns-in_err-take-2-clause-memory
returns-in_err-take-2-clause-memory c =
    let y = err_from_is_err_and c.from_residual-in_err-take-2.result c.from_residual-in_err-take-2.ensures.1 in
    rw y.1 (wanting _ c.loop-line.progress c.loop-line.rest.now [] _ _ _ y.2 c.in_default.ensures.last c.loop-line.invariant.read c.in_err-take-2.ensures.faulty
    c.in_err-take-2.ensures.gives)

pub returns-in_err-take-clause-reached : goal.returns-in_err-take-clause-reached
returns-in_err-take-clause-reached c =
    let y = err_from_is_err_and c.from_residual.result c.from_residual.ensures.1 in
    rw y.1 (reached _ c.loop-line.progress c.in-Some.line.now (lines_of c.in-Some.more.now) _ _ _ y.2 c.in-Some.ensures.first c.loop-line.invariant.read
    c.in_err-take.ensures.faulty)

pub returns-in_err-take-2-clause-first_fault : goal.returns-in_err-take-2-clause-first_fault
returns-in_err-take-2-clause-first_fault c =
    let y = err_from_is_err_and c.from_residual-in_err-take-2.result c.from_residual-in_err-take-2.ensures.1 in
    rw y.1 (faulty _ c.loop-line.progress c.loop-line.rest.now [] _ _ _ y.2 c.in_default.ensures.last c.loop-line.invariant.read
    (weaker c.loop-line.progress c.loop-line.rest.now _ c.in_err-take-2.ensures.gives))

pub returns-in_err-take-2-clause-reached : goal.returns-in_err-take-2-clause-reached
returns-in_err-take-2-clause-reached c =
    let y = err_from_is_err_and c.from_residual-in_err-take-2.result c.from_residual-in_err-take-2.ensures.1 in
    rw y.1 (reached _ c.loop-line.progress c.loop-line.rest.now [] _ _ _ y.2 c.in_default.ensures.last c.loop-line.invariant.read
    c.in_err-take-2.ensures.faulty)

pub returns-clause-commands : goal.returns-clause-commands
returns-clause-commands c =
    let left = one_read _ c.loop-line.progress c.take-2.new.self c.loop-line.rest.now [] _ c.in_default.ensures.last c.loop-line.invariant.read
    c.in_ok-take-2.ensures.gives c.in_ok-take-2.ensures.counts in
    all_read _ c.take-2.new.self left ∙ ap Ok (sym c.into_commands.ensures)

pub returns-clause-cluster_first : goal.returns-clause-cluster_first
returns-clause-cluster_first c =
    let left = one_read _ c.loop-line.progress c.take-2.new.self c.loop-line.rest.now [] _ c.in_default.ensures.last c.loop-line.invariant.read
    c.in_ok-take-2.ensures.gives c.in_ok-take-2.ensures.counts in
    cluster_first c.args.bytes.now c.into_commands.result.items (all_read _ c.take-2.new.self left ∙ ap Ok (sym c.into_commands.ensures))
