use Rattle.assise_names.proofs.Common.{◌==◌, ◌∙◌, sym, rules, IsTrue, All-push, err_from_is_err_and, slice_split, is_name}
use Rattle.assise_names.proofs.PathLemmas.{next_faulty, next_name, none_left}
use Rattle.assise_names.proofs.path.path_of_many.Goals as goal

pub loop-piece-preserved : goal.loop-piece-preserved
loop-piece-preserved c =
    let names = c.loop-piece.names.items in
    let pieces = slice_split (λ b. b == 47) c.args.rest.now in
    let next = next_name names _ c.loop-piece.piece-index _ c.in_ok-parse.field-0 pieces c.loop-piece-test.true c.in_ok-parse.ensures.first_fault in
    record {
      same = rw c.in_ok-push.ensures.items (sym next ∙ c.loop-piece.invariant.same);
      lawful = rw c.in_ok-push.ensures.items
          (All-push (λ name. IsTrue (is_name name)) names c.in_ok-parse.field-0 c.loop-piece.invariant.lawful c.in_ok-parse.ensures.lawful);
    }

pub returns-in_err-parse-clause-first_fault : goal.returns-in_err-parse-clause-first_fault
returns-in_err-parse-clause-first_fault c =
    let names = c.loop-piece.names.items in
    let pieces = slice_split (λ b. b == 47) c.args.rest.now in
    let y = err_from_is_err_and c.from_residual-in_err-parse.result c.from_residual-in_err-parse.ensures.1 in
    let fault = next_faulty names _ c.loop-piece.piece-index _ pieces _ _ y.0 c.loop-piece-test.true c.loop-piece.invariant.same y.2
    c.in_err-parse.ensures.first_fault in
    rw y.1 (search rules)

pub returns-in_err-push_names-clause-first_fault : goal.returns-in_err-push_names-clause-first_fault
returns-in_err-push_names-clause-first_fault c =
    let pieces = slice_split (λ b. b == 47) c.args.rest.now in
    let all = sym c.loop-piece.invariant.same ∙ none_left c.loop-piece.names.items _ c.loop-piece.piece-index pieces c.loop-piece-test.false in
    search rules

pub returns-clause-first_fault : goal.returns-clause-first_fault
returns-clause-first_fault c =
    let pieces = slice_split (λ b. b == 47) c.args.rest.now in
    let all = sym c.loop-piece.invariant.same ∙ none_left c.loop-piece.names.items _ c.loop-piece.piece-index pieces c.loop-piece-test.false in
    search rules
