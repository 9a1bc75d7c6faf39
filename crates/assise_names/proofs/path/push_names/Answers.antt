use Rattle.assise_names.proofs.Common.{◌∙◌, ap, sym, rules, ◌==◌, [], Ok, append-nil, IsTrue, All-push, err_from_is_err_and, slice_split, is_name}
use Rattle.assise_names.proofs.Common.{pieces_as_names, with_prefix}
use Rattle.assise_names.proofs.PathLemmas.{cut, uncut, one_more, one_fault, faulty}
use Rattle.assise_names.proofs.path.push_names.Goals as goal

pub loop-piece-preserved : goal.loop-piece-preserved
loop-piece-preserved c =
    let parts = cut c.loop-piece.rest.now c.split_once.result _ c.split_once.ensures.cases c.in-Some.is in
    let prefix = c.loop-piece.names.items in
    record {
      text = search rules;
      same = rw c.in_ok-push.ensures.items
          (sym (one_more prefix c.in-Some.piece.now c.in_ok-parse.field-0 (slice_split (λ b. b == 47) c.in-Some.more.now) c.in_ok-parse.ensures.first_fault)
          ∙ ap (λ ps. with_prefix prefix (pieces_as_names ps)) (sym parts) ∙ c.loop-piece.invariant.same);
      lawful = λ before. rw c.in_ok-push.ensures.items
          (All-push (λ name. IsTrue (is_name name)) prefix c.in_ok-parse.field-0 (c.loop-piece.invariant.lawful before) c.in_ok-parse.ensures.lawful);
    }

pub returns-in_err-parse-clause-first_fault : goal.returns-in_err-parse-clause-first_fault
returns-in_err-parse-clause-first_fault c =
    let parts = cut c.loop-piece.rest.now c.split_once.result _ c.split_once.ensures.cases c.in-Some.is in
    let prefix = c.loop-piece.names.items in
    let y = err_from_is_err_and c.from_residual.result c.from_residual.ensures.1 in
    rw y.1 (faulty _ c.in-Some.piece.now _ _ y.2 c.in_err-parse.ensures.first_fault (λ h.
    sym c.loop-piece.invariant.same ∙ ap (λ ps. with_prefix prefix (pieces_as_names ps)) parts
    ∙ one_fault prefix c.in-Some.piece.now _ (slice_split (λ b. b == 47) c.in-Some.more.now) h))

pub returns-in_err-parse-2-clause-first_fault : goal.returns-in_err-parse-2-clause-first_fault
returns-in_err-parse-2-clause-first_fault c =
    let parts = uncut c.loop-piece.rest.now c.split_once.result c.split_once.ensures.cases c.in_default.is in
    let prefix = c.loop-piece.names.items in
    let y = err_from_is_err_and c.from_residual-in_err-parse-2.result c.from_residual-in_err-parse-2.ensures.1 in
    rw y.1 (faulty _ c.loop-piece.rest.now _ _ y.2 c.in_err-parse-2.ensures.first_fault (λ h.
    sym c.loop-piece.invariant.same ∙ ap (λ ps. with_prefix prefix (pieces_as_names ps)) parts ∙ one_fault prefix c.loop-piece.rest.now _ [] h))

pub returns-clause-first_fault : goal.returns-clause-first_fault
returns-clause-first_fault c =
    let parts = uncut c.loop-piece.rest.now c.split_once.result c.split_once.ensures.cases c.in_default.is in
    let prefix = c.loop-piece.names.items in
    sym c.loop-piece.invariant.same ∙ ap (λ ps. with_prefix prefix (pieces_as_names ps)) parts ∙ one_more prefix c.loop-piece.rest.now c.in_ok-parse-2.field-0
    [] c.in_ok-parse-2.ensures.first_fault
    ∙ ap Ok (append-nil _ ∙ sym c.in_ok-push-2.ensures.items)
