use Rattle.assise_names.proofs.Common.{◌==◌, [], Err, Ok, sym, ap, ◌∙◌, arith, rules, err_from_is_err_and, slice_split, name_count, pieces_as_names}
use Rattle.assise_names.proofs.PathLemmas.{cut, uncut, shorter, behind, count_on, count_more, count_fault}
use Rattle.assise_names.proofs.path.count_names.Goals as goal

pub loop-piece-preserved : goal.loop-piece-preserved
loop-piece-preserved c =
    let parts = cut c.loop-piece.rest.now c.split_once.result _ c.split_once.ensures.cases c.in-Some.is in
    let count = c.loop-piece.count in
    record {
      text = search rules;
      same = sym (count_more count c.in-Some.piece.now c.in-Some.piece.now (slice_split (λ b. b == 47) c.in-Some.more.now) c.in_ok-check.ensures)
          ∙ ap (λ ps. count_on count (pieces_as_names ps)) (sym parts) ∙ c.loop-piece.invariant.same;
      few = let less = shorter c.loop-piece.rest.now c.split_once.result _ c.split_once.ensures.cases c.in-Some.is in
          omega (arith, less, c.loop-piece.invariant.few);
    }

pub returns-in_err-check : goal.returns-in_err-check
returns-in_err-check c =
    let parts = cut c.loop-piece.rest.now c.split_once.result _ c.split_once.ensures.cases c.in-Some.is in
    let count = c.loop-piece.count in
    let y = err_from_is_err_and c.from_residual.result c.from_residual.ensures.1 in
    y.1 ∙ ap Err y.2 ∙ sym (ap name_count (behind _ _ c.is_empty.ensures c.if-is_empty.false) ∙ sym c.loop-piece.invariant.same
    ∙ ap (λ ps. count_on count (pieces_as_names ps)) parts ∙ count_fault count c.in-Some.piece.now _ (slice_split (λ b. b == 47) c.in-Some.more.now)
    c.in_err-check.ensures)

pub returns-in_err-check-2 : goal.returns-in_err-check-2
returns-in_err-check-2 c =
    let parts = uncut c.loop-piece.rest.now c.split_once.result c.split_once.ensures.cases c.in_default.is in
    let count = c.loop-piece.count in
    let y = err_from_is_err_and c.from_residual-in_err-check-2.result c.from_residual-in_err-check-2.ensures.1 in
    y.1 ∙ ap Err y.2 ∙ sym (ap name_count (behind _ _ c.is_empty.ensures c.if-is_empty.false) ∙ sym c.loop-piece.invariant.same
    ∙ ap (λ ps. count_on count (pieces_as_names ps)) parts ∙ count_fault count c.loop-piece.rest.now _ [] c.in_err-check-2.ensures)

pub returns : goal.returns
returns c =
    let parts = uncut c.loop-piece.rest.now c.split_once.result c.split_once.ensures.cases c.in_default.is in
    let count = c.loop-piece.count in
    let rest = c.loop-piece.rest.now in
    sym (ap name_count (behind _ _ c.is_empty.ensures c.if-is_empty.false) ∙ sym c.loop-piece.invariant.same ∙ ap (λ ps. count_on count (pieces_as_names ps))
    parts ∙ count_more count rest rest [] c.in_ok-check-2.ensures ∙ ap Ok (omega arith))
