use Rattle.assise_area.proofs.Common.{Some, [], cond, get_or, nat_eq, ap, ◌∙◌, regular, cold_at}
use Rattle.assise_area.proofs.Cooled.{not_written, written_next}
use Rattle.assise_area.proofs.cooling.put_places.Goals as goal

pub returns-in_err-insert-clause-others : goal.returns-in_err-insert-clause-others
returns-in_err-insert-clause-others c q other =
    let cold = c.loop-number.cold.entries in
    ap (λ es. cold_at es q) c.in_err-insert.ensures.err ∙ not_written c.args.numbers.now c.loop-number.number-index (Some (regular [])) c.args.cold.now.entries
    cold c.loop-number.invariant q other

pub loop-number-preserved : goal.loop-number-preserved
loop-number-preserved c =
    let numbers = c.args.numbers.now in
    let k = c.loop-number.number-index in
    let cold = c.loop-number.cold.entries in
    written_next numbers k 0 (Some (regular [])) c.args.cold.now.entries cold c.insert.new.self.entries c.loop-number-test.true c.loop-number.invariant
    (λ q. c.in_ok-insert.ensures.updates.0 q ∙ ap (λ v. cond (nat_eq (get_or numbers k 0) q) (Some v) (cold_at cold q)) c.new_file.ensures)
