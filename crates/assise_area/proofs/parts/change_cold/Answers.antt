use Rattle.assise_area.proofs.Common.{◌∙◌, ap, sym, nat_eq, Some, set_value_same, on_err}
use Rattle.assise_area.proofs.parts.change_cold.Goals as goal

pub returns-in_err-change-clause-err : goal.returns-in_err-change-clause-err
returns-in_err-change-clause-err c =
    let kept = sym c.in-Some.ensures.value ∙ ap Some (sym c.in_err-change.ensures.err) in
    let same = set_value_same (nat_eq c.touches.result) c.args.cold.now.entries c.change.new.self kept in
    on_err c.from_residual.result _ ((c.get_mut.follows.holds c.change.new.self).0 ∙ same)
