use Rattle.assise_fault_script.proofs.Common.{◌∷◌, ◌++◌, [], sym, ◌∙◌}
use Rattle.assise_fault_script.proofs.Hex.{two_more, with_prefix-nil}
use Rattle.assise_fault_script.proofs.data.check_hex.Goals as goal

pub loop-rest-init : goal.loop-rest-init
loop-rest-init c = ([], with_prefix-nil _)

pub loop-rest-preserved : goal.loop-rest-preserved
loop-rest-preserved c =
    let prefix = c.loop-rest.invariant.0 in
    let byte = c.in_ok-pair.field-0 in
    (prefix ++ byte ∷ [], two_more prefix c.loop-rest.rest.now byte c.in-len2-up.len_at_least (sym c.in_ok-pair.ensures) ∙ c.loop-rest.invariant.1)
