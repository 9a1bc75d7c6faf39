use Rattle.assise_desk.proofs.Common.{◌∙◌, Err, ap, refl, err_from_is_err_and, makes_cluster, makes_no_cluster}
use Rattle.assise_desk.proofs.caller_desk.make.Goals as goal

pub returns : goal.returns
returns c = makes_cluster c.in_ok-make_cluster.field-0.value c.in_ok-make_cluster.ensures.made refl refl

pub returns-in_err-make_cluster : goal.returns-in_err-make_cluster
returns-in_err-make_cluster c =
    let error = err_from_is_err_and c.from_residual.result c.from_residual.ensures.1 in
    makes_no_cluster c.in_err-make_cluster.field-0.0 c.in_err-make_cluster.ensures.fault refl (error.1 ∙ ap Err error.2)
