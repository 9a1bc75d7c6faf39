use Rattle.assise_desk.proofs.Common.{rules, inr, refl, sym, ◌∙◌, is_not_renewed, renewal_is_out_of_range}
use Rattle.assise_desk.proofs.caller_desk.renew_cluster.Goals as goal

pub returns-in_default-clause-renews : goal.returns-in_default-clause-renews
returns-in_default-clause-renews c = renewal_is_out_of_range (inr (sym c.kind_named.ensures ∙ c.in_default.is)) refl refl

pub returns-in_err-renew-clause-renews : goal.returns-in_err-renew-clause-renews
returns-in_err-renew-clause-renews c = is_not_renewed c.in_err-renew.field-0.0 (search rules) c.in_err-renew.ensures.settles c.in_err-renew.ensures.stays
