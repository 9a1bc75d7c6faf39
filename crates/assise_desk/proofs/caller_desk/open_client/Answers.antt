use Rattle.assise_desk.proofs.Common.{sym, ◌∙◌}
use Rattle.assise_desk.proofs.DeskSteps.{opened_as}
use Rattle.assise_desk.proofs.caller_desk.open_client.Goals as goal

pub returns-clause-opens : goal.returns-clause-opens
returns-clause-opens c =
    opened_as c.args.request.now c.number_told.result c.in-Some.kind c.in-Some-durability_named.durability c.open.result c.args.files.now c.open.new.self
    (sym c.kind_named.ensures ∙ c.in-Some.is) (sym c.durability_named.ensures ∙ c.in-Some-durability_named.is) c.number_told.ensures c.open.ensures.happens
    c.open.ensures.stored
