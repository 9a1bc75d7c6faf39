use Rattle.assise_desk.proofs.Common.{ap, subst, sym, ◌∙◌, option_map, ServesLink}
use Rattle.assise_link.specs.TestLinks.{kind_of_link}
use Rattle.assise_desk.proofs.DeskSteps.{link_set}
use Rattle.assise_desk.proofs.caller_desk.set_link.Goals as goal

pub returns-clause-serves : goal.returns-clause-serves
returns-clause-serves c =
    let named = sym c.link_named.ensures ∙ ap (option_map kind_of_link) c.in-Some.is in
    subst (λ x. ServesLink c.args.request.now x c.args.files.now c.set_link.new.self) (sym c.done_told.ensures)
    (link_set c.args.request.now c.set_link.result (kind_of_link c.in-Some.link) c.args.files.now c.set_link.new.self named c.set_link.ensures.set
    c.set_link.ensures.kept c.set_link.ensures.ok
    c.set_link.ensures.only_bad)
