use Rattle.assise_area.proofs.Common.{sym, ap, ◌∙◌, option_or, value_in}
use Rattle.std.specs.FinMap as map
use Rattle.assise_area.proofs.Shared.Seen.{get-joined, value_of}
use Rattle.assise_area.proofs.area.Area.put_all.Goals as goal

pub returns-clause-values : goal.returns-clause-values
returns-clause-values c = λ i.
    let hot = c.self.inside.hot in
    let cold = c.self.inside.cold.entries in
    let comes = map.get c.args.inodes.now i in
    get-joined c.put_all_reserved.new.hot.entries c.put_all_reserved.new.cold.entries i ∙ c.put_all_reserved.ensures.values i
    ∙ ap (λ es. option_or comes (value_in hot.entries es i)) c.in_ok-reserve.ensures.entries
    ∙ ap (option_or comes) (sym (value_of c.args.self.now hot cold i c.self.view_is))
