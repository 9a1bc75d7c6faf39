use Rattle.assise_console.proofs.Common.{rules, ◌≡◌, refl, subst, hot_set, refused, SettingHot, machine}
use Rattle.assise_console.proofs.SmallNumbers.{no_node_so_large}
use Rattle.assise_console.proofs.OneCommand.{hot_nowhere, sets_hot}
use Rattle.assise_console.proofs.commands.set_hot.Goals as goal

pub returns-in_default-number_of : goal.returns-in_default-number_of
returns-in_default-number_of g c =
    let within = c.in-Some.ensures.within.0 refl in
    hot_nowhere (machine c.args.cluster.now) c.args.node c.args.capacity within.0 within.1
    (no_node_so_large c.args.cluster.now (c.number_of.ensures.none c.in_default-number_of.is))

pub returns-in-Ok : goal.returns-in-Ok
returns-in-Ok g c =
    let within = c.in-Some.ensures.within.0 refl in
    let same : c.get.result ≡ c.args.capacity = search rules in
    sets_hot (machine c.args.cluster.now) c.args.node c.in-Some-number_of.node c.args.capacity _ _ (machine c.set_hot.new.self) c.in-Some-number_of.ensures.some
    within.0 within.1 (refl, refl)
    (subst (λ capacity. SettingHot (machine c.args.cluster.now) c.in-Some-number_of.node capacity hot_set (machine c.set_hot.new.self)) same
    c.in-Ok.ensures.happens)

pub returns-in-Err : goal.returns-in-Err
returns-in-Err g c =
    let within = c.in-Some.ensures.within.0 refl in
    let same : c.get.result ≡ c.args.capacity = search rules in
    sets_hot (machine c.args.cluster.now) c.args.node c.in-Some-number_of.node c.args.capacity _ _ (machine c.set_hot.new.self) c.in-Some-number_of.ensures.some
    within.0 within.1 refl
    (subst (λ capacity. SettingHot (machine c.args.cluster.now) c.in-Some-number_of.node capacity (refused c.in-Err.refusal) (machine c.set_hot.new.self)) same
    c.in-Err.ensures.happens)
