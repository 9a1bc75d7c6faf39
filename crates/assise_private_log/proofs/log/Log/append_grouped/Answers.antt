use Rattle.assise_private_log.proofs.Common.{◌≡◌, rules, subst, sym, HasOpenGroup}
use Rattle.assise_private_log.specs.contracts.log_view.LogView.{the_view}
use Rattle.assise_private_log.proofs.Shared.Borders.{rings_grouped}
use Rattle.assise_private_log.proofs.log.Log.append_grouped.Goals as goal

pub invariant_of-self-inside : goal.invariant_of-self-inside
invariant_of-self-inside c =
    let same : the_view c.self-inside.inside.0.0 ≡ c.args.self.now = cc in
    rings_grouped _ _ _ c.args.added c.args.begins _ _ c.self-inside.invariant (λ joins. subst HasOpenGroup (sym same) (c.requires.open_group joins))
    (search rules) (search rules) (search rules) (search rules)
