use Rattle.assise_private_log.proofs.Common.{◌≡◌, ◌||◌, true, false, ap, sym, ◌∙◌, rules, list_any, overridden}
use Rattle.assise_private_log.proofs.Shared.LogGroups.{overridden_both}
use Rattle.assise_private_log.proofs.group.is_overridden.Goals as goal

pub returns-then-is_overridden_by : goal.returns-then-is_overridden_by
returns-then-is_overridden_by c =
    let e = c.args.effect.now in
    let own : overridden e c.args.behind.now ≡ true = search rules in
    let is : c.is_overridden_by.result ≡ true = search rules in
    is ∙ ap (λ b. b || list_any (λ r. overridden e r.effects) c.args.later.now) (sym own) ∙ overridden_both e c.args.behind.now c.args.later.now

pub returns-else-is_overridden_by : goal.returns-else-is_overridden_by
returns-else-is_overridden_by c =
    let e = c.args.effect.now in
    let own : overridden e c.args.behind.now ≡ false = search rules in
    c.is_overridden_in.ensures ∙ ap (λ b. b || list_any (λ r. overridden e r.effects) c.args.later.now) (sym own)
    ∙ overridden_both e c.args.behind.now c.args.later.now
