use Rattle.assise_history.proofs.Common.{◌≡◌, ◌∙◌, ap, false, length, map, nat_lt, not, rules, filter_same, loses}
use Rattle.assise_history.proofs.Shared.Runs.{filter_mapped, map-filter}
use Rattle.assise_history.proofs.kept.drop_lost.Goals as goal

pub returns-clause-left : goal.returns-clause-left
returns-clause-left c =
    ap (map (λ call. call.now)) (filter_same _ (λ call. not (loses c.args.losses.now call.now)) _ (λ x b q h. search rules) _ _ c.retain.ensures.filtered)
    ∙ map-filter (λ call. call.now) (λ call. not (loses c.args.losses.now call)) c.args.calls.now.items

pub returns-clause-none : goal.returns-clause-none
returns-clause-none c = λ all.
    let whole : nat_lt (length c.retain.new.self.items) (length c.args.calls.now.items) ≡ false = search (rules, all) in
    filter_mapped (λ call. call.now) (λ call. not (loses c.args.losses.now call.now)) c.args.calls.now.items c.retain.new.self.items
    (filter_same _ (λ call. not (loses c.args.losses.now call.now)) _ (λ x b q h. search rules) _ _ c.retain.ensures.filtered) whole
