use Rattle.assise_keeper.proofs.Common.{rules, ◌≡◌, None, Some, ◌∷◌, ap, ◌∙◌, refl, sym, subst, Never, Alone, state_at, IsLed}
use Rattle.assise_keeper.proofs.StepsKeepRule.{sets_for}
use Rattle.assise_keeper.proofs.Stages.{self_taken}
use Rattle.assise_keeper.proofs.keeper.Keeper.set_up.Goals as goal

pub compare_exchange_with-requires : goal.compare_exchange_with-requires
compare_exchange_with-requires g c = (
  search rules,
  search rules,
  sets_for g.S.Growing.history g.S.Growing.leads g.S.Growing.works g.S.Growing.stays g.S.Growing.goes_on g.S.Growing.rests
      g.S.Growing.works_on _ _ _ c.args.state c.requires.2,
)

pub put-requires-clause-holding : goal.put-requires-clause-holding
put-requires-clause-holding g c = let up = (c.compare_exchange_with.ensures.2 c.args.state refl c.requires.2).1 in
    (c.args.state.value, (search rules, ap (λ m. m.1) up ∙ ap (λ cs. (0, None) ∷ cs) c.requires.1, self_taken _ _ c.args.state.value (ap (λ m. m.0.stage) up)))

pub put-requires-clause-leads : goal.put-requires-clause-leads
put-requires-clause-leads g c = let up = (c.compare_exchange_with.ensures.2 c.args.state refl c.requires.2).1 in
    subst (λ z. IsLed g.S.Growing.leads (state_at z) (Some c.in-Some.state.value)) (sym (ap (λ m. m.0.stage) up))
    (subst (λ z. g.S.Growing.leads z c.in-Some.state.value) (search rules) (g.S.Growing.stays c.in-Some.state.value))

pub put-requires-clause-works : goal.put-requires-clause-works
put-requires-clause-works g c = let up = (c.compare_exchange_with.ensures.2 c.args.state refl c.requires.2).1 in
    λ never. absurd (let e : Alone ≡ Never = sym (ap (λ m. m.0.own.opens) up) ∙ never in (cc))
