use Rattle.assise_keeper.proofs.Common.{rules, ◌≡◌, Some, [], ◌∷◌, ap, sym, ◌∙◌, subst, rest, MayGive, IsLed, given, state_at, taken}
use Rattle.assise_keeper.proofs.StepsKeepRule.{gives_for}
use Rattle.assise_keeper.proofs.keeper.Keeper.put.Goals as goal

pub store-requires : goal.store-requires
store-requires g c = let b =
    c.args.state in let x = b.value in let now = c.exchange-before.ensures.3 in let h = taken c.args.pass.now in let holds = c.requires.holding in
    let carried : c.exchange-before.new.seat.me.1 ≡ (0, Some b) ∷ [] = ap (λ m. m.1) now ∙ ap (λ cs. (0, Some b) ∷ rest cs) holds.1.1 in
    let view = ap (λ m. m.0) now in (
      search rules,
      search rules,
      gives_for g.S.Growing.history g.S.Growing.leads g.S.Growing.works g.S.Growing.stays g.S.Growing.goes_on g.S.Growing.rests g.S.Growing.works_on _ _ _ b h
          holds.0 carried (ap (λ v. v.stage) view ∙ holds.1.2) (subst (λ z. IsLed g.S.Growing.leads (state_at z) (Some x)) holds.1.2 c.requires.leads)
          (λ never. subst (λ z. IsLed g.S.Growing.works (state_at z) (Some x)) holds.1.2 (c.requires.works (sym (ap (λ v. v.own.opens) view) ∙ never)))
          (subst (λ v. MayGive v.own.client v.own.opens h (g.S.Growing.history x)) (sym view) c.requires.grows) (g.S.Growing.opens_once x),
    )

pub returns-clause-free : goal.returns-clause-free
returns-clause-free g c = let b =
    c.args.state in let x = b.value in let now = c.exchange-before.ensures.3 in let h = taken c.args.pass.now in let holds = c.requires.holding in
    let carried : c.exchange-before.new.seat.me.1 ≡ (0, Some b) ∷ [] = ap (λ m. m.1) now ∙ ap (λ cs. (0, Some b) ∷ rest cs) holds.1.1 in
    let after = c.store.ensures.2 b h holds.0 carried (ap (λ m. m.0.stage) now ∙ holds.1.2) in
    (search rules, ap (λ m. m.1) after, ap (λ m. m.0.stage) after)

pub returns-clause-view : goal.returns-clause-view
returns-clause-view g c = let b =
    c.args.state in let x = b.value in let now = c.exchange-before.ensures.3 in let h = taken c.args.pass.now in let holds = c.requires.holding in
    let carried : c.exchange-before.new.seat.me.1 ≡ (0, Some b) ∷ [] = ap (λ m. m.1) now ∙ ap (λ cs. (0, Some b) ∷ rest cs) holds.1.1 in
    let after = c.store.ensures.2 b h holds.0 carried (ap (λ m. m.0.stage) now ∙ holds.1.2) in
    ap (λ m. m.0) after ∙ ap (λ m. given m.0 h (g.S.Growing.history x) x) now
