use Rattle.assise_keeper.proofs.Common.{rules, ◌≡◌, Some, [], ◌∷◌, ap, sym, ◌∙◌, rest}
use Rattle.assise_keeper.proofs.StepsKeepRule.{takes_for}
use Rattle.assise_keeper.proofs.keeper.Keeper.try_take.Goals as goal

pub compare_exchange-requires : goal.compare_exchange-requires
compare_exchange-requires g c = (
  search rules,
  search rules,
  takes_for g.S.Growing.history g.S.Growing.leads g.S.Growing.works g.S.Growing.stays g.S.Growing.goes_on g.S.Growing.rests
      g.S.Growing.works_on _ _ _ c.args.self.now.one_word.1 c.requires.1,
)

pub exchange-requires : goal.exchange-requires
exchange-requires g c = let took = c.compare_exchange.ensures.2.0 (search rules) in
    let carried : c.compare_exchange.new.seat.me.1 ≡ (0, Some took.0) ∷ [] = ap (λ m. m.1) took.1 ∙ ap (λ cs. (0, Some took.0) ∷ cs) c.requires.1 in
    (search rules, (Some took.0, carried ∙ ap (λ cs. (0, Some took.0) ∷ rest cs) (sym carried)))
