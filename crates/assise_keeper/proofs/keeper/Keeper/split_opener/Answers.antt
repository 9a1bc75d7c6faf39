use Rattle.assise_keeper.proofs.Common.{rules, Never}
use Rattle.assise_keeper.proofs.Rights.{passes_on}
use Rattle.assise_keeper.proofs.StepsKeepRule.{cuts_for}
use Rattle.assise_keeper.proofs.keeper.Keeper.split_opener.Goals as goal

pub split_seat-requires : goal.split_seat-requires
split_seat-requires g c = let o = c.args.pass.now.seat.me.0.own.opens in (
  search rules,
  search rules,
  cuts_for g.S.Growing.history g.S.Growing.leads g.S.Growing.works g.S.Growing.stays g.S.Growing.goes_on g.S.Growing.rests
      g.S.Growing.works_on Never o _ _ (passes_on o) (λ is. absurd (cc)) (λ is. is) c.requires.2,
)
