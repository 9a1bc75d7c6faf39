use Rattle.assise_keeper.proofs.Common.{rules}
use Rattle.assise_keeper.proofs.StepsKeepRule.{meets_for, parts_for}
use Rattle.assise_keeper.proofs.keeper.Keeper.meet.Goals as goal

pub join_seat-requires : goal.join_seat-requires
join_seat-requires g c = (
  search rules,
  search rules,
  search rules,
  search rules,
  meets_for g.S.Growing.history g.S.Growing.leads g.S.Growing.works
      g.S.Growing.stays g.S.Growing.goes_on g.S.Growing.rests g.S.Growing.works_on _ _ _ _ c.requires.0.2 c.requires.1.2,
)

pub split_seat-requires : goal.split_seat-requires
split_seat-requires g c = (
  search rules,
  search rules,
  parts_for g.S.Growing.history g.S.Growing.leads g.S.Growing.works g.S.Growing.stays g.S.Growing.goes_on
      g.S.Growing.rests g.S.Growing.works_on _ _ c.look.ensures.free.2,
)
