use Rattle.assise_keeper.proofs.StepsKeepRule.{starts}
use Rattle.assise_keeper.proofs.keeper.Keeper.new.Goals as goal

pub vacant-requires : goal.vacant-requires
vacant-requires g c = starts g.S.Growing.history g.S.Growing.leads g.S.Growing.works g.S.Growing.stays g.S.Growing.goes_on g.S.Growing.rests
    g.S.Growing.works_on
