use Rattle.assise_rounds.proofs.Common.{map, released, machine, FaithfulAt}
use Rattle.assise_rounds.proofs.RoundSteps.{releases_once, whole_round}
use Rattle.assise_rounds.proofs.rounds.round_over.Goals as goal

pub returns-clause-rounds : goal.returns-clause-rounds
returns-clause-rounds g c =
    let v = machine c.digest_all-busy.new.cluster in
    let m' = machine c.release.new.cluster in
    whole_round (FaithfulAt (map g.L.Link.kind c.args.links.now)) (machine c.args.cluster.now) (machine c.replicate_all-busy.new.cluster) v m'
    c.replicate_all-busy.result c.digest_all-busy.result _
    c.replicate_all-busy.ensures.each c.digest_all-busy.ensures (releases_once v m' (released c.release.result) c.release.ensures)
