use Rattle.assise_digest.proofs.Common.{ok_map, with_one}
use Rattle.assise_digest.proofs.RegionLogs.{changed_there}
use Rattle.assise_digest.proofs.region.Region.append_grouped.Goals as goal

pub returns-clause-ok : goal.returns-clause-ok
returns-clause-ok c =
    ok_map c.append.result c.append.ensures.ok (λ step.
    changed_there (λ l. with_one l c.args.added c.args.begins) c.self.inside.area.inodes c.self.inside.logs.items c.args.self.now c.args.client
    c.index_mut.result.now c.append.new.self c.self.view_is
    c.requires.client c.index_mut.ensures.value step)
