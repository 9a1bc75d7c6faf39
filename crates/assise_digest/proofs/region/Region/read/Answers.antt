use Rattle.assise_digest.proofs.Common.{◌∙◌, ap, pending_seen}
use Rattle.assise_digest.proofs.RegionLogs.{read_there}
use Rattle.assise_digest.proofs.region.Region.read.Goals as goal

pub returns-in-Some : goal.returns-in-Some
returns-in-Some c =
    c.value.ensures ∙ ap (pending_seen c.in-Some.pending c.args.inode) c.peek-base.ensures
    ∙ read_there c.self.inside.area.inodes c.self.inside.logs.items c.args.self.now c.args.client c.args.inode c.index.result.now c.in-Some.pending
    c.self.view_is c.self.invariant
    c.requires.client c.index.ensures c.in-Some.is
