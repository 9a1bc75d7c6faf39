use Rattle.assise_digest.proofs.Common.{◌<◌, subst, sym, end, IsNextGroup}
use Rattle.assise_digest.proofs.RegionLogs.{here_sound, log_there}
use Rattle.assise_digest.proofs.region.Region.next_group.Goals as goal

pub next_group-requires-clause-begun : goal.next_group-requires-clause-begun
next_group-requires-clause-begun c =
    let m = c.self.inside.area.inodes in
    let xs = c.self.inside.logs.items in
    (here_sound m xs c.args.self.now c.args.client c.index.result.now c.self.invariant c.self.view_is c.requires.client c.index.ensures).begun

pub next_group-requires-clause-more : goal.next_group-requires-clause-more
next_group-requires-clause-more c =
    subst (λ l. l.digested < end l.log)
    (log_there c.self.inside.area.inodes c.self.inside.logs.items c.args.self.now c.args.client c.index.result.now c.self.view_is c.requires.client
    c.index.ensures) c.requires.more

pub returns : goal.returns
returns c =
    subst (λ l. IsNextGroup l c.next_group.result)
    (sym (log_there c.self.inside.area.inodes c.self.inside.logs.items c.args.self.now c.args.client c.index.result.now c.self.view_is c.requires.client
    c.index.ensures)) c.next_group.ensures
