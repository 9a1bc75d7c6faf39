use Rattle.assise_digest.proofs.Common.{Some, ap}
use Rattle.assise_digest.proofs.RegionLogs.{sound_changed}
use Rattle.assise_digest.proofs.region.Region.put.Goals as goal

pub invariant_of-self-2 : goal.invariant_of-self-2
invariant_of-self-2 c =
    sound_changed c.self.inside.area.inodes c.put.new.self.inodes c.self.inside.logs.items c.args.self.now c.args.inode (Some c.args.content) c.self.view_is
    c.self.invariant c.requires.quiet
    (ap (λ a. a.inodes) c.in_ok-put.ensures.ok)
