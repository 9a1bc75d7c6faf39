use Rattle.assise_digest.proofs.Common.{None, ap}
use Rattle.assise_digest.proofs.RegionLogs.{sound_changed}
use Rattle.assise_digest.proofs.region.Region.stale.Goals as goal

pub invariant_of-self : goal.invariant_of-self
invariant_of-self c =
    sound_changed c.self.inside.area.inodes c.remove.new.self.inodes c.self.inside.logs.items c.args.self.now c.args.inode None c.self.view_is c.self.invariant
    c.requires.quiet
    (ap (λ a. a.inodes) c.remove.ensures.others)
