use Rattle.assise_digest.proofs.Common.{from_number}
use Rattle.assise_digest.proofs.RegionLogs.{changed_sound, changed_there}
use Rattle.assise_digest.proofs.region.Region.drop_front.Goals as goal

pub invariant_of-self : goal.invariant_of-self
invariant_of-self c = changed_sound c.self.inside.area.inodes _ _ c.args.client _ _ c.self.invariant c.self.view_is c.requires.client
    c.index_mut.ensures.value (c.drop_front.ensures.sound c.self.inside.area.inodes)

pub returns : goal.returns
returns c = changed_there (λ l. from_number l c.args.to) c.self.inside.area.inodes _ _ c.args.client _ _ c.self.view_is c.requires.client
    c.index_mut.ensures.value c.drop_front.ensures.seen
