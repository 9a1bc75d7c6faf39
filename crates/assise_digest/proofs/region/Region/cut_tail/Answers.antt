use Rattle.assise_digest.proofs.Common.{up_to_number}
use Rattle.assise_digest.proofs.RegionLogs.{changed_sound, changed_there}
use Rattle.assise_digest.proofs.region.Region.cut_tail.Goals as goal

pub invariant_of-self : goal.invariant_of-self
invariant_of-self c = changed_sound c.self.inside.area.inodes _ _ c.args.client _ _ c.self.invariant c.self.view_is c.requires.client
    c.index_mut.ensures.value (c.cut_tail.ensures.sound c.self.inside.area.inodes)

pub returns : goal.returns
returns c = changed_there (λ l. up_to_number l c.args.from) c.self.inside.area.inodes _ _ c.args.client _ _ c.self.view_is c.requires.client
    c.index_mut.ensures.value c.cut_tail.ensures.seen
