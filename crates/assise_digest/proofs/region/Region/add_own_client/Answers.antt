use Rattle.assise_digest.proofs.RegionLogs.{sound_empty}
use Rattle.assise_digest.proofs.region.Region.add_own_client.Goals as goal

pub add-requires : goal.add-requires
add-requires c =
    record {
      sound = sound_empty c.args.self.now.inodes c.args.log c.first-digested.result c.new.result c.requires.empty c.first-digested.ensures
          c.new.ensures.inodes c.new.ensures.last;
    }
