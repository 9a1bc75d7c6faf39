use Rattle.assise_record.proofs.RoomLaws.{Appends-then}
use Rattle.assise_record.proofs.encode.put_write.Goals as goal

pub returns-clause-appended : goal.returns-clause-appended
returns-clause-appended c = Appends-then _ _ _ _ _ c.put_u64.ensures c.put_extent.ensures.appended
