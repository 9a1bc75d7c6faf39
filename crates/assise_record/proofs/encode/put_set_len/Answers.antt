use Rattle.assise_record.proofs.Common.{ℕ, subst, big_bytes, Appends}
use Rattle.assise_record.proofs.RoomLaws.{Appends-then}
use Rattle.assise_record.proofs.encode.put_set_len.Goals as goal

pub returns-clause-appended : goal.returns-clause-appended
returns-clause-appended c =
    let size = subst (λ (n : ℕ). Appends c.put_u64.new.out c.put_u32.new.out (big_bytes 4 n)) c.get.ensures.length c.put_u32.ensures in
    Appends-then _ _ _ _ _ c.put_u64.ensures size
