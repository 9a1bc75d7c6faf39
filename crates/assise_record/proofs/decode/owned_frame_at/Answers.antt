use Rattle.assise_record.proofs.Common.{ap, arith, length}
use Rattle.assise_record.proofs.decode.owned_frame_at.Goals as goal

pub advance-requires : goal.advance-requires
advance-requires c = omega (arith, c.in_ok-header.ensures.long, ap length c.in_ok-body.ensures.ok, ap length c.as_slice.ensures.value)
