use Rattle.assise_desk.proofs.Common.{take, to_le_bytes, w32, w64}
use Rattle.assise_desk.proofs.TwoPieces.{two_pieces}
use Rattle.assise_desk.proofs.page.place_loss.Goals as goal

pub returns-clause-written : goal.returns-clause-written
returns-clause-written c =
    two_pieces c.place_at-2.result _ c.place_at-2.new.out _ (take c.args.at c.args.out.now) (to_le_bytes w32 c.args.client) (to_le_bytes w64 c.args.call)
    c.to_le_bytes.result c.to_le_bytes-2.result c.to_le_bytes.ensures c.to_le_bytes-2.ensures c.in_ok-end.ensures.written c.place_at-2.ensures.written
