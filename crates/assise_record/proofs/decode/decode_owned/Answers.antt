use Rattle.assise_record.proofs.Outcomes.{is_found, is_only, is_no_frame, is_there}
use Rattle.assise_record.proofs.decode.decode_owned.Goals as goal

pub returns-clause-found : goal.returns-clause-found
returns-clause-found c = is_found c.args.newest c.args.bytes.items c.owned_frame_at.result c.requires.known_version c.owned_frame_at.ensures.bytes
    c.owned_frame_at.ensures.read

pub returns-clause-only : goal.returns-clause-only
returns-clause-only c = is_only c.args.newest c.args.bytes.items c.owned_frame_at.result c.owned_frame_at.ensures.read

pub returns-clause-no_frame : goal.returns-clause-no_frame
returns-clause-no_frame c = is_no_frame c.args.newest c.args.bytes.items c.owned_frame_at.result c.owned_frame_at.ensures.read

pub returns-clause-memory : goal.returns-clause-memory
returns-clause-memory c = is_there c.args.newest c.args.bytes.items c.owned_frame_at.result c.requires.known_version c.owned_frame_at.ensures.bytes
    c.owned_frame_at.ensures.faults
