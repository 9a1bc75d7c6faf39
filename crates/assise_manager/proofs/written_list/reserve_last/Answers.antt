use Rattle.assise_manager.proofs.Lasts.{last_place, room_made, last_same}
use Rattle.assise_manager.proofs.written_list.reserve_last.Goals as goal

pub returns-in-Some-clause-same : goal.returns-in-Some-clause-same
returns-in-Some-clause-same c = last_same c.args.lists.now c.in-Some.last c.reserve.new.self c.index-lists-last.result
    (last_place _ _ c.in-Some.ensures.0 c.in-Some.ensures.1) c.reserve.ensures.same

pub returns-in-Some-clause-room : goal.returns-in-Some-clause-room
returns-in-Some-clause-room c = room_made c.reserve.result c.args.count c.args.lists.now c.in-Some.last c.reserve.new.self
    (last_place _ _ c.in-Some.ensures.0 c.in-Some.ensures.1) c.reserve.ensures.room
