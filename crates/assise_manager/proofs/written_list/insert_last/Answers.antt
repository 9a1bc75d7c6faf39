use Rattle.assise_manager.proofs.Common.{◌∙◌, sym}
use Rattle.assise_manager.proofs.Lasts.{last_place, last_room, last_written}
use Rattle.assise_manager.proofs.written_list.insert_last.Goals as goal

pub insert_reserved-requires : goal.insert_reserved-requires
insert_reserved-requires c =
    record {
      room = sym (last_room _ c.args.lists.now c.in-Some.last c.index-lists-last.result (last_place _ _ c.in-Some.ensures.0 c.in-Some.ensures.1))
          ∙ c.requires.room;
    }

pub returns-in-Some-clause-lists : goal.returns-in-Some-clause-lists
returns-in-Some-clause-lists c = last_written _ c.args.lists.now c.in-Some.last c.insert_reserved.new.self c.index-lists-last.result
    (last_place _ _ c.in-Some.ensures.0 c.in-Some.ensures.1) c.insert_reserved.ensures
