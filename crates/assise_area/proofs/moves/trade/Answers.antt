use Rattle.assise_area.proofs.Common.{◌-◌, sym, ◌∙◌}
use Rattle.std.proofs.Common.{slice_get}
use Rattle.assise_area.proofs.ColdToHot.{last_key, place_there, undone, warmed_in_place, with_last}
use Rattle.assise_area.proofs.moves.trade.Goals as goal

pub overwrite-requires : goal.overwrite-requires
overwrite-requires c =
    let hot = c.args.hot.now in
    let is_last = sym c.in-Ok.ensures.left ∙ c.in-Some.is in
    record {
      there = place_there hot c.args.cold.now.entries c.insert.new.self.entries c.push_hot.new.cold.entries c.args.inode c.args.last c.in-Some.entry
          c.new_file.result c.requires.valid c.requires.absent is_last
          (last_key (slice_get hot.entries (hot.cap - 1)) c.args.last c.in-Some.entry c.requires.last is_last) c.in_ok-insert.ensures.updates.0
          c.in-Ok.ensures.taken;
    }

pub returns-in-Some-clause-ok : goal.returns-in-Some-clause-ok
returns-in-Some-clause-ok c =
    let hot = c.args.hot.now in
    let is_last = sym c.in-Ok.ensures.left ∙ c.in-Some.is in
    warmed_in_place c.args.inode c.args.last c.in-Some.entry c.new_file.result hot c.push_hot.new.hot c.args.cold.now.entries c.insert.new.self.entries
    c.push_hot.new.cold.entries c.overwrite.new.cold.entries
    c.requires.valid c.requires.disjoint c.requires.absent is_last
    (last_key (slice_get hot.entries (hot.cap - 1)) c.args.last c.in-Some.entry c.requires.last is_last)
    c.in-Ok.ensures.pushed c.in_ok-insert.ensures.updates.0 c.in-Ok.ensures.taken c.overwrite.ensures

pub returns-in-Err-clause-err_cold : goal.returns-in-Err-clause-err_cold
returns-in-Err-clause-err_cold c =
    let hot = c.args.hot.now in
    with_last (slice_get hot.entries (hot.cap - 1)) c.args.last c.requires.last (λ e is_last key.
    undone hot c.args.cold.now.entries c.insert.new.self.entries c.push_hot.new.cold.entries c.swap_remove.new.self.entries c.args.last e c.new_file.result
    c.requires.valid c.requires.disjoint is_last key
    c.in_ok-insert.ensures.updates.0 c.in-Err.ensures.err_cold c.swap_remove.ensures.updates.0)
