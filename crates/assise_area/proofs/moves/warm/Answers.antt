use Rattle.assise_area.proofs.Common.{◌-◌}
use Rattle.std.proofs.Common.{slice_get}
use Rattle.assise_area.proofs.ColdToHot.{no_last, warmed_in_room}
use Rattle.assise_area.proofs.moves.warm.Goals as goal

pub returns-in_default-clause-ok : goal.returns-in_default-clause-ok
returns-in_default-clause-ok c =
    let hot = c.args.hot.now in
    warmed_in_room c.args.inode hot c.push_hot.new.hot c.args.cold.now.entries c.push_hot.new.cold.entries c.leaving.ensures.valid c.requires.disjoint
    c.requires.absent
    (no_last (slice_get hot.entries (hot.cap - 1)) c.in_default.ensures.last) c.in_ok-push_hot.ensures.pushed c.in_ok-push_hot.ensures.taken
