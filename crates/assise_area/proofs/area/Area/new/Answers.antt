use Rattle.assise_area.proofs.Common.{◌≤◌, sym, subst}
use Rattle.std.specs.NonZero.{non_zero_usize_get}
use Rattle.assise_area.proofs.WrittenValues.{sound_new}
use Rattle.assise_area.proofs.area.Area.new.Goals as goal

pub invariant_of-result : goal.invariant_of-result
invariant_of-result c = sound_new c.in_ok-hot.hot c.new.result.entries (non_zero_usize_get c.hot_places.result) c.in_ok-hot.ensures
    (subst (λ n. n ≤ 4096) (sym c.hot_places.ensures) c.requires.most)
