use Rattle.assise_area.proofs.Common.{None}
use Rattle.assise_area.proofs.Cooled.{written_next}
use Rattle.assise_area.proofs.cooling.take_places.Goals as goal

pub loop-number-preserved : goal.loop-number-preserved
loop-number-preserved c = written_next c.args.numbers.now c.loop-number.number-index 0 None c.args.cold.now.entries c.loop-number.cold.entries
    c.swap_remove.new.self.entries c.loop-number-test.true c.loop-number.invariant c.swap_remove.ensures.updates.0
