use Rattle.assise_area.proofs.Common.{◌≡◌, ◌<◌, ◌-◌, length, refl, sym, ap, ◌∙◌, arith, take, drop, option_or, cold_at, hot_at}
use Rattle.assise_area.proofs.Cooled.{last_moved, last_placed, length_shorter, shorter_prefix, take_fewer}
use Rattle.assise_area.proofs.cooling.move_beyond.Goals as goal

pub overwrite-requires : goal.overwrite-requires
overwrite-requires c =
    let hot = c.loop-hot.hot.entries in
    let more : c.args.first < length hot = omega (arith, c.loop-hot-test.true, c.len.ensures.len) in
    record {
      there = last_placed (length hot) c.args.hot.now.entries hot c.in-Some.entry (omega (arith, more)) c.loop-hot.invariant.prefix
          (sym c.in-Some.ensures.value)
          c.args.first c.args.cold.now.entries c.loop-hot.cold.entries more c.requires.places c.loop-hot.invariant.moved;
    }

pub loop-hot-preserved : goal.loop-hot-preserved
loop-hot-preserved c =
    let old = c.args.hot.now.entries in
    let hot = c.loop-hot.hot.entries in
    let first = c.args.first in
    let more : first < length hot = omega (arith, c.loop-hot-test.true, c.len.ensures.len) in
    let left : c.pop_lru.new.self.entries ≡ take (length hot - 1) hot = ap (λ h. h.entries) c.in-Some.ensures.entries in
    let shorter : length c.pop_lru.new.self.entries ≡ length hot - 1 = ap length left ∙ length_shorter (length hot) hot refl in
    record {
      cap = ap (λ h. h.cap) c.in-Some.ensures.entries ∙ c.loop-hot.invariant.cap;
      prefix = left ∙ shorter_prefix (length hot) old hot c.loop-hot.invariant.prefix refl ∙ ap (λ n. take n old) (sym shorter);
      stays = ap (take first) left ∙ take_fewer first (length hot - 1) hot (omega (arith, more)) ∙ c.loop-hot.invariant.stays;
      moved = λ q.
          last_moved (length hot) old hot c.in-Some.entry (omega (arith, more)) c.loop-hot.invariant.prefix (sym c.in-Some.ensures.value)
          c.args.cold.now.entries c.loop-hot.cold.entries c.overwrite.new.cold.entries c.loop-hot.invariant.moved c.overwrite.ensures q
          ∙ ap (λ n. option_or (hot_at (drop n old) q) (cold_at c.args.cold.now.entries q)) (sym shorter);
    }
