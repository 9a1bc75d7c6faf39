use Rattle.assise_area.proofs.Common.{◌≡◌, ℕ, drop, length, take, option_or, cold_at, hot_at}
use Rattle.assise_area.proofs.cooling.move_beyond.Given as goal

abbrev pub invariant-loop-hot : goal.invariant-loop-hot
invariant-loop-hot l = record {
  cap : l.hot.cap ≡ l.fn.hot.cap;
  prefix : l.hot.entries ≡ take (length l.hot.entries) l.fn.hot.entries;
  stays : take l.fn.first l.hot.entries ≡ take l.fn.first l.fn.hot.entries;
  moved : (q : ℕ) → cold_at l.cold.entries q ≡ option_or (hot_at (drop (length l.hot.entries) l.fn.hot.entries) q) (cold_at l.fn.cold.entries q);
}

abbrev pub decreases-loop-hot : goal.decreases-loop-hot
decreases-loop-hot l = length l.hot.entries
