use Rattle.assise_inode_table.proofs.Common.{◌≡◌, ◌||◌, ℕ, drop, contains, touched, value_after, AreDistinctChanges, found, is_among}
use Rattle.std.specs.FinMap as map
use Rattle.assise_inode_table.proofs.changes.changes_over.Given as goal

abbrev pub invariant-loop-effect : goal.invariant-loop-effect
invariant-loop-effect g l =
    let base : ℕ → _ = λ i. map.get (g.I.Inodes.contents l.base) i in
    record {
      distinct : AreDistinctChanges l.changes.items;
      values : (i : ℕ) → value_after i (found l.changes.items i (base i)) (drop l.effect-index l.effects) ≡ value_after i (base i) l.effects;
      among : (i : ℕ) → (is_among l.changes.items i || contains (touched (drop l.effect-index l.effects)) i) ≡ contains (touched l.effects) i;
    }
