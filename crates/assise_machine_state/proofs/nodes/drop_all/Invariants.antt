use Rattle.assise_machine_state.proofs.Common.{◌≡◌, ◌++◌, take, drop, AreDigested, with_prefixes_dropped}
use Rattle.assise_machine_state.proofs.nodes.drop_all.Given as goal

abbrev pub invariant-loop-region : goal.invariant-loop-region
invariant-loop-region l = AreDigested (drop l.region-index l.regions) l.client l.to
    × (take l.region-index l.regions ++ with_prefixes_dropped (drop l.region-index l.regions) l.client l.to ≡ with_prefixes_dropped l.fn.regions l.client l.to)
