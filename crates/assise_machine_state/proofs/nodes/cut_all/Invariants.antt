use Rattle.assise_machine_state.proofs.Common.{◌≡◌, ◌++◌, take, drop, AreUndigested, with_tails_cut}
use Rattle.assise_machine_state.proofs.nodes.cut_all.Given as goal

abbrev pub invariant-loop-region : goal.invariant-loop-region
invariant-loop-region l = AreUndigested (drop l.region-index l.regions) l.client l.from
    × (take l.region-index l.regions ++ with_tails_cut (drop l.region-index l.regions) l.client l.from ≡ with_tails_cut l.fn.regions l.client l.from)
