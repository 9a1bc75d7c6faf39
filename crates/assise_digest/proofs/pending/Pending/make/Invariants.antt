use Rattle.assise_digest.proofs.Common.{◌≡◌, drop, IsNew, KeepsNoMore, all_held, forgotten}
use Rattle.assise_digest.proofs.pending.Pending.make.Given as goal

abbrev pub invariant-loop-effect : goal.invariant-loop-effect
invariant-loop-effect l =
    record {
      no_more : KeepsNoMore l.self;
      held : all_held l.self l.area.inodes l.number (drop l.effect-index l.effects) ≡ all_held l.initial.self l.area.inodes l.number l.effects;
      back : IsNew l.initial.self l.number → forgotten l.self l.number l.effects ≡ l.initial.self;
    }
