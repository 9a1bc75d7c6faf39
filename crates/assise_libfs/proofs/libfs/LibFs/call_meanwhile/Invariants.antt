use Rattle.assise_libfs.proofs.Common.{ExtendsByOthers, IsSameClient, client_of, seen_by, HasWaited}
use Rattle.assise_libfs.proofs.libfs.LibFs.call_meanwhile.Given as goal

abbrev pub invariant-loop-turn : goal.invariant-loop-turn
invariant-loop-turn g l = record {
  callable : goal.F-IsAlwaysCallable g l.meanwhile;
  same : IsSameClient l.fn.self l.self;
  others : ExtendsByOthers (client_of l.fn.self) (seen_by l.fn.self) (seen_by l.self);
  waited : HasWaited g.S.Growing.history g.S.Served.acts (client_of l.fn.self) l.op l.turn (seen_by l.fn.self) (seen_by l.self);
}
