use Rattle.assise_machine_failures.proofs.Common.{value_of}
use Rattle.assise_machine_failures.proofs.DroppedCopies.{loses, returning_logless}
use Rattle.assise_machine_failures.proofs.copies.drop_copies.Goals as goal

pub drop_all-requires-clause-no_logs : goal.drop_all-requires-clause-no_logs
drop_all-requires-clause-no_logs g c = returning_logless (value_of c.args.state.now) c.args.node c.requires.shape c.requires.returning

pub returns-clause-copies : goal.returns-clause-copies
returns-clause-copies g c = loses (value_of c.args.state.now) c.args.node c.in-Ok.stale.now.items c.drop_all.new.nodes c.in-Ok.ensures.stale c.drop_all.ensures
