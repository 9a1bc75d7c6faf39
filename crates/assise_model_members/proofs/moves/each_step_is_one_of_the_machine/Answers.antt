use Rattle.assise_model_world.specs.Runs.Moves.{digests, fails, joins, rests}
use Rattle.assise_model_members.proofs.Shared.JoinKeeps.{rejoin_joins}
use Rattle.assise_model_members.proofs.moves.each_step_is_one_of_the_machine.Goals as goal

pub returns : goal.returns
returns c = record {
  failed = λ w v u m o n inodes g. (fails n g.fails, (rests g.rests, tt));
  again = λ w u m o n g. rests g.rests;
  digested = λ w u m o n d k inodes g. digests n d k g.digests;
  back = λ w u m o n g. rests g.rests;
  refilled = λ w u m o n i g. rests g.rests;
  joined = λ w u m o n a g. joins n g.donor (rejoin_joins w u m o n a g);
}
