use Rattle.assise_model_world.proofs.Shared.Views.{reads_truth, true_step, true_reply}
use Rattle.assise_model_world.proofs.reading.a_client_reads_what_the_calls_made.Goals as goal

pub returns : goal.returns
returns c = record { value = reads_truth; step = true_step; reply = true_reply }
