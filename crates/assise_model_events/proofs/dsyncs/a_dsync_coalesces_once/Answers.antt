use Rattle.assise_model_events.proofs.AnswerSays.{coalescing_all, coalescing_awaited, coalescing_replies}
use Rattle.assise_model_events.proofs.dsyncs.a_dsync_coalesces_once.Goals as goal

pub returns : goal.returns
returns c = record { reply = coalescing_replies; answered = coalescing_all; awaited = coalescing_awaited }
