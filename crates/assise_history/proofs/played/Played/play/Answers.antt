use Rattle.assise_history.proofs.PlayedCalls.{goes_play}
use Rattle.assise_history.proofs.played.Played.play.Goals as goal

pub returns-clause-ok : goal.returns-clause-ok
returns-clause-ok c = goes_play c.args.self.now record { calls = c.push.new.self; tree = c.answer.new.tree } c.args.call c.in_ok-reply.reply c.is_answer.result
    c.requires c.in_ok-push.ensures.items c.in_ok-reply.ensures.ok c.is_answer.ensures
