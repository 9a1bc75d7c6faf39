use Rattle.assise_threads.proofs.Common.{[], refl, subst, Appends, Whole, main_seen}
use Rattle.std.proofs.lemmas.Result.{on_ok_weaker}
use Rattle.assise_threads.proofs.RunOn.{line_shows_none}
use Rattle.assise_threads.proofs.crew.Crew.run_one.Goals as goal

pub returns-in-History-clause-said : goal.returns-in-History-clause-said
returns-in-History-clause-said g c =
    let wrote = c.write_history.ensures in
    on_ok_weaker c.write_history.result (λ text. record {
      answer = Whole;
      answered = rw c.in-History.is (record { answer = refl; worked = wrote.worked; extends = wrote.extends; legal = wrote.legal });
      opened = rw c.in-History.is wrote.none_opened;
      appends = text;
      clients = rw c.in-History.is refl;
    }) wrote.text

pub returns-clause-said : goal.returns-clause-said
returns-clause-said g c =
    let line = c.args.line.now in
    let answer = c.in_ok-answer.answer in
    on_ok_weaker c.write_answer.result (λ text. record {
      answer = answer;
      answered = c.in_ok-answer.ensures.answered;
      opened = c.in_ok-answer.ensures.opened;
      appends = subst (Appends (g.W.Write.contents c.args.writer.now) (g.W.Write.contents c.write_answer.new.writer))
          (line_shows_none c.args.self.now.turns line.line line.command answer [] (main_seen c.args.self.now.main) (main_seen c.answer.new.self.main)
          c.in_default.not-History c.in_ok-answer.ensures.answered) text;
      clients = c.in_ok-answer.ensures.clients;
    }) c.write_answer.ensures.written
