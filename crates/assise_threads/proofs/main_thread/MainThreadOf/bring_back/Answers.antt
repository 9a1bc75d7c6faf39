use Rattle.assise_threads.proofs.Common.{◌≡◌, ◌∙◌, arith, subst, Busy, IsOneAt, Refused, join, is_refused, joins, stops_filling, InOneTake, main_seen}
use Rattle.assise_threads.proofs.Nobodys.{none_then_none}
use Rattle.assise_threads.proofs.ReturnTries.{tried_more}
use Rattle.assise_threads.proofs.main_thread.MainThreadOf.bring_back.Goals as goal

pub returns-in-Refused-clause-comes : goal.returns-in-Refused-clause-comes
returns-in-Refused-clause-comes g c = is_refused c.in-Refused.field-0 c.in-Refused.is c.in_one_take-begun.ensures.does

pub returns-in-Refused-filled-clause-comes : goal.returns-in-Refused-filled-clause-comes
returns-in-Refused-filled-clause-comes g c = stops_filling c.in-Refused-filled.field-0 c.loop.counter (main_seen c.loop.self) c.loop-test.true
    c.loop.invariant.tried c.in-Refused-filled.is c.in_one_take-filled.ensures.does

pub returns-in-Refused-filled-clause-none_opened : goal.returns-in-Refused-filled-clause-none_opened
returns-in-Refused-filled-clause-none_opened g c =
    none_then_none (main_seen c.args.self.now).history (main_seen c.loop.self).history (main_seen c.in_one_take-filled.new.self).history
    c.loop.invariant.none_opened c.in_one_take-filled.ensures.none_opened

pub returns-then-not-is_busy : goal.returns-then-not-is_busy
returns-then-not-is_busy g c =
    let before = c.loop.invariant in
    let filled = main_seen c.in_one_take-filled.new.self in
    let opened = none_then_none (main_seen c.args.self.now).history (main_seen c.loop.self).history filled.history before.none_opened
    c.in_one_take-filled.ensures.none_opened in
    let no_more : c.in_one_take-joined.result ≡ Refused Busy →
    ⊥ = λ is. (let yes = c.is_busy.ensures.1 is in let no = c.if-not-is_busy.true in let not = c.if-not-is_busy.ensures in cc) in
    record {
      comes = joins c.loop.counter (main_seen c.loop.self) filled c.loop-test.true before.tried
          (record { answer = c.in_one_take-filled.result; done = c.in_default-filled.not-Refused; take = c.in_one_take-filled.ensures.does }) no_more
          c.in_one_take-joined.ensures.does;
      none_opened = none_then_none (main_seen c.args.self.now).history filled.history (main_seen c.in_one_take-joined.new.self).history opened
          c.in_one_take-joined.ensures.none_opened;
      keeper = c.in_one_take-joined.ensures.keeper ∙ (c.in_one_take-filled.ensures.keeper ∙ before.keeper);
    }

pub loop-preserved : goal.loop-preserved
loop-preserved g c =
    let before = c.loop.invariant in
    let filled = main_seen c.in_one_take-filled.new.self in
    let joined = main_seen c.in_one_take-joined.new.self in
    let opened = none_then_none (main_seen c.args.self.now).history (main_seen c.loop.self).history filled.history before.none_opened
    c.in_one_take-filled.ensures.none_opened in
    let busy : c.in_one_take-joined.result ≡ Refused Busy = c.is_busy.ensures.0 (let no = c.if-not-is_busy.false in let not = c.if-not-is_busy.ensures in cc) in
    record {
      tried = tried_more c.args.node c.loop.counter c.in_one_take-filled.result (main_seen c.args.self.now) (main_seen c.loop.self) filled joined before.tried
          c.in_default-filled.not-Refused c.in_one_take-filled.ensures.does
          (subst (λ z. InOneTake (IsOneAt join c.args.node z) filled joined) busy c.in_one_take-joined.ensures.does);
      few = omega (arith, c.loop-test.true);
      none_opened = none_then_none (main_seen c.args.self.now).history filled.history joined.history opened c.in_one_take-joined.ensures.none_opened;
      keeper = c.in_one_take-joined.ensures.keeper ∙ (c.in_one_take-filled.ensures.keeper ∙ before.keeper);
    }
