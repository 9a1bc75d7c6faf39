use Rattle.assise_threads.proofs.Common.{rules, ◌≡◌, ◌∙◌, ap, is_some, subst, sym, led_from, Extends, openings_of, last, seen, taken, machine, IsLedTo}
use Rattle.assise_threads.proofs.Common.{IsWorkedTo, machine_seen, OpensNone, DoesTake}
use Rattle.assise_threads.proofs.LedTakes.{between, cluster_leads, not_never, seen_works, take_leads}
use Rattle.assise_threads.proofs.Nobodys.{given_extends, given_opens_none, is_legal, may_give, stays_nobody}
use Rattle.assise_threads.proofs.main_thread.MainThreadOf.in_one_take.Goals as goal

pub give-requires-clause-grows : goal.give-requires-clause-grows
give-requires-clause-grows g c =
    let is : taken c.take-held.new.pass ≡ (machine c.state.result.now).history = search rules in
    may_give _ _ _ _ _ (c.take-held.ensures.same.1 ∙ c.args.self.now.nobody) is c.apply-answer.ensures.nobodys

pub give-requires-clause-leads : goal.give-requires-clause-leads
give-requires-clause-leads g c =
    let led : IsLedTo (machine c.state.result.now) (machine c.apply-answer.new.cluster) = take_leads c.args.take c.apply-answer.result _
    c.apply-answer.ensures.does.0 _ c.apply-answer.ensures.does.1 in
    led_from cluster_leads _ c.take-held.result c.apply-answer.new.cluster c.take-held.ensures.state
    (subst (λ z. IsLedTo (machine z) (machine c.apply-answer.new.cluster)) c.state.ensures.value led)

pub invariant_of-self : goal.invariant_of-self
invariant_of-self g c =
    let is : taken c.take-held.new.pass ≡ (machine c.state.result.now).history = search rules in
    record {
      ours = c.give.ensures.free;
      nobody = c.give.ensures.client ∙ stays_nobody _ _ _ _ (c.take-held.ensures.same.1 ∙ c.args.self.now.nobody) is c.apply-answer.ensures.nobodys;
      alone = c.give.ensures.right ∙ (c.take-held.ensures.right ∙ c.args.self.now.alone);
      met = ap is_some c.give.ensures.last;
      known = c.give.ensures.seen ∙ sym (ap (λ z. (machine_seen z).history) c.give.ensures.last);
    }

pub returns-clause-does : goal.returns-clause-does
returns-clause-does g c =
    let old = c.args.self.now.pass in
    let new = c.give.new.pass in
    let extends : Extends (machine c.state.result.now).history (seen old) = search rules in
    let known : seen new ≡ (machine_seen (last new)).history = c.give.ensures.seen ∙ sym (ap (λ z. (machine_seen z).history) c.give.ensures.last) in
    let worked = seen_works (last old) c.take-held.result c.args.self.now.met (c.take-held.ensures.worked c.args.self.now.alone) in
    record {
      before = machine c.state.result.now;
      told = c.apply-answer.ensures.does.0;
      lawful = c.state.result.now.sound.invariant.holds;
      worked = subst (λ z. IsWorkedTo (machine_seen (last old)) (machine z)) (sym c.state.ensures.value) worked;
      does = subst (λ z. DoesTake c.args.take c.apply-answer.result (machine c.state.result.now) c.apply-answer.ensures.does.0 (machine_seen z))
          (sym c.give.ensures.last) c.apply-answer.ensures.does.1;
      legal = is_legal c.apply-answer.new.cluster _ (sym known ∙ c.give.ensures.seen);
      grows = between (λ a b. Extends b a) (seen old) (seen new) c.args.self.now.known known
          (given_extends _ _ _ _ extends c.apply-answer.ensures.nobodys c.give.ensures.seen);
    }

pub returns-clause-none_opened : goal.returns-clause-none_opened
returns-clause-none_opened g c =
    let old = c.args.self.now.pass in
    let new = c.give.new.pass in
    let is : taken c.take-held.new.pass ≡ (machine c.state.result.now).history = search rules in
    let opened : openings_of (machine c.state.result.now).history ≡ openings_of (seen old) = ap openings_of (sym is ∙ c.take-held.ensures.taken)
    ∙ c.take-held.ensures.alone c.args.self.now.alone in
    let known : seen new ≡ (machine_seen (last new)).history = c.give.ensures.seen ∙ sym (ap (λ z. (machine_seen z).history) c.give.ensures.last) in
    between OpensNone (seen old) (seen new) c.args.self.now.known known
    (given_opens_none (seen old) (machine c.state.result.now).history (machine c.apply-answer.new.cluster).history (seen new) opened
    c.apply-answer.ensures.nobodys c.give.ensures.seen)

pub give-requires-clause-works : goal.give-requires-clause-works
give-requires-clause-works g c = λ never. absurd (not_never _ (c.take-held.ensures.right ∙ c.args.self.now.alone) never)
