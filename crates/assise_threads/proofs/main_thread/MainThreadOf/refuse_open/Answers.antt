use Rattle.assise_threads.proofs.Common.{rules, [], ◌≡◌, ◌∙◌, ap, subst, sym, Extends, last, seen, machine, IsWorkedTo, machine_seen}
use Rattle.assise_threads.proofs.LedTakes.{between, seen_works}
use Rattle.assise_threads.proofs.Nobodys.{is_legal}
use Rattle.assise_threads.proofs.main_thread.MainThreadOf.refuse_open.Goals as goal

pub returns-clause-lacks : goal.returns-clause-lacks
returns-clause-lacks g c =
    let old = c.args.self.now.pass in
    let new = c.give.new.pass in
    let extends : Extends (seen new) (seen old) = search rules in
    let after : machine_seen (last new) ≡ machine c.state.result.now = ap machine_seen c.give.ensures.last in
    let known : seen new ≡ (machine_seen (last new)).history = c.give.ensures.seen ∙ sym (ap (λ z. (machine_seen z).history) c.give.ensures.last) in
    let worked = seen_works (last old) c.take-held.result c.args.self.now.met (c.take-held.ensures.worked c.args.self.now.alone) in
    record {
      before = machine c.state.result.now;
      told = [];
      lawful = c.state.result.now.sound.invariant.holds;
      worked = subst (λ z. IsWorkedTo (machine_seen (last old)) (machine z)) (sym c.state.ensures.value) worked;
      does = record { refusal = c.refusal_without_revoker-refusal.ensures; stays = after };
      legal = is_legal c.state.result.now _ (sym known ∙ c.give.ensures.seen);
      grows = between (λ a b. Extends b a) (seen old) (seen new) c.args.self.now.known known extends;
    }
