use Rattle.assise_digest.proofs.Common.{◌≡◌, take, ap, subst, ◌∙◌, arith, all_applied, all_effects, ahead, digested_further, LogInvariant, seen_log}
use Rattle.assise_digest.proofs.Grouped.{applied_next, further_next, further_none, has_next}
use Rattle.assise_digest.proofs.received.Received.count_all_digested.Goals as goal

pub loop-done-init : goal.loop-done-init
loop-done-init c = record { within = omega arith; seen = further_none (seen_log c.args.self.now); sound = λ m s. s }

pub count_digested-requires-clause-begun : goal.count_digested-requires-clause-begun
count_digested-requires-clause-begun c =
    (has_next (seen_log c.args.self.now) (seen_log c.loop-done.self) c.loop-done.done c.requires.begun c.loop-done.invariant.seen
    (omega (arith, c.requires.there))).begun

pub count_digested-requires-clause-more : goal.count_digested-requires-clause-more
count_digested-requires-clause-more c =
    (has_next (seen_log c.args.self.now) (seen_log c.loop-done.self) c.loop-done.done c.requires.begun c.loop-done.invariant.seen
    (omega (arith, c.requires.there))).more

pub loop-done-preserved : goal.loop-done-preserved
loop-done-preserved c = record {
  within = omega arith;
  seen = further_next (seen_log c.args.self.now) (seen_log c.loop-done.self) (seen_log c.count_digested.new.self) c.loop-done.done c.loop-done.invariant.seen
      c.count_digested.ensures.seen;
  sound = λ m s.
      subst (λ w. LogInvariant w c.count_digested.new.self)
      (applied_next m (seen_log c.args.self.now) (seen_log c.loop-done.self) c.loop-done.done c.requires.begun c.loop-done.invariant.seen)
      (c.count_digested.ensures.sound (all_applied m (all_effects (take c.loop-done.done (ahead (seen_log c.args.self.now)))))
      (c.loop-done.invariant.sound m s));
}

pub returns-clause-seen : goal.returns-clause-seen
returns-clause-seen c =
    let all : c.loop-done.done ≡ c.args.count = omega arith in
    c.loop-done.invariant.seen ∙ ap (digested_further (seen_log c.args.self.now)) all

pub returns-clause-sound : goal.returns-clause-sound
returns-clause-sound c = λ m s.
    let all : c.loop-done.done ≡ c.args.count = omega arith in
    subst (λ n. LogInvariant (all_applied m (all_effects (take n (ahead (seen_log c.args.self.now))))) c.loop-done.self) all (c.loop-done.invariant.sound m s)
