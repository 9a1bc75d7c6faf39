use Rattle.assise_machine_calls.proofs.Common.{ap, refl, subst, sym, ◌∙◌, err_from_is_err_and, end, refused, MachineInvariant, observed, CutsInvariant}
use Rattle.assise_machine_calls.proofs.Common.{ShapeInvariant, value_of, turn_answer, not_yet}
use Rattle.assise_model_events.specs.Dsyncs.Coalescing.{lacks_memory}
use Rattle.assise_machine_calls.proofs.GroupedSyncs.{CoalescesTo, coalesced_given, from_digested, from_high, home_log, lacking_seen, still_log}
use Rattle.assise_machine_calls.proofs.SyncChanges.{Gives, fine_number}
use Rattle.assise_machine_calls.proofs.sync.coalesce.Given as over
use Rattle.assise_machine_calls.proofs.sync.coalesce.Goals as goal

-- what is coalesced, with the invariant after it
coalesced : (g : over.Over) (c : goal.After-raise_goal g) → Gives (CoalescesTo (value_of c.args.sound.now.state) c.args.client not_yet)
    (record (value_of c.args.sound.now.state) { nodes = c.coalesce.new.self; clients = c.raise_goal.new.self })
coalesced g c =
    let s = value_of c.args.sound.now.state in
    let x = c.args.sound.now in
    coalesced_given s c.args.client x.invariant.shape c.requires.fine c.home-home.result (c.home-home.ensures ∙ ap (λ y. y.home) c.get.ensures)
    x.invariant.holds c.coalesced_from-from.result c.coalesced_from-from.ensures c.coalesce.ensures.lawful x.invariant.noted
    (lacking_seen s c.args.client c.requires.lacking) c.in_ok-coalesce.ensures.effects x.state.members.lawful.some_full c.coalesce.new.self c.end-end.result
    c.raise_goal.new.self c.in_ok-coalesce.ensures.ok (c.end-end.ensures.end ∙ ap end c.log.ensures.log) c.raise_goal.ensures

pub coalesced_from-from-requires-clause-client : goal.coalesced_from-from-requires-clause-client
coalesced_from-from-requires-clause-client g c = fine_number (value_of c.args.sound.now.state) c.args.client c.requires.fine

pub get-requires : goal.get-requires
get-requires g c = record { client = fine_number (value_of c.args.sound.now.state) c.args.client c.requires.fine }

pub coalesce-requires : goal.coalesce-requires
coalesce-requires g c =
    let s = value_of c.args.sound.now.state in
    let x = c.args.sound.now in
    let home = c.home-home.ensures ∙ ap (λ y. y.home) c.get.ensures in
    record {
      there = home_log s c.args.client x.invariant.shape c.requires.fine c.home-home.result home;
      digested = from_digested s c.args.client x.invariant.shape c.requires.fine c.home-home.result home x.invariant.holds c.coalesced_from-from.result
          c.coalesced_from-from.ensures;
      to_end = from_high s c.args.client x.invariant.shape c.requires.fine c.home-home.result home x.invariant.holds c.coalesced_from-from.result
          c.coalesced_from-from.ensures;
    }

pub log-requires : goal.log-requires
log-requires g c =
    let s = value_of c.args.sound.now.state in
    let home = c.home-home.ensures ∙ ap (λ y. y.home) c.get.ensures in
    let x = c.args.sound.now in
    record {
      there =
          still_log s c.args.client x.invariant.shape c.requires.fine c.home-home.result home x.invariant.holds c.coalesced_from-from.result
          c.coalesced_from-from.ensures
          c.coalesce.ensures.lawful c.coalesce.new.self c.in_ok-coalesce.ensures.ok;
    }

pub raise_goal-requires : goal.raise_goal-requires
raise_goal-requires g c = record { client = fine_number (value_of c.args.sound.now.state) c.args.client c.requires.fine }

pub invariant_of-sound : goal.invariant_of-sound
invariant_of-sound g c =
    let s = value_of c.args.sound.now.state in
    let x = c.args.sound.now in
    let same = ap (λ ns. record s { nodes = ns }) (sym c.in_err-coalesce.ensures.err) in
    record {
      invariant = record {
        holds = subst (λ v. ∥ MachineInvariant (observed v) ∥₁) same x.invariant.holds;
        shape = subst ShapeInvariant same x.invariant.shape;
        noted = subst CutsInvariant same x.invariant.noted;
      };
    }

pub returns-in_err-coalesce : goal.returns-in_err-coalesce
unfolding observed
returns-in_err-coalesce g c =
    let s = value_of c.args.sound.now.state in
    let error = err_from_is_err_and c.from_residual.result c.from_residual.ensures.1 in
    record {
      happens = lacks_memory c.requires.fine (ap turn_answer error.1 ∙ ap refused (error.2 ∙ c.in_err-coalesce.ensures.only_memory))
          (ap (λ ns. observed (record s { nodes = ns })) c.in_err-coalesce.ensures.err);
      revokers = λ d. refl;
    }

pub invariant_of-sound-2 : goal.invariant_of-sound-2
invariant_of-sound-2 g c = record { invariant = record { holds = (coalesced g c).holds; shape = (coalesced g c).shape; noted = (coalesced g c).noted } }

pub returns : goal.returns
returns g c = record { happens = (coalesced g c.before).happens; revokers = λ d. refl }
