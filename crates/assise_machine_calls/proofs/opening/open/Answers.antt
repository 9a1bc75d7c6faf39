use Rattle.assise_machine_calls.proofs.Common.{◌≡◌, ◌+◌, ◌<◌, ◌∙◌, [], ◌∷◌, ◌++◌, None, suc, length, refl, ap, subst, sym, arith, ∥∥₁_map, MOST_CLIENTS}
use Rattle.assise_machine_calls.proofs.Common.{levels_of, EnrolsAt, opens, Opening, is_refused, lacks_memory, opened, open_client, refused, open_fault}
use Rattle.assise_machine_calls.proofs.Common.{MachineInvariant, event_keeps, after_open, with_logs_ended, observed, CutsInvariant, ShapeInvariant, value_of}
use Rattle.assise_machine_calls.proofs.Common.{open_noted, opened_on}
use Rattle.assise_machine_calls.proofs.OpenFaults.{fine_few}
use Rattle.assise_machine_calls.proofs.Opened.{done, is_event, keeps_shape, stranger, undone}
use Rattle.assise_machine_calls.proofs.SyncChanges.{Gives}
use Rattle.assise_machine_calls.proofs.opening.open.Given as over
use Rattle.assise_machine_calls.proofs.opening.open.Goals as goal
use Rattle.assise_machine_calls.proofs.opening.open.Goals.{After-end_logs}

-- where no lease is enrolled, what was begun is undone
undone_now : (g : over.Over) (c : After-end_logs g) →
    record (value_of c.begin.new.state) { nodes = c.end_logs.new.self; levels = levels_of c.enrol.new.self } ≡ value_of c.args.sound.now.state
undone_now g c =
    let s = value_of c.args.sound.now.state in
    let v = value_of c.begin.new.state in
    let number : c.len.result + 1 ≡ suc (length c.args.sound.now.state.clients) = omega (arith, c.len.ensures) in
    undone s v c.args.node c.end_logs.new.self (levels_of c.enrol.new.self) c.args.sound.now.invariant.shape c.in_default-begin.ensures.ok
    (c.end_logs.ensures ∙ ap (with_logs_ended v.nodes) number) c.in-Err-enrol.ensures.err

-- what is opened, with the invariant after it
opened_now : (g : over.Over) (c : goal.After-push g) →
    c.open.new.self ≡ (value_of c.begin.new.state).clients ++ opened_on c.args.node c.args.durability ∷ [] →
    Gives (λ w. Opening (observed (value_of c.args.sound.now.state)) c.args.node c.args.durability (opened (c.len.result + 1)) (observed w))
    (record (value_of c.begin.new.state) { clients = c.open.new.self; levels = levels_of c.enrol.new.self; history = c.push.new.self.events })
opened_now g c more =
    let s = value_of c.args.sound.now.state in
    let v = value_of c.begin.new.state in
    let x = c.args.sound.now.invariant in
    let levels = levels_of c.enrol.new.self in
    let fine : open_fault (observed s) c.args.node ≡ None = sym c.open_refusal.ensures ∙ c.in_default.is in
    let number : c.len.result + 1 ≡ suc (length s.clients) = omega (arith, c.len.ensures) in
    let told = c.push.ensures.grown ∙ ap (λ e. v.history ++ e ∷ []) (c.open-2.ensures ∙ ap (λ k. opens k c.args.node c.args.durability) number) in
    let same = done s v c.args.node c.args.durability c.open.new.self levels c.push.new.self.events c.in_default-begin.ensures.ok more told in
    let enrols : EnrolsAt s.levels levels (suc (length s.clients)) c.args.node =
    subst (λ t. EnrolsAt (levels_of t) levels (suc (length s.clients)) c.args.node) c.begin.ensures.revokers
    (subst (λ k. EnrolsAt (levels_of c.begin.new.state.leases) levels k c.args.node) number c.in_default-enrol.ensures.ok) in
    let then = after_open s c.args.node c.args.durability levels in
    let event = is_event s c.args.node c.args.durability levels x.shape fine x.noted enrols in
    subst (Gives (λ w. Opening (observed s) c.args.node c.args.durability (opened (c.len.result + 1)) (observed w))) (sym same)
    (record {
      happens = subst (λ k. Opening (observed s) c.args.node c.args.durability (opened k) (observed then)) (sym number) event;
      holds = ∥∥₁_map x.holds
          (λ h. event_keeps (observed s) (observed then) (open_client c.args.node c.args.durability) (opened (suc (length s.clients))) h event);
      shape = keeps_shape s c.args.node c.args.durability levels x.shape fine;
      noted = open_noted s c.args.node c.args.durability levels x.noted enrols;
    })

pub returns-in-Some-clause-happens : goal.returns-in-Some-clause-happens
returns-in-Some-clause-happens g c = is_refused c.in-Some.refusal (sym c.open_refusal.ensures ∙ c.in-Some.is) refl refl

pub overflow_cast-client : goal.overflow_cast-client
overflow_cast-client g c =
    let few : length c.args.sound.now.state.clients < MOST_CLIENTS = fine_few (value_of c.args.sound.now.state) c.args.node
    (sym c.open_refusal.ensures ∙ c.in_default.is) in
    omega (arith, few, c.len.ensures)

pub overflow_add-client : goal.overflow_add-client
overflow_add-client g c =
    let few : length c.args.sound.now.state.clients < MOST_CLIENTS = fine_few (value_of c.args.sound.now.state) c.args.node
    (sym c.open_refusal.ensures ∙ c.in_default.is) in
    omega (arith, few, c.len.ensures)

pub enrol-requires : goal.enrol-requires
enrol-requires g c =
    let s = value_of c.args.sound.now.state in
    let number : c.len.result + 1 ≡ suc (length c.args.sound.now.state.clients) = omega (arith, c.len.ensures) in
    record {
      new =
          ap (λ t. (levels_of t).home (c.len.result + 1)) c.begin.ensures.revokers
          ∙ ap (λ k. s.levels.home k) number
          ∙ stranger s c.args.sound.now.invariant.holds;
    }

pub invariant_of-sound-in-Err-enrol : goal.invariant_of-sound-in-Err-enrol
invariant_of-sound-in-Err-enrol g c =
    let same = undone_now g c in
    record {
      invariant = record {
        holds = subst (λ u. ∥ MachineInvariant (observed u) ∥₁) (sym same) c.args.sound.now.invariant.holds;
        shape = subst ShapeInvariant (sym same) c.args.sound.now.invariant.shape;
        noted = subst CutsInvariant (sym same) c.args.sound.now.invariant.noted;
      };
    }

pub returns-in-Err-enrol-clause-happens : goal.returns-in-Err-enrol-clause-happens
returns-in-Err-enrol-clause-happens g c =
    lacks_memory (sym c.open_refusal.ensures ∙ c.in_default.is) (ap (λ b. refused b.0) c.in-Err-enrol.ensures.given_back)
    (ap observed (undone_now g c.before))

pub open-requires : goal.open-requires
open-requires g c =
    let few : length c.args.sound.now.state.clients < MOST_CLIENTS = fine_few (value_of c.args.sound.now.state) c.args.node
    (sym c.open_refusal.ensures ∙ c.in_default.is) in
    record { room = subst (λ cs. length cs < MOST_CLIENTS) (sym (ap (λ u. u.clients) c.in_default-begin.ensures.ok)) few }

pub invariant_of-sound-2 : goal.invariant_of-sound-2
invariant_of-sound-2 g c =
    let given = opened_now g c c.open.ensures in
    record { invariant = record { holds = given.holds; shape = given.shape; noted = given.noted } }

pub returns-clause-happens : goal.returns-clause-happens
returns-clause-happens g c = (opened_now g c.before c.open.ensures).happens
