use Rattle.assise_libfs.proofs.Common.{◌∙◌, ap, subst, Ok, of_calls, MayRefuse, client_of, node_of, seen_by, IsOpenedOn}
use Rattle.assise_libfs.proofs.Refused.{refused-opened}
use Rattle.assise_libfs.proofs.Shared.Same.{same-then}
use Rattle.assise_libfs.proofs.Shared.Tries.{others_then_try}
use Rattle.assise_libfs.proofs.TurnsAdd.{answered_by, refused_by, waits_on}
use Rattle.assise_libfs.proofs.libfs.LibFs.call_meanwhile.Goals as goal

pub returns-in-Ok-Some-clause-same : goal.returns-in-Ok-Some-clause-same
returns-in-Ok-Some-clause-same g c = same-then _ _ _ c.loop-turn.invariant.same c.turn.ensures.same

pub returns-in-Err-clause-same : goal.returns-in-Err-clause-same
returns-in-Err-clause-same g c = same-then _ _ _ c.loop-turn.invariant.same c.turn.ensures.same

pub returns-clause-same : goal.returns-clause-same
returns-clause-same g c = c.loop-turn.invariant.same

pub returns-in-Ok-Some-clause-sees : goal.returns-in-Ok-Some-clause-sees
returns-in-Ok-Some-clause-sees g c = let inv = c.loop-turn.invariant in
    rw (c.in-Ok-Some.is, c.in-Ok-Some.field-0-is) at (others_then_try _ _ c.args.op.now _ _ c.turn.result _ inv.same.client inv.others c.turn.ensures.sees)

pub returns-in-Err-clause-sees : goal.returns-in-Err-clause-sees
returns-in-Err-clause-sees g c = let inv = c.loop-turn.invariant in
    rw c.in-Err.is at (others_then_try _ _ c.args.op.now _ _ c.turn.result _ inv.same.client inv.others c.turn.ensures.sees)

pub returns-in-Err-clause-refused : goal.returns-in-Err-clause-refused
returns-in-Err-clause-refused g c =
    let now = c.turn.new.self in
    let opened = subst (λ z. ∥ IsOpenedOn (seen_by now) z (node_of now) ∥₁) c.turn.ensures.same.client now.opened in
    let refused = refused-opened _ (node_of now) c.args.op.now (seen_by now) c.in-Err.refusal opened c.in-Err.ensures.refused in
    subst (λ z. MayRefuse z c.args.op.now (seen_by now) c.in-Err.refusal) c.loop-turn.invariant.same.client refused

pub loop-turn-preserved : goal.loop-turn-preserved
loop-turn-preserved g c = let inv = c.loop-turn.invariant in
    let t = others_then_try _ _ c.args.op.now _ _ c.turn.result _ inv.same.client inv.others c.turn.ensures.sees in
    record {
      callable = search of_calls;
      same = same-then _ _ _ inv.same c.turn.ensures.same;
      others = rw (c.in-Ok-None.is, c.in-Ok-None.field-0-is) at t;
      waited = waits_on _ _ (client_of c.args.self.now) c.args.op.now (client_of c.loop-turn.self) c.loop-turn.turn (seen_by c.args.self.now)
          (seen_by c.loop-turn.self) (seen_by c.turn.new.self) c.turn.result inv.same.client (c.in-Ok-None.is ∙ ap Ok c.in-Ok-None.field-0-is) inv.waited
          c.turn.ensures.turn;
    }

pub returns-in-Ok-Some-clause-turns : goal.returns-in-Ok-Some-clause-turns
returns-in-Ok-Some-clause-turns g c = let inv = c.loop-turn.invariant in
    answered_by _ _ (client_of c.args.self.now) c.args.op.now (client_of c.loop-turn.self) c.loop-turn.turn _ (seen_by c.args.self.now)
    (seen_by c.loop-turn.self) (seen_by c.turn.new.self) c.turn.result _ inv.same.client (c.in-Ok-Some.is ∙ ap Ok c.in-Ok-Some.field-0-is)
    c.loop-turn-test.true inv.waited c.turn.ensures.turn

pub returns-in-Err-clause-turns : goal.returns-in-Err-clause-turns
returns-in-Err-clause-turns g c = let inv = c.loop-turn.invariant in
    refused_by _ _ (client_of c.args.self.now) c.args.op.now (client_of c.loop-turn.self) c.loop-turn.turn _ (seen_by c.args.self.now)
    (seen_by c.loop-turn.self) (seen_by c.turn.new.self) c.turn.result c.in-Err.refusal inv.same.client c.in-Err.is c.loop-turn-test.true inv.waited
    c.turn.ensures.turn c.in-Err.ensures.refused
