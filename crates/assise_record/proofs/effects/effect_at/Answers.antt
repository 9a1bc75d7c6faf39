use Rattle.assise_record.proofs.Common.{sym, subst, arith, Exactly, effect_of}
use Rattle.assise_record.proofs.Rests.{effect_is, ends_behind, rest_behind}
use Rattle.assise_record.proofs.effects.effect_at.Goals as goal

pub returns-clause-rest : goal.returns-clause-rest
returns-clause-rest c =
    let is = effect_is c.args.bytes.now c.in_ok-tag.rest.now c.in_ok-tag.tag c.in_ok-tag.ensures in
    rest_behind (λ s. s.now) c.args.bytes.now (λ i. omega (arith, c.type_inv.bytes i)) c.fields_at.result
    (subst (Exactly (λ x. (effect_of x.0, x.1.now)) c.fields_at.result) (sym is) c.fields_at.ensures.read)

pub returns-clause-ends : goal.returns-clause-ends
returns-clause-ends c =
    let is = effect_is c.args.bytes.now c.in_ok-tag.rest.now c.in_ok-tag.tag c.in_ok-tag.ensures in
    ends_behind (λ s. s.now) c.args.bytes.now (λ i. omega (arith, c.type_inv.bytes i)) c.fields_at.result
    (subst (Exactly (λ x. (effect_of x.0, x.1.now)) c.fields_at.result) (sym is) c.fields_at.ensures.read)
