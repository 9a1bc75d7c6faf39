use Rattle.assise_record.proofs.Common.{◌≡◌, ◌∙◌, ap, ap₂, sym, subst, arith, ℕ, ◌-◌, List, length, drop, Result, Ok, IsRest, effect_at, EndsAt, Effect}
use Rattle.assise_record.proofs.Common.{FrameFault}
use Rattle.assise_record.proofs.effects.own_effect_at.Goals as goal

abbrev read_so : Effect → List ℕ → Result (Effect × List ℕ) FrameFault
read_so effect rest = Ok (effect, rest)

pub overflow_sub-used : goal.overflow_sub-used
overflow_sub-used c = omega (arith, c.in_ok-view.ensures.rest.within, ap length c.as_slice.ensures, c.len.ensures.value)

pub to_effect-requires-clause-inside : goal.to_effect-requires-clause-inside
to_effect-requires-clause-inside c =
    let there = subst (λ bytes. EndsAt c.in_ok-view.view bytes (length bytes - length c.in_ok-view.rest.now)) c.as_slice.ensures c.in_ok-view.ensures.ends in
    subst (λ n. EndsAt c.in_ok-view.view c.args.bytes.now (n - length c.in_ok-view.rest.now)) (sym c.len.ensures.value) there

pub returns : goal.returns
returns c =
    let bytes = c.args.bytes.now in
    let rest = c.in_ok-view.rest.now in
    let read : effect_at bytes ≡ _ = ap (λ b. effect_at b) (sym c.as_slice.ensures) ∙ c.in_ok-view.ensures.read in
    let is : IsRest bytes rest = subst (λ b. IsRest b rest) c.as_slice.ensures c.in_ok-view.ensures.rest in
    let left : c.advance.new.self ≡ rest = c.advance.ensures ∙ ap (λ n. drop (n - length rest) bytes) c.len.ensures.value ∙ is.end in
    read ∙ ap₂ read_so (sym c.in_ok-effect.ensures.equal) (sym left)
