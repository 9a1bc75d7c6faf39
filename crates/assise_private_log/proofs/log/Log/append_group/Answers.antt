use Rattle.assise_private_log.proofs.Common.{◌≡◌, ◌==◌, ◌++◌, ◌∙◌, Result, Err, IsOk, length, ap, sym, subst, true≢false, arith, end}
use Rattle.assise_private_log.proofs.Shared.LogGroups.{HasRest, all_passed, first_begins, group_more, group_open, has_rest, one_passed}
use Rattle.assise_private_log.proofs.log.Log.append_group.Goals as goal
use Rattle.assise_private_log.proofs.log.Log.append_group.Goals.{In-Some, After-end}

refused_not_ok : {T E : Type 0} (r : Result T E) (e : E) → r ≡ Err e → IsOk r → ⊥
refused_not_ok r e is ok = true≢false (sym (subst IsOk is ok))

-- what the log and the rest of the group have
rest : (c : In-Some) → HasRest c.args.self.now c.loop-record.self c.loop-record.yielded c.args.group
rest c =
    has_rest c.args.self.now c.loop-record.self c.loop-record.yielded _ c.args.group c.in-Some.record c.loop-record.invariant.log
    (ap (λ xs. c.loop-record.yielded ++ xs) (sym c.in-Some.ensures.steps.0) ∙ c.loop-record.invariant.items)

-- the first record begins the group
begins : (c : After-end) → (c.end.result == c.end-first.result) ≡ (length c.loop-record.yielded == 0)
begins c = grind (arith, first_begins)

pub append_grouped-requires-clause-number_fits : goal.append_grouped-requires-clause-number_fits
append_grouped-requires-clause-number_fits c = grind (arith, rest)

pub append_grouped-requires-clause-open_group : goal.append_grouped-requires-clause-open_group
append_grouped-requires-clause-open_group c =
    let has = rest (goal.at.append_grouped-requires-clause-open_group c).In-Some in
    group_open c.args.self.now c.loop-record.self c.loop-record.yielded _ c.end-first.ensures.lawful.marks c.loop-record.invariant.log
    (begins (goal.at.append_grouped-requires-clause-open_group c).After-end) (omega (arith, has.few, c.group.invariant, ap length c.group.view_is))

pub unreachable-requires : goal.unreachable-requires
unreachable-requires c = grind (arith, rest, refused_not_ok)

pub loop-record-preserved : goal.loop-record-preserved
loop-record-preserved c = grind (arith, group_more, begins, one_passed)

pub returns : goal.returns
returns c = grind (arith, all_passed, rest)
