use Rattle.assise_machine_calls.proofs.Common.{◌<◌, ◌∙◌, arith, ap, sym, IsNumber, value_of}
use Rattle.assise_machine_calls.proofs.ClientFaults.{down_fault, gone_fault, no_fault, past_fault, zero_fault}
use Rattle.assise_machine_calls.proofs.faults.client_refusal.Goals as goal
use Rattle.assise_machine_calls.proofs.faults.client_refusal.Goals.{then-client-eq0-via-then-client-eq0, then-client-eq0-via-else-client-eq0+then-client-len}

pub returns-then-client-eq0 : goal.returns-then-client-eq0
returns-then-client-eq0 g c =
    let s = value_of c.args.state.now in
    elim c.then-client-eq0.branch [
      | then-client-eq0-via-then-client-eq0 w ↦ sym (zero_fault s c.args.client w.if-client-eq0.true)
      | then-client-eq0-via-else-client-eq0+then-client-len w ↦ sym (past_fault s c.args.client (omega (arith, w.len.ensures, w.if-client-len.true)))
    ]

pub returns-then-has_crashed : goal.returns-then-has_crashed
returns-then-has_crashed g c =
    let s = value_of c.args.state.now in
    let some : 0 < c.args.client = omega (arith, c.if-client-eq0.false) in
    let there : IsNumber s.clients c.args.client = record { some = some; there = rw (← c.len.ensures) c.if-client-len.false } in
    sym (gone_fault s c.args.client there (ap (λ x. x.crashed) (sym c.get-known.ensures) ∙ sym c.if-has_crashed.ensures))

pub returns-then-has_failed : goal.returns-then-has_failed
returns-then-has_failed g c =
    let s = value_of c.args.state.now in
    let some : 0 < c.args.client = omega (arith, c.if-client-eq0.false) in
    let there : IsNumber s.clients c.args.client = record { some = some; there = rw (← c.len.ensures) c.if-client-len.false } in
    sym (down_fault s c.args.client there (ap (λ x. x.crashed) (sym c.get-known.ensures) ∙ sym c.if-has_crashed.ensures)
    (ap (λ x. x.failed) (sym c.get-known.ensures) ∙ sym c.if-has_failed.ensures))

pub returns-else-has_failed : goal.returns-else-has_failed
returns-else-has_failed g c =
    let s = value_of c.args.state.now in
    let some : 0 < c.args.client = omega (arith, c.if-client-eq0.false) in
    let there : IsNumber s.clients c.args.client = record { some = some; there = rw (← c.len.ensures) c.if-client-len.false } in
    sym (no_fault s c.args.client there (ap (λ x. x.crashed) (sym c.get-known.ensures) ∙ sym c.if-has_crashed.ensures)
    (ap (λ x. x.failed) (sym c.get-known.ensures) ∙ sym c.if-has_failed.ensures))
