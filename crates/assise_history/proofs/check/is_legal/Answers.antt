use Rattle.assise_history.proofs.Common.{◌≡◌, ◌∙◌, ap, sym, take, true, false, subst, opening, kept, kept_more, IsRun, summary, follows, summary_after, Goes}
use Rattle.assise_history.proofs.Common.{played_calls}
use Rattle.assise_history.proofs.Shared.Legality.{legal-nil}
use Rattle.assise_history.proofs.CheckLoop.{not_allowed, no_run, checked_more, kept_at, summary_at}
use Rattle.assise_history.proofs.check.is_legal.Goals as goal

pub loop-entry-init : goal.loop-entry-init
loop-entry-init c = record { legal = legal-nil; known = c.new-prefix.ensures; kept_is = c.new-played.ensures.calls; played_is = c.new-played.ensures.played }

pub returns-then-not-allows-clause-decided : goal.returns-then-not-allows-clause-decided
returns-then-not-allows-clause-decided c =
    let es = c.args.entries.now in
    let i = c.loop-entry.entry-index in
    let e = c.entry-item.result in
    let barred : follows (summary (take i es)) e ≡ false = ap (λ s. follows s e) (sym c.loop-entry.invariant.known) ∙ sym c.allows.ensures
    ∙ c.if-not-allows.true in
    ((λ h. cc), λ legal. absurd (not_allowed es i e c.loop-entry-test.true c.entry-item.is barred legal))

pub returns-then-not-branch-clause-decided : goal.returns-then-not-branch-clause-decided
returns-then-not-branch-clause-decided c =
    let es = c.args.entries.now in
    let i = c.loop-entry.entry-index in
    let e = c.entry-item.result in
    let goes : Goes false (kept_more (played_calls c.loop-entry.played) e) c.take.new.self =
    subst (λ b. Goes b (kept_more (played_calls c.loop-entry.played) e) c.take.new.self) c.if-not-branch.true c.in_ok-take.ensures.ok in
    ((λ h. cc), λ legal. absurd (no_run es i e c.loop-entry-test.true c.entry-item.is (λ run. goes (rw c.loop-entry.invariant.kept_is run)) legal))

pub loop-entry-preserved : goal.loop-entry-preserved
loop-entry-preserved c =
    let es = c.args.entries.now in
    let i = c.loop-entry.entry-index in
    let e = c.entry-item.result in
    let h = c.loop-entry-test.true in
    let goes : Goes true (kept_more (played_calls c.loop-entry.played) e) c.take.new.self =
    subst (λ b. Goes b (kept_more (played_calls c.loop-entry.played) e) c.take.new.self) c.if-not-branch.false c.in_ok-take.ensures.ok in
    let rule : follows (summary (take i es)) e ≡ true = ap (λ s. follows s e) (sym c.loop-entry.invariant.known) ∙ sym c.allows.ensures
    ∙ c.if-not-allows.false in
    let kept_is : played_calls c.take.new.self ≡ kept_more (kept (take i es)) e = goes.0 ∙ ap (λ cs. kept_more cs e) c.loop-entry.invariant.kept_is in
    record {
      legal = checked_more es i e h c.entry-item.is c.loop-entry.invariant.legal rule (subst (IsRun opening) kept_is goes.1.0);
      known = c.in_ok-note.ensures ∙ ap (λ s. summary_after s e) c.loop-entry.invariant.known ∙ sym (summary_at es i e h c.entry-item.is);
      kept_is = kept_is ∙ sym (kept_at es i e h c.entry-item.is);
      played_is = goes.1;
    }
