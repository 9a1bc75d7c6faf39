use Rattle.assise_history.proofs.Common.{◌≡◌, ◌∙◌, ap, sym, take, ◌+◌, ◌++◌, ◌∷◌, [], take_more, kept, kept_more}
use Rattle.assise_history.proofs.Shared.Runs.{kept-push}
use Rattle.assise_history.proofs.kept.kept_of.Goals as goal

pub loop-entry-preserved : goal.loop-entry-preserved
loop-entry-preserved c =
    let es = c.args.entries.now in
    let i = c.loop-entry.entry-index in
    let e = c.entry-item.result in
    let more : take (i + 1) es ≡ take i es ++ e ∷ [] = take_more es i e c.loop-entry-test.true ∙ ap (λ x. take i es ++ x ∷ []) (sym c.entry-item.is) in
    c.in_ok-keep.ensures.ok ∙ ap (λ cs. kept_more cs e) c.loop-entry.invariant ∙ sym (kept-push (take i es) e) ∙ ap kept (sym more)
