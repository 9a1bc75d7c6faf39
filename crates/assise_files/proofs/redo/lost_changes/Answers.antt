use Rattle.assise_files.proofs.Common.{rules, ◌≡◌, ◌++◌, ◌∷◌, [], ◌∙◌, ap, sym, true, append_assoc, is_call_to}
use Rattle.assise_files.proofs.LostWalk.{walk_ends}
use Rattle.assise_files.proofs.redo.lost_changes.Goals as goal

pub returns-then-is_call_to-clause-found : goal.returns-then-is_call_to-clause-found
returns-then-is_call_to-clause-found c =
    let e = c.in-Some.entry.now in
    let before = c.in-Some.before.now in
    let later = c.loop-entry.invariant.0 in
    let split : c.loop-entry.rest.now ≡ before ++ e ∷ [] = search rules in
    let whole : before ++ e ∷ later ≡ c.args.entries.now = sym (append_assoc before (e ∷ []) later) ∙ ap (λ xs. xs ++ later) (sym split)
    ∙ c.loop-entry.invariant.1 in
    let reached : is_call_to c.args.client c.args.first e ≡ true = search rules in
    walk_ends c.args.client c.args.first c.args.entries.now before later e c.note.new.self c.requires whole reached
    (c.in_ok-note.ensures.noted later c.loop-entry.invariant.2)
