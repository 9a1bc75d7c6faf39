use Rattle.assise_workers.proofs.Common.{◌≤◌, [], ◌∷◌, subst, letter_of, seen_at}
use Rattle.assise_workers.proofs.Deliveries.{none_carried, one_carried}
use Rattle.assise_workers.proofs.worker.Worker.send.Goals as goal

pub returns-then-not-pass-clause-turn : goal.returns-then-not-pass-clause-turn
returns-then-not-pass-clause-turn g c =
    λ reads is. (0, none_carried g.S.Growing.history g.S.Replicated.acts _ reads (letter_of c.args.letter ∷ []) (seen_at c.args.self.now))

pub returns-in_default-clause-turn : goal.returns-in_default-clause-turn
returns-in_default-clause-turn g c =
    λ reads is. none_carried g.S.Growing.history g.S.Replicated.acts _ reads (letter_of c.args.letter ∷ []) (seen_at c.args.self.now)

pub returns-then-not-pass-2-clause-turn : goal.returns-then-not-pass-2-clause-turn
returns-then-not-pass-2-clause-turn g c =
    λ reads is. (0, none_carried g.S.Growing.history g.S.Replicated.acts _ reads (letter_of c.args.letter ∷ []) (seen_at c.args.self.now))

pub returns-clause-turn : goal.returns-clause-turn
returns-clause-turn g c = λ reads is.
    let turn = c.bring_in.ensures.turn in
    let came = c.in-Some.ensures in
    let read : c.in-Some.came.version ≤ reads c.args.letter.next = subst (λ newest. c.in-Some.came.version ≤ newest) is came.came.begins.prefix.version in
    one_carried g.S.Growing.history g.S.Replicated.acts _ reads c.args.letter.frame c.in-Some.came c.args.letter.next c.bring_in.result turn.0 _ _ came.same
    read turn.1.1 turn.1.0
