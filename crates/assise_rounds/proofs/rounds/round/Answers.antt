use Rattle.assise_rounds.proofs.Common.{⊤, refl, rules, ◌≤◌, length, arith, MOST_NODES, machine}
use Rattle.assise_rounds.proofs.Faithful.{round_with}
use Rattle.assise_rounds.proofs.Shared.NodeLinks.{all_faithful}
use Rattle.assise_rounds.proofs.rounds.round.Goals as goal

pub returns : goal.returns
returns g c =
    let most : MOST_NODES ≤ length c.from_fn-links.result = search rules in
    round_with (λ n. ⊤) _ (λ n some few is. all_faithful _ (λ l. refl) c.from_fn-links.result n some (omega (arith, few, most))) c.round_over.result
    (machine c.args.cluster.now) (machine c.round_over.new.cluster) c.round_over.ensures.rounds
