use Rattle.assise_chain.proofs.Common.{[], ◌∷◌, ap, ◌∙◌, subst, behind, chain, AllDiffer}
use Rattle.assise_chain.proofs.Rows.{chain_differs}
use Rattle.assise_chain.proofs.ChainOrder.{behind_other, behind_place}
use Rattle.assise_chain.proofs.laws.each_node_passes_to_the_next.Goals as goal

pub returns-clause-next : goal.returns-clause-next
returns-clause-next c full prefix rest head n next r is =
    ap (behind n) is ∙ behind_place prefix (next ∷ rest) n (subst AllDiffer is (chain_differs full head r))

pub returns-clause-last : goal.returns-clause-last
returns-clause-last c full prefix head n r is =
    ap (behind n) is ∙ behind_place prefix [] n (subst AllDiffer is (chain_differs full head r))

pub returns-clause-other : goal.returns-clause-other
returns-clause-other c full head n r = behind_other (chain full head) n (chain_differs full head r)
