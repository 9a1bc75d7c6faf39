use Rattle.assise_chain.proofs.Common.{chain}
use Rattle.assise_chain.proofs.Rows.{in_chain, of_chain}
use Rattle.assise_chain.proofs.ChainOrder.{nobody_behind}
use Rattle.assise_chain.proofs.laws.the_full_nodes_stand_in_the_chain.Goals as goal

pub returns-clause-full : goal.returns-clause-full
returns-clause-full c full head n = (of_chain full head n, in_chain full head n)

pub returns-clause-others : goal.returns-clause-others
returns-clause-others c full head n out = nobody_behind (chain full head) n (λ a. out (of_chain full head n a))
