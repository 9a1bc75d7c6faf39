use Rattle.assise_chain.proofs.Rows.{chain_differs}
use Rattle.assise_chain.proofs.ChainOrder.{head_first}
use Rattle.assise_chain.proofs.laws.each_full_node_stands_once.Goals as goal

pub returns-clause-once : goal.returns-clause-once
returns-clause-once c full head r = chain_differs full head r

pub returns-clause-first : goal.returns-clause-first
returns-clause-first c full head r a = head_first full head r a
