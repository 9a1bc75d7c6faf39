use Rattle.assise_lease_table.proofs.Common.{not, rules}
use Rattle.assise_lease_table.proofs.Lists.{passed}
use Rattle.assise_lease_table.proofs.holders.take_out.Goals as goal

pub returns-clause-items : goal.returns-clause-items
returns-clause-items g c = passed _ (λ l. not (g.T.Chooses.choice c.args.test.now l)) _ (λ x b f' y h. search rules) _ _ c.retain.ensures.filtered
