use Rattle.assise_names.proofs.Spellings.{complete}
use Rattle.assise_names.proofs.path.Path.parse.Goals as goal

pub returns-clause-complete : goal.returns-clause-complete
returns-clause-complete c = complete c.args.text.now c.path_of.result c.path_of.ensures.first_fault
