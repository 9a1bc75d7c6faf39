use Rattle.assise_files.proofs.AlwaysLegal.{found_so}
use Rattle.assise_files.proofs.files.Files.is_legal.Goals as goal

pub returns-clause-legal : goal.returns-clause-legal
returns-clause-legal c = found_so c.check.result _ c.check.ensures.decided c.history.ensures.legal
