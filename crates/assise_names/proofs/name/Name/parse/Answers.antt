use Rattle.assise_names.proofs.Common.{is_utf8-from_IsUtf8}
use Rattle.assise_names.proofs.Spellings.{lawful_name}
use Rattle.assise_names.proofs.name.Name.parse.Goals as goal

pub invariant_of-result : goal.invariant_of-result
invariant_of-result c = rw c.in_ok-text.ensures.ok (lawful_name c.args.text.now (is_utf8-from_IsUtf8 _ c.utf8.text) c.in_ok-check.ensures)

pub returns-clause-lawful : goal.returns-clause-lawful
returns-clause-lawful c = rw c.in_ok-text.ensures.ok (lawful_name c.args.text.now (is_utf8-from_IsUtf8 _ c.utf8.text) c.in_ok-check.ensures)
