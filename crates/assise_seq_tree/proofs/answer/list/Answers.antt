use Rattle.assise_seq_tree.proofs.Common.{ap, sym, ◌∙◌, Names}
use Rattle.assise_seq_tree.proofs.Entries.{names_of-entries_of}
use Rattle.assise_seq_tree.proofs.answer.list.Goals as goal

pub returns-in_ok-of_keys-in-Ok-clause-ok : goal.returns-in_ok-of_keys-in-Ok-clause-ok
returns-in_ok-of_keys-in-Ok-clause-ok c =
    rw c.in-Ok.ensures (ap (λ names. (Names names, c.args.tree.now))
    (c.in_ok-of_keys-in-Ok.ensures.keys ∙ sym (names_of-entries_of c.in-Ok.entries.now.entries)))
