use Rattle.assise_machine_calls.proofs.Common.{ap, ◌∙◌, contains, membership, listed_is}
use Rattle.assise_machine_calls.proofs.release.is_full.Goals as goal

pub returns : goal.returns
returns c = c.contains.ensures.value ∙ ap (λ ns. contains ns c.args.node) c.full_nodes.ensures ∙ listed_is (membership c.args.members.now).nodes c.args.node
