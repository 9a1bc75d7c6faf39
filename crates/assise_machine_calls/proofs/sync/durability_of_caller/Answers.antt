use Rattle.assise_machine_calls.proofs.Common.{ap, sym, ◌∙◌, value_of}
use Rattle.assise_machine_calls.proofs.SyncChanges.{durability_known, fine_number}
use Rattle.assise_machine_calls.proofs.sync.durability_of_caller.Goals as goal

pub get-requires : goal.get-requires
get-requires g c = record { client = fine_number (value_of c.args.sound.now.state) c.args.client (sym c.client_refusal.ensures ∙ c.in-None.is) }

pub returns-in-None-clause-ok : goal.returns-in-None-clause-ok
returns-in-None-clause-ok g c =
    durability_known (value_of c.args.sound.now.state) c.args.client c.durability.result c.args.sound.now.invariant.shape
    (sym c.client_refusal.ensures ∙ c.in-None.is) (c.durability.ensures ∙ ap (λ y. y.durability) c.get.ensures)
