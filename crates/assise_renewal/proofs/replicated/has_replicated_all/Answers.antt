use Rattle.assise_renewal.proofs.Common.{◌≤◌, subst, leb-true}
use Rattle.assise_renewal.proofs.AllReplicated.{known_replicated}
use Rattle.assise_renewal.proofs.replicated.has_replicated_all.Goals as goal

pub returns-in-Ok-replicated_to : goal.returns-in-Ok-replicated_to
returns-in-Ok-replicated_to g c = λ yes.
    (let count = c.in-Ok-replicated_to.count in
    let few : c.next.result ≤ count = leb-true c.next.result count yes in
    known_replicated c.args.cluster.now c.args.client count c.in-Ok.known.now c.in-Ok.ensures.known c.in-Ok-replicated_to.ensures.replicated
    (subst (λ k. k ≤ count) c.next.ensures few))
