use Rattle.assise_threads.proofs.Common.{rules, ◌≡◌, ◌<◌, ap, refl, subst, calls_made, open_client, opened, refused, MOST_NODES, Client, client_of}
use Rattle.assise_threads.proofs.Common.{EndsWithOpening, is_nowhere, is_opened, is_refused, lacks_revoker, LacksRevoker, Happened, InOneTake, main_seen}
use Rattle.assise_libfs.specs.Opening.{MayRefuseOpen}
use Rattle.assise_threads.proofs.crew.Crew.open.Goals as goal

pub returns-in_default-clause-opens : goal.returns-in_default-clause-opens
returns-in_default-clause-opens g c = let far : MOST_NODES < c.args.node = search rules in is_nowhere refl far refl

pub returns-in_default-take-clause-opens : goal.returns-in_default-take-clause-opens
returns-in_default-take-clause-opens g c =
    let same : c.in-Ok.node ≡ c.args.node = search rules in
    lacks_revoker c.refuse_open.result refl
    (subst (λ n. InOneTake (LacksRevoker n c.refuse_open.result) (main_seen c.args.self.now.main) (main_seen c.refuse_open.new.self)) same
    c.refuse_open.ensures.lacks)

pub returns-in-Ok-open-clause-opens : goal.returns-in-Ok-open-clause-opens
returns-in-Ok-open-clause-opens g c =
    let it = c.in-Ok-open.libfs in
    let told = c.in-Ok-open.ensures in
    let same : c.in-Ok.node ≡ c.args.node = search rules in
    is_opened (client_of it) (ap Client c.client-client.ensures)
    (subst (λ n. InOneTake (Happened (open_client n c.args.durability) (opened (client_of it))) (main_seen c.args.self.now.main) (main_seen c.open.new.self))
    same told.opens)
    (subst (λ n. EndsWithOpening (client_of it) n c.args.durability (main_seen c.args.self.now.main).history (main_seen c.open.new.self).history) same
    told.last)
    (subst (λ h. calls_made (client_of it) h ≡ 0) told.seen told.no_calls)

pub returns-in-Err-clause-opens : goal.returns-in-Err-clause-opens
returns-in-Err-clause-opens g c =
    let same : c.in-Ok.node ≡ c.args.node = search rules in
    is_refused c.in-Err.refusal refl
    (subst (λ n. InOneTake (Happened (open_client n c.args.durability) (refused c.in-Err.refusal)) (main_seen c.args.self.now.main) (main_seen c.open.new.self))
    same c.in-Err.ensures.refuses)
    (subst (λ n. MayRefuseOpen n (main_seen c.open.new.self).history c.in-Err.refusal) same c.in-Err.ensures.refused)

pub returns-in-Ok-open-clause-kept : goal.returns-in-Ok-open-clause-kept
returns-in-Ok-open-clause-kept g c = λ other. absurd (other c.client-client.result refl)
