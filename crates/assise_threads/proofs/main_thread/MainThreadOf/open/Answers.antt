use Rattle.assise_threads.proofs.Common.{◌∙◌, refl, subst, sym, open_client, opened, refused, client_of, pass_of, last, machine_seen, Happened, InOneTake}
use Rattle.assise_threads.proofs.LedTakes.{turn_taken}
use Rattle.assise_threads.proofs.main_thread.MainThreadOf.open.Goals as goal

pub returns-in-Ok-clause-opens : goal.returns-in-Ok-clause-opens
returns-in-Ok-clause-opens g c =
    let old = c.args.self.now in
    let split = c.split_opener-pass in
    let it = c.in-Ok.libfs in
    let told = c.in-Ok.ensures in
    let same = c.split_opener.ensures.client in
    subst (λ k. InOneTake (Happened (open_client c.args.node c.args.durability) (opened k)) (machine_seen (last old.pass))
    (machine_seen (last c.split_opener.result))) (sym same)
    (turn_taken (open_client c.args.node c.args.durability) (opened (client_of it)) old.pass split.result (pass_of it) c.split_opener.result old.met old.known
    (split.ensures.right ∙ old.alone) split.ensures.last.1 split.ensures.as_seen.0 c.split_opener.ensures.last told.seen told.turn)

pub returns-in-Err-clause-refuses : goal.returns-in-Err-clause-refuses
returns-in-Err-clause-refuses g c =
    let old = c.args.self.now in
    let split = c.split_opener-pass in
    let told = c.in-Err.ensures in
    turn_taken (open_client c.args.node c.args.durability) (refused c.in-Err.refusal) old.pass split.result c.in-Err.pass c.in-Err.pass old.met old.known
    (split.ensures.right ∙ old.alone) split.ensures.last.1 split.ensures.as_seen.0 refl told.seen_back told.turn_back
