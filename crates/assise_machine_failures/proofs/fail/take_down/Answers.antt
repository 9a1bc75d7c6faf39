use Rattle.assise_machine_failures.proofs.Common.{◌<◌, ◌++◌, ◌∷◌, [], length, ap, sym, subst, ◌∙◌, arith, fails, levels_of, failed, membership}
use Rattle.assise_machine_failures.proofs.Common.{with_clients_cut, HasLog, IsUndigestedFrom, log_in, IsNumber, value_of, home_number, kept_in}
use Rattle.std.specs.FinSet as set
use Rattle.assise_machine_failures.proofs.KeptPlaces.{kept_count}
use Rattle.assise_machine_failures.proofs.Shared.TakenDown.{few_clients, is_after, number, sound_so, undigested}
use Rattle.assise_machine_failures.proofs.TakenIn.{epoch_fits}
use Rattle.assise_machine_failures.proofs.fail.take_down.Goals as goal

pub fail-requires : goal.fail-requires
fail-requires g c =
    let s = value_of c.args.state.now in
    let few : length s.history < 9223372036854775808 = subst (λ h. length h < 9223372036854775808) c.reserve.ensures.same c.reserve.ensures.few in
    record { epoch_fits = epoch_fits s c.requires.holds few }

pub remove_logs-requires : goal.remove_logs-requires
remove_logs-requires g c = record
    { node = number (value_of c.args.state.now) c.args.node c.requires.shape c.requires.full (sound_so (value_of c.args.state.now) c.requires.holds) }

pub overflow_cast-last : goal.overflow_cast-last
overflow_cast-last g c = (let few = few_clients (value_of c.args.state.now) c.requires.holds in omega (arith, few, c.len-last.ensures))

pub cut_to-requires-clause-kept : goal.cut_to-requires-clause-kept
cut_to-requires-clause-kept g c = ap length (c.deref-2.ensures.value ∙ c.requires.listed.kept) ∙ kept_count _ c.args.node (length c.args.state.now.clients)

pub cut_to-requires-clause-undigested : goal.cut_to-requires-clause-undigested
cut_to-requires-clause-undigested g c k d home has =
    let s = value_of c.args.state.now in
    let sound = sound_so s c.requires.holds in
    let there = number s c.args.node c.requires.shape c.requires.full sound in
    let client : IsNumber s.clients d = home_number s.clients d (subst (λ h. 0 < h) (sym home) there.some) in
    subst (λ rs. HasLog rs k d → IsUndigestedFrom (log_in rs k d) (kept_in c.deref-2.result.now d)) (sym c.remove_logs.ensures)
    (undigested s c.args.node c.requires.shape c.requires.full sound c.deref-2.result.now (c.deref-2.ensures.value ∙ c.requires.listed.kept) k d client home)
    has

pub returns-clause-down : goal.returns-clause-down
returns-clause-down g c =
    let s = value_of c.args.state.now in
    is_after s c.args.node (set.from_list c.args.failure.inodes.items) (levels_of c.revoke_below.new.self) c.args.failure.asked.items c.deref-2.result.now
    c.len-last.result c.cut_to.new.nodes (membership c.fail.new.self) c.cut_to.new.clients
    c.note_all.new.cuts.items c.push.new.self.events (c.deref-2.ensures.value ∙ c.requires.listed.kept) c.len-last.ensures
    (c.cut_to.ensures.nodes ∙ ap (with_clients_cut c.args.node s.clients (kept_in c.deref-2.result.now) c.len-last.result) c.remove_logs.ensures)
    (c.in_ok-fail.ensures.ok ∙ ap (λ is. failed s.members c.args.node (set.from_list is)) c.deref.ensures.value) c.cut_to.ensures.clients
    (c.note_all.ensures ∙ (λ i. c.reserve-2.ensures.items i ++ c.into_iter.ensures.rest i))
    (c.push.ensures.grown ∙ (λ i. c.reserve.ensures.same i ++ c.fail-2.ensures i ∷ []) ∙ ap (λ ls. s.history ++ fails c.args.node ls ∷ [])
    c.requires.listed.entry)
