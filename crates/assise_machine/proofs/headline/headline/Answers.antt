use Rattle.assise_machine.proofs.Common.{◌<◌, ◌∙◌, subst, sym, ∥∥₁_map, clients_opened, observed, value_of, all_acked, history_of}
use Rattle.assise_machine.proofs.Decided.{legal_known}
use Rattle.assise_machine.proofs.Shared.Replicated.{alone_gives, count_known, first_at, first_length, one_is_up, run_known, synced_known, up_is_full}
use Rattle.assise_machine.proofs.headline.headline.Goals as goal

pub returns-clause-legal : goal.returns-clause-legal
unfolding observed
returns-clause-legal g c = legal_known (history_of c.args.cluster.now) (∥∥₁_map c.args.cluster.now.sound.invariant.holds (λ h. h.recorded.legal))

pub returns-clause-synced : goal.returns-clause-synced
returns-clause-synced g c =
    let sound = c.args.cluster.now.sound in
    λ d. synced_known (value_of sound.state) sound.invariant.shape sound.state.members.lawful.some_full sound.invariant.holds d

pub returns-clause-unseen : goal.returns-clause-unseen
returns-clause-unseen g c =
    let sound = c.args.cluster.now.sound in
    λ b past. run_known (value_of sound.state) sound.invariant.shape sound.state.members.lawful.some_full sound.invariant.holds b past

pub returns-clause-alone : goal.returns-clause-alone
returns-clause-alone g c =
    let cluster = c.args.cluster.now in
    let sound = cluster.sound in
    let s = value_of sound.state in
    let some = sound.state.members.lawful.some_full in
    let opened = count_known s sound.invariant.shape some sound.invariant.holds in
    λ n up. alone_gives s sound.invariant.shape some sound.invariant.holds (all_acked cluster)
    (first_length cluster (clients_opened s.history) ∙ opened)
    (λ d low. first_at cluster (clients_opened s.history) d (subst (λ k. d < k) (sym opened) low))
    n (up_is_full cluster n up)

pub returns-clause-some_up : goal.returns-clause-some_up
returns-clause-some_up g c = one_is_up c.args.cluster.now
