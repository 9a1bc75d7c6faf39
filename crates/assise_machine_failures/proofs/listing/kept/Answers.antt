use Rattle.assise_machine_failures.proofs.Common.{◌≡◌, ℕ, ◌+◌, ◌∙◌, min, take, get_or, ap, sym, end, membership, least_of, client_in, log_in, own_node}
use Rattle.assise_machine_failures.proofs.Common.{value_of, all_taken, next_log}
use Rattle.assise_machine_failures.proofs.KeptPlaces.{kept_other, kept_least, kept_over, next_itself, next_other, others}
use Rattle.assise_machine_failures.proofs.listing.kept.Goals as goal
use Rattle.assise_machine_failures.proofs.listing.kept.Goals.{then-has_failed-via-then-has_failed, then-has_failed-via-else-has_failed+then-home-node}
use Rattle.assise_machine_failures.proofs.listing.kept.Goals.{then-other-node, else-other-node}

pub returns-then-has_failed : goal.returns-then-has_failed
returns-then-has_failed g c =
    let s = value_of c.args.state.now in
    let own = c.end-least.ensures.end ∙ ap end c.own_log.ensures.log in
    let some = c.args.state.now.members.lawful.some_full in
    elim c.then-has_failed.branch [
      | then-has_failed-via-then-has_failed w ↦ own ∙ kept_over s c.args.node c.args.client c.requires.shape c.requires.client some
          (ap (λ x. x.failed) (sym c.get-known.ensures) ∙ sym c.has_failed.ensures ∙ w.if-has_failed.true)
      | then-has_failed-via-else-has_failed+then-home-node w ↦ own ∙ kept_other s c.args.node c.args.client c.requires.shape c.requires.client some
          (λ is. w.if-home-node.true (w.home.ensures ∙ ap (λ x. x.home) c.get-known.ensures ∙ is))
    ]

pub log-requires : goal.log-requires
log-requires g c = record {
  there =
      next_log (value_of c.args.state.now) c.args.client c.loop-other.other-index c.full_nodes-other-items.result.now c.requires.shape c.requires.client
      c.full_nodes-other-items.ensures c.loop-other-test.true;
}

pub loop-other-preserved : goal.loop-other-preserved
loop-other-preserved g c =
    let s = value_of c.args.state.now in
    let nodes = (membership c.args.state.now.members).nodes in
    let n = c.args.node in
    let i = c.loop-other.other-index in
    let ns = c.full_nodes-other-items.result.now in
    let node = get_or ns i 0 in
    let f : ℕ → ℕ = λ m. end (log_in s.nodes m c.args.client).log in
    let d : ℕ = end (log_in s.nodes (own_node nodes (client_in s.clients c.args.client)) c.args.client).log in
    let before : c.loop-other.least ≡ least_of (others n (take i ns)) f d = c.loop-other.invariant ∙ ap (λ ms. least_of (others n (take i ms)) f d)
    (sym c.full_nodes-other-items.ensures) in
    let listed = ap (λ ms. least_of (others n (take (i + 1) ms)) f d) c.full_nodes-other-items.ensures in
    elim c.if-other-node.branch [
      | then-other-node w ↦
          let received : w.end-received.result ≡ f node = w.end-received.ensures.end ∙ ap end w.log.ensures.log in
          w.least-is ∙ w.min-least.ensures ∙ (λ j. min (before j) (received j)) ∙ sym (next_other n ns i f d c.loop-other-test.true w.if-other-node.true)
          ∙ listed
      | else-other-node w ↦ w.least-is ∙ before ∙ sym (next_itself n ns i f d c.loop-other-test.true w.if-other-node.false) ∙ listed
    ]

pub returns : goal.returns
returns g c =
    let s = value_of c.args.state.now in
    let nodes = (membership c.args.state.now.members).nodes in
    let n = c.args.node in
    let f : ℕ → ℕ = λ m. end (log_in s.nodes m c.args.client).log in
    let d : ℕ = end (log_in s.nodes (own_node nodes (client_in s.clients c.args.client)) c.args.client).log in
    let all = ap (take c.loop-other.other-index) (sym c.full_nodes-other-items.ensures) ∙ all_taken c.full_nodes-other-items.result.now c.loop-other.other-index
    c.loop-other-test.false ∙ c.full_nodes-other-items.ensures in
    c.loop-other.invariant
    ∙ ap (λ ns. least_of (others n ns) f d) all
    ∙ kept_least s n c.args.client c.requires.shape c.requires.client c.args.state.now.members.lawful.some_full
    (ap (λ x. x.failed) (sym c.get-known.ensures) ∙ sym c.has_failed.ensures ∙ c.if-has_failed.false)
    (ap (λ x. x.home) (sym c.get-known.ensures) ∙ sym c.home.ensures ∙ c.if-home-node.false)
