use Rattle.assise_machine_failures.proofs.Common.{◌≡◌, ◌+◌, ◌-◌, ap, sym, ◌∙◌, length, arith, donor_of, standing_of, standings, value_of, filled_from}
use Rattle.assise_machine_failures.proofs.Common.{is_number}
use Rattle.assise_machine_failures.proofs.FilledFrom.{filled_is, none_filled, one_filled}
use Rattle.assise_machine_failures.proofs.listing.filled_from.Goals as goal
use Rattle.assise_machine_failures.proofs.listing.filled_from.Goals.{else-loop-other-test, then-loop-other-test+else-other-other-end, then-eq+in_ok-push}
use Rattle.assise_machine_failures.proofs.listing.filled_from.Goals.{else-eq}

pub loop-other-preserved : goal.loop-other-preserved
loop-other-preserved g c =
    let nodes = standings (value_of c.args.state.now) in
    let n = c.args.node in
    let k = c.loop-other.other in
    let same : c.eq.result ≡ is_number n (donor_of (standing_of nodes k)) = c.eq.ensures ∙ filled_is (standing_of nodes k) c.donor.result n _ c.donor.ensures.ok
    c.donor.ensures.donor in
    let back : k ≡ k + 1 - 1 = omega arith in
    let filled : c.if-eq.nodes.items ≡ filled_from nodes n k =
    elim c.if-eq.branch [
      | then-eq+in_ok-push b ↦ one_filled nodes n k c.loop-other.nodes.items c.if-eq.nodes.items c.loop-other.auto.other c.loop-other.invariant.nodes
          (ap (λ v. v.items) b.nodes-is ∙ b.in_ok-push.ensures.items) (sym same ∙ b.if-eq.true)
      | else-eq b ↦ none_filled nodes n k c.loop-other.nodes.items c.if-eq.nodes.items c.loop-other.auto.other c.loop-other.invariant.nodes
          (ap (λ v. v.items) b.nodes-is) (sym same ∙ b.if-eq.false)
    ]
    in
    record { nodes = filled ∙ ap (filled_from nodes n) back; last = omega (arith, c.loop-other-test.true, c.len-other-end.ensures) }

pub returns : goal.returns
returns g c = record {
  nodes =
      let s = value_of c.args.state.now in
      let nodes = standings s in
      let n = c.args.node in
      let k = c.loop-other.other in
      elim c.loop-other-test.branch [
        | else-loop-other-test b ↦
            let last : k - 1 ≡ length s.nodes =
            omega (arith, b.loop-other-test.false, c.loop-other.auto.other, c.loop-other.invariant.last, c.len-other-end.ensures) in
            ap (λ v. v.items) b.nodes-is ∙ c.loop-other.invariant.nodes ∙ ap (filled_from nodes n) last
        | then-loop-other-test+else-other-other-end b ↦
            let same : b.eq.result ≡ is_number n (donor_of (standing_of nodes k)) = b.eq.ensures ∙ filled_is (standing_of nodes k) b.donor.result n _
            b.donor.ensures.ok b.donor.ensures.donor in
            let filled : b.if-eq.nodes.items ≡ filled_from nodes n k =
            elim b.if-eq.branch [
              | then-eq+in_ok-push d ↦ one_filled nodes n k c.loop-other.nodes.items b.if-eq.nodes.items c.loop-other.auto.other c.loop-other.invariant.nodes
                  (ap (λ v. v.items) d.nodes-is ∙ d.in_ok-push.ensures.items) (sym same ∙ d.if-eq.true)
              | else-eq d ↦ none_filled nodes n k c.loop-other.nodes.items b.if-eq.nodes.items c.loop-other.auto.other c.loop-other.invariant.nodes
                  (ap (λ v. v.items) d.nodes-is) (sym same ∙ d.if-eq.false)
            ]
            in
            let last : k ≡ length s.nodes = omega (arith, b.loop-other-test.true, c.len-other-end.ensures) in
            ap (λ v. v.items) b.nodes-is ∙ filled ∙ ap (filled_from nodes n) last
      ];
}
