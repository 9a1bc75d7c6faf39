use Rattle.assise_machine_calls.proofs.Common.{◌≡◌, ◌++◌, ◌≤◌, filter, length, ap, ◌∙◌, append-nil, arith, ∥∥₁_map, drop_all, take_all, let_ready_go, released}
use Rattle.assise_machine_calls.proofs.Common.{Releasing, event_keeps, observed, standings, value_of, is_early}
use Rattle.assise_machine_calls.proofs.LeaseFacts.{are_leases}
use Rattle.assise_machine_calls.proofs.Ready.{none_ready}
use Rattle.assise_machine_calls.proofs.Released.{all_released}
use Rattle.assise_machine_calls.proofs.release.release_ready.Given as given
use Rattle.assise_machine_calls.proofs.release.release_ready.Goals as goal

released_now : (g : given.Over) (c : goal.After-free_to g) → Releasing (observed (value_of c.args.sound.now.state)) (released c.release_before-count.result)
    (observed (value_of c.free_to.new.state))
released_now g c =
    let s = value_of c.args.sound.now.state in
    let t = value_of c.release_before-count.new.state in
    let u = value_of c.free_to.new.state in
    let goes = c.release_before-count.ensures.goes in
    let many : length t.nodes ≡ length (standings s) = ap (λ v. length v.nodes) goes.rest ∙ c.args.sound.now.invariant.shape.nodes in
    let whole : length s.cuts ≤ c.len-place.result = omega (arith, c.len-place.ensures) in
    let left : t.cuts ≡ filter (is_early s) s.cuts =
    c.release_before-count.ensures.cuts
    ∙ (λ k. filter (is_early s) (take_all c.len-place.result s.cuts whole k) ++ drop_all c.len-place.result s.cuts whole k)
    ∙ append-nil (filter (is_early s) s.cuts) in
    all_released s t u c.release_before-count.result c.len-last.result goes c.free_to.ensures.frees (c.len-last.ensures ∙ many)
    (none_ready s t c.release_before-count.result c.args.sound.now.invariant.noted c.release_before-count.ensures.noted goes left)

pub returns-clause-happens : goal.returns-clause-happens
returns-clause-happens g c = released_now g c.before

pub release_before-count-requires-clause-leases : goal.release_before-count-requires-clause-leases
release_before-count-requires-clause-leases g c = are_leases (value_of c.args.sound.now.state) c.args.sound.now.invariant.holds

pub invariant_of-sound : goal.invariant_of-sound
invariant_of-sound g c = record {
  invariant = record {
    holds = ∥∥₁_map c.args.sound.now.invariant.holds
        (λ h. event_keeps (observed (value_of c.args.sound.now.state)) (observed (value_of c.free_to.new.state)) let_ready_go
        (released c.release_before-count.result) h (released_now g c));
    shape = c.free_to.ensures.shape;
    noted = c.free_to.ensures.noted;
  };
}
