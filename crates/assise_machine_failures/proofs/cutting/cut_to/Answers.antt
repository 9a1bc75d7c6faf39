use Rattle.assise_machine_failures.proofs.Common.{◌≡◌, ◌≢◌, ◌+◌, ◌-◌, ap, sym, subst, ◌∙◌, arith, with_clients_cut, with_clients_failed, client_in, failed_at}
use Rattle.assise_machine_failures.proofs.Common.{with_client, AreUndigested, with_tails_cut, IsNumber, kept_in}
use Rattle.assise_machine_failures.proofs.CutOff.{all_undigested, home_found, next_cut, next_fails, next_lives, next_stays, number_found, undigested_then}
use Rattle.assise_machine_failures.proofs.cutting.cut_to.Goals as goal
use Rattle.assise_machine_failures.proofs.cutting.cut_to.Goals.{else-home-node, then-home-node, Joined-home-node}

pub get-requires : goal.get-requires
get-requires c =
    let there : IsNumber c.args.clients.now c.loop-client.client =
    record { some = omega (arith, c.loop-client.auto.client); there = omega (arith, c.loop-client-test.true, c.requires.last) } in
    record { client = number_found c.args.node (kept_in c.args.kept.now) c.args.clients.now c.loop-client.client there c.loop-client.invariant.clients }

pub cut_tails-requires-clause-elsewhere : goal.cut_tails-requires-clause-elsewhere
cut_tails-requires-clause-elsewhere c =
    let k = c.loop-client.client in
    let kept = kept_in c.args.kept.now in
    let there : IsNumber c.args.clients.now k =
    record { some = omega (arith, c.loop-client.auto.client); there = omega (arith, c.loop-client-test.true, c.requires.last) } in
    let found = home_found c.args.node kept c.args.clients.now k there c.loop-client.invariant.clients c.get.ensures c.home.ensures in
    let home : (client_in c.args.clients.now k).home ≡ c.args.node = omega (arith, c.if-home-node.true, found) in
    subst (λ rs. AreUndigested rs k (kept k)) (sym c.loop-client.invariant.nodes)
    (all_undigested _ k (kept k)
    (undigested_then c.args.node c.args.clients.now kept c.args.nodes.now (k - 1) k (kept k) (omega (arith, there.some))
    (λ n has. c.requires.undigested n k home has)))

pub fail-requires : goal.fail-requires
fail-requires c =
    let there : IsNumber c.args.clients.now c.loop-client.client =
    record { some = omega (arith, c.loop-client.auto.client); there = omega (arith, c.loop-client-test.true, c.requires.last) } in
    record { client = number_found c.args.node (kept_in c.args.kept.now) c.args.clients.now c.loop-client.client there c.loop-client.invariant.clients }

-- with the client, if it was opened there
done_now : (c : Joined-home-node) → let k = c.loop-client.client in let kept = kept_in c.args.kept.now in
    (c.if-home-node.nodes ≡ with_clients_cut c.args.node c.args.clients.now kept k c.args.nodes.now)
    × (c.if-home-node.clients ≡ with_clients_failed c.args.node kept k c.args.clients.now)
done_now c =
    let k = c.loop-client.client in
    let n = c.args.node in
    let kept = kept_in c.args.kept.now in
    let cs = c.args.clients.now in
    let rs = c.args.nodes.now in
    let was = c.loop-client.invariant in
    let there : IsNumber cs k = record { some = c.loop-client.auto.client; there = omega (arith, c.loop-client-test.true, c.requires.last) } in
    let some : k ≢ 0 = λ none. omega (arith, c.loop-client.auto.client, none) in
    let found = home_found n kept cs k there was.clients c.get.ensures c.home.ensures in
    elim c.if-home-node.branch [
      | then-home-node b ↦
          let home : (client_in cs k).home ≡ n = omega (arith, b.if-home-node.true, found) in (
            b.nodes-is ∙ b.cut_tails.ensures ∙ ap (λ q. with_tails_cut q k (kept k)) was.nodes ∙ next_cut n cs kept rs k some home,
            b.clients-is ∙ b.fail.ensures ∙ ap (λ q. with_client q k (failed_at (kept k) (client_in q k))) was.clients ∙ next_fails n kept cs k there home,
          )
      | else-home-node b ↦
          let away : (client_in cs k).home ≢ n = λ is. omega (arith, b.if-home-node.false, found, is) in
          (b.nodes-is ∙ was.nodes ∙ next_stays n cs kept rs k some away, b.clients-is ∙ was.clients ∙ next_lives n kept cs k some away)
    ]

pub loop-client-preserved : goal.loop-client-preserved
loop-client-preserved c =
    let done = done_now (goal.at.loop-client-preserved c).Joined-home-node in
    let next : c.loop-client.client + 1 - 1 ≡ c.loop-client.client = omega arith in
    record { nodes = rw next done.0; clients = rw next done.1; low = omega (arith, c.loop-client-test.true) }

-- the last client, behind which no number comes
pub returns-after-home-node : goal.returns-after-home-node
returns-after-home-node c =
    let done = done_now (goal.at.returns-after-home-node c).Joined-home-node in
    let last : c.args.last ≡ c.loop-client.client = omega (arith, c.loop-client-test.true) in
    rw last (assumption done)
