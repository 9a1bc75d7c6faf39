use Rattle.assise_machine_state.proofs.Common.{◌≡◌, ◌∙◌, ap, subst, sym, arith, end, is_border, open_group, with_one, log_in, with_log_in, with_next}
use Rattle.assise_machine_state.proofs.Common.{with_region}
use Rattle.assise_machine_state.proofs.Shared.RecordsTaken.{TakesOne, takes_one}
use Rattle.assise_machine_state.proofs.nodes.Nodes.take_one.Goals as goal
use Rattle.assise_machine_state.proofs.Shared.LogChanges.{log_found, log_put}

pub append_grouped-requires-clause-open_group : goal.append_grouped-requires-clause-open_group
append_grouped-requires-clause-open_group c joins = grind (arith, log_found, open_group)

pub append_grouped-requires-clause-number_fits : goal.append_grouped-requires-clause-number_fits
append_grouped-requires-clause-number_fits c = grind (arith, log_found)

pub unreachable-requires : goal.unreachable-requires
unreachable-requires c = grind (arith, log_found)

pub returns : goal.returns
returns c =
    let rs = c.args.self.now in
    let n = c.args.node in
    let client = c.args.client in
    let begins = c.is_border-begins.ensures.border ∙ (λ i. is_border (c.log-2.ensures.log i) ((c.end-number.ensures.end ∙ ap end c.log.ensures.log) i)) in
    let region = c.region_mut-region.ensures.value in
    let next : with_region rs n c.append_grouped.new.self ≡ with_next (is_border (log_in rs c.args.own client).log) rs n client c.args.added =
    ap (with_region rs n) c.in-Ok.ensures.ok ∙ log_put rs n client _ c.requires.there region
    ∙ (λ i. with_log_in rs n client (with_one (log_found rs n client c.requires.there region i) c.args.added (begins i))) in
    let taken : TakesOne rs (with_region rs n c.append_grouped.new.self) n c.args.own client =
    subst (λ ss. TakesOne rs ss n c.args.own client) (sym next)
    (takes_one rs n c.args.own client c.args.added c.requires.there c.requires.own c.requires.other c.requires.groups c.requires.elsewhere) in
    (search (arith) parts 3)
