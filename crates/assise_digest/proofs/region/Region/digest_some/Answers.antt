use Rattle.assise_digest.proofs.Common.{◌≡◌, ◌+◌, ◌∙◌, ap, length, subst, sym, arith, is_border, IsNextGroup, TouchDisjoint, ahead, digested_by}
use Rattle.assise_digest.proofs.Common.{digested_further, log_of}
use Rattle.assise_digest.proofs.DigestKeepsReads.{disjoint_digested, digested_more, digested_none, given_alone, given_read, log_digested}
use Rattle.assise_digest.proofs.Grouped.{none_asked, none_whole}
use Rattle.assise_digest.proofs.region.Region.digest_some.Goals as goal

pub returns-then-are_all_ahead-clause-read : goal.returns-then-are_all_ahead-clause-read
returns-then-are_all_ahead-clause-read c =
    let r = c.args.self.now in
    given_read r c.settle.new.self c.args.client (length (ahead (log_of r c.args.client))) c.in_ok-settle.ensures.ok c.requires.client
    c.count_ahead.ensures.begun

pub returns-then-are_all_ahead-clause-alone : goal.returns-then-are_all_ahead-clause-alone
returns-then-are_all_ahead-clause-alone c =
    let r = c.args.self.now in
    given_alone r c.settle.new.self c.args.client (length (ahead (log_of r c.args.client))) c.in_ok-settle.ensures.ok c.requires.client
    c.count_ahead.ensures.begun c.requires.disjoint

pub loop-count-init : goal.loop-count-init
loop-count-init c = record { digested = sym (digested_none c.args.self.now c.args.client); within = omega arith; groups = λ some. absurd (omega arith) }

pub returns-then-most-count-clause-none : goal.returns-then-most-count-clause-none
returns-then-most-count-clause-none c = λ zero.
    let r = c.args.self.now in
    let same : c.loop-count.self ≡ r = c.loop-count.invariant.digested ∙ ap (digested_by r c.args.client) zero ∙ digested_none r c.args.client in
    let next : IsNextGroup (log_of r c.args.client) c.next_group-group.result = subst (λ s. IsNextGroup (log_of s c.args.client) c.next_group-group.result) same
    c.next_group-group.ensures in
    none_whole (log_of r c.args.client) _ c.next_group-group.result next (omega arith)

pub returns-then-most-count-clause-read : goal.returns-then-most-count-clause-read
returns-then-most-count-clause-read c =
    given_read c.args.self.now c.loop-count.self c.args.client c.loop-count.count c.loop-count.invariant.digested c.requires.client c.count_ahead.ensures.begun

pub returns-then-most-count-clause-alone : goal.returns-then-most-count-clause-alone
returns-then-most-count-clause-alone c =
    given_alone c.args.self.now c.loop-count.self c.args.client c.loop-count.count c.loop-count.invariant.digested c.requires.client c.count_ahead.ensures.begun
    c.requires.disjoint

pub digest_group-requires-clause-disjoint : goal.digest_group-requires-clause-disjoint
digest_group-requires-clause-disjoint c =
    subst TouchDisjoint (sym c.loop-count.invariant.digested)
    (disjoint_digested c.args.self.now c.args.client c.loop-count.count c.requires.client c.count_ahead.ensures.begun c.requires.disjoint)

pub returns-else-count-eq0-clause-read : goal.returns-else-count-eq0-clause-read
returns-else-count-eq0-clause-read c =
    given_read c.args.self.now c.digest_group.new.self c.args.client c.loop-count.count (c.in-Err.ensures.err ∙ c.loop-count.invariant.digested)
    c.requires.client c.count_ahead.ensures.begun

pub returns-else-count-eq0-clause-alone : goal.returns-else-count-eq0-clause-alone
returns-else-count-eq0-clause-alone c =
    given_alone c.args.self.now c.digest_group.new.self c.args.client c.loop-count.count (c.in-Err.ensures.err ∙ c.loop-count.invariant.digested)
    c.requires.client c.count_ahead.ensures.begun c.requires.disjoint

pub loop-count-preserved : goal.loop-count-preserved
loop-count-preserved c =
    let r = c.args.self.now in
    let count = c.loop-count.count in
    let group = c.next_group-group.result in
    let here : log_of c.loop-count.self c.args.client ≡ digested_further (log_of r c.args.client) count = ap (λ s. log_of s c.args.client)
    c.loop-count.invariant.digested ∙ log_digested r c.args.client count c.requires.client in
    let next : IsNextGroup (digested_further (log_of r c.args.client) count) group = subst (λ l. IsNextGroup l group) here c.next_group-group.ensures in
    let place : (log_of r c.args.client).digested + (count + group) ≡ ((log_of r c.args.client).digested + count) + group = omega arith in
    record {
      digested = c.in_default.ensures.ok ∙ ap (λ s. digested_by s c.args.client group) c.loop-count.invariant.digested
          ∙ digested_more r c.args.client count group c.requires.client c.count_ahead.ensures.begun;
      within = omega arith;
      groups = λ some. ap (is_border (log_of r c.args.client).log) place ∙ next.border;
    }

pub returns-clause-none : goal.returns-clause-none
returns-clause-none c = λ zero. none_asked (log_of c.args.self.now c.args.client) _ (omega arith)

pub returns-clause-read : goal.returns-clause-read
returns-clause-read c = given_read c.args.self.now c.loop-count.self c.args.client c.loop-count.count c.loop-count.invariant.digested c.requires.client
    c.count_ahead.ensures.begun

pub returns-clause-alone : goal.returns-clause-alone
returns-clause-alone c =
    given_alone c.args.self.now c.loop-count.self c.args.client c.loop-count.count c.loop-count.invariant.digested c.requires.client c.count_ahead.ensures.begun
    c.requires.disjoint
