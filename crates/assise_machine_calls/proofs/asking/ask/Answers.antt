use Rattle.assise_machine_calls.proofs.Common.{◌≡◌, ◌+◌, ◌≤◌, Some, is_some, length, ap, sym, subst, ◌∙◌, arith, levels_of, stored_by, membership}
use Rattle.assise_machine_calls.proofs.Common.{CutsInvariant, value_of, own_log}
use Rattle.std.specs.Vec.{vec_capacity, vec_len}
use Rattle.assise_machine_calls.proofs.RevokerAnswers.{IsAsked, cuts_in, few_asked, is_asked_in, lent, running_holder}
use Rattle.assise_machine_calls.proofs.SyncChanges.{fine_number}
use Rattle.assise_machine_calls.proofs.LeaseFacts.{are_leases, home_known}
use Rattle.assise_machine_calls.proofs.CallTries.{same_levels}
use Rattle.assise_machine_calls.proofs.asking.ask.Given as given
use Rattle.assise_machine_calls.proofs.asking.ask.Goals as goal

pub invariant_of-logs : goal.invariant_of-logs
invariant_of-logs g c = record
    { there = λ d number. own_log (value_of c.args.state.now) d c.requires.invariant.shape number c.args.state.now.members.lawful.some_full }

pub ask-requires-clause-at_home : goal.ask-requires-clause-at_home
ask-requires-clause-at_home g c =
    let s = value_of c.args.state.now in
    home_known s c.requires.invariant.holds c.args.request.client (fine_number s c.args.request.client c.requires.fine) ∙ ap Some (sym c.requires.home)

pub ask-requires-clause-viewed : goal.ask-requires-clause-viewed
ask-requires-clause-viewed g c = λ l among free.
    let s = value_of c.args.state.now in
    ap is_some (lent s.nodes (membership c.args.state.now.members).nodes s.clients l.holder
    (running_holder s c.args.request.inode l (are_leases s c.requires.invariant.holds) among free))

pub returns-in_err-asked-clause-noted : goal.returns-in_err-asked-clause-noted
returns-in_err-asked-clause-noted g c =
    let s = value_of c.args.state.now in
    subst CutsInvariant (λ k. record s
    { levels = sym (same_levels s.levels (levels_of c.ask.new.self) c.in_err-asked.ensures.err) k; cuts = sym c.reserve.ensures.items k })
    c.requires.invariant.noted

pub note_all-requires-clause-room : goal.note_all-requires-clause-room
note_all-requires-clause-room g c =
    let s = value_of c.args.state.now in
    let few : length c.in_ok-asked.asked.items ≤ length (s.levels.clients c.args.request.inode) = few_asked _ (s.levels.clients c.args.request.inode)
    c.in_ok-asked.asked.items c.in_ok-asked.ensures.answers.who in
    let room : vec_len c.reserve.new.self + length c.leases-holders.result.now ≤ vec_capacity c.reserve.new.self = c.in_ok-reserve.ensures.ok in
    let holders : length c.leases-holders.result.now ≡ length (s.levels.clients c.args.request.inode) = ap length c.leases-holders.ensures in
    omega (arith, few, room, holders, c.reserve.new.self.ok, ap length c.into_iter.ensures.rest)

-- what is asked, with the invariant after it
all_done : (g : given.Over) (c : goal.After-note_all g) →
    IsAsked (value_of c.args.state.now) c.args.request
    (record (value_of c.args.state.now) { clients = c.note_all.new.clients; levels = levels_of c.ask.new.self; cuts = c.note_all.new.cuts.items })
all_done g c =
    let s = value_of c.args.state.now in
    is_asked_in _ (stored_by c.args.state.now.leases) s c.args.request (levels_of c.ask.new.self) c.in_ok-asked.asked.items c.requires.invariant.holds
    c.requires.invariant.shape c.requires.invariant.noted
    c.args.state.now.members.lawful.some_full c.requires.fine c.requires.home c.requires.blocked c.in_ok-asked.ensures.asked c.in_ok-asked.ensures.answers
    c.note_all.new.clients c.reserve.new.self.items c.note_all.new.cuts.items c.into_iter.result.rest.items c.into_iter.ensures.rest c.reserve.ensures.items
    c.note_all.ensures.goals c.note_all.ensures.cuts

pub returns-clause-ok : goal.returns-clause-ok
returns-clause-ok g c = (all_done g c).happens

pub returns-clause-shape : goal.returns-clause-shape
returns-clause-shape g c = (all_done g c).shape

pub returns-clause-noted : goal.returns-clause-noted
returns-clause-noted g c = (all_done g c).noted

pub returns-clause-cuts : goal.returns-clause-cuts
returns-clause-cuts g c =
    let s = value_of c.args.state.now in
    cuts_in _ (stored_by c.args.state.now.leases) s c.args.request (levels_of c.ask.new.self) c.in_ok-asked.asked.items c.requires.invariant.holds
    c.requires.invariant.shape c.requires.invariant.noted
    c.args.state.now.members.lawful.some_full c.requires.fine c.requires.home c.requires.blocked c.in_ok-asked.ensures.asked c.in_ok-asked.ensures.answers
    c.note_all.new.clients c.reserve.new.self.items c.note_all.new.cuts.items c.into_iter.result.rest.items c.into_iter.ensures.rest c.reserve.ensures.items
    c.note_all.ensures.goals c.note_all.ensures.cuts
