use Rattle.assise_machine.proofs.Common.{◌≡◌, ◌∙◌, rules, sym, option_to_list, behind, chain, full_nodes, for_node, client_in, standings, value_of, has_log}
use Rattle.assise_machine.proofs.Common.{never}
use Rattle.assise_machine.proofs.Frames.{next_log, none_sent, nothing_sent, some_sent}
use Rattle.assise_machine.proofs.sending.frame_of.Given as given
use Rattle.assise_machine.proofs.sending.frame_of.Goals as goal
use Rattle.assise_machine.proofs.sending.frame_of.Goals.{After-successor}

-- the node behind this one
next_now : (g : given.Over) (c : After-successor g) → let s = value_of c.args.sound.now.state in
    c.successor.result ≡ behind c.args.node (chain (full_nodes (standings s)) (client_in s.clients c.args.client).home)
next_now g c = rw (c.successor.ensures, c.full_nodes.ensures, c.home.ensures, c.get-known.ensures)

pub returns-in_default-clause-frame : goal.returns-in_default-clause-frame
returns-in_default-clause-frame g c =
    let x = c.args.sound.now.invariant in
    let is = next_now g (goal.at.returns-in_default-clause-frame g c).After-successor in
    none_sent (value_of c.args.sound.now.state) c.args.node c.args.client x.shape x.holds c.requires.client (sym c.in_default.is ∙ is)

pub log-log-requires : goal.log-log-requires
log-log-requires g c =
    record { there = has_log (value_of c.args.sound.now.state) c.args.node c.args.client c.args.sound.now.invariant.shape c.requires.full c.requires.client }

pub log-requires : goal.log-requires
log-requires g c =
    let x = c.args.sound.now.invariant in
    let is = next_now g (goal.at.log-requires g c).After-successor in
    let s = value_of c.args.sound.now.state in
    record { there = next_log s c.args.node c.args.client x.shape x.holds c.requires.client c.in-Some.next (sym is ∙ c.in-Some.is) }

pub returns-clause-frame : goal.returns-clause-frame
returns-clause-frame g c =
    let x = c.args.sound.now.invariant in
    let mapped : option_to_list c.map.result ≡ for_node c.in-Some.next c.in_ok-frame.frame = search rules in
    let is = next_now g (goal.at.returns-clause-frame g c).After-successor in
    let there =
    some_sent (value_of c.args.sound.now.state) c.args.node c.args.client x.shape x.holds c.requires.client c.requires.full
    c.in-Some.next (sym is ∙ c.in-Some.is) in
    mapped
    ∙ rw (
      c.in_ok-frame.ensures.exact,
      c.sends_marks-marked.ensures,
      c.level.ensures,
      c.epoch.ensures.epoch,
      c.min-to.ensures,
      c.goal.ensures,
      c.get-known.ensures,
      c.end.ensures.end,
      c.end-from.ensures.end,
      c.log.ensures.log,
      c.log-log.ensures.log,
    ) (sym there)

pub returns-in_err-frame-clause-nothing_asked : goal.returns-in_err-frame-clause-nothing_asked
returns-in_err-frame-clause-nothing_asked g c = λ none.
    let s = value_of c.args.sound.now.state in
    let x = c.args.sound.now.invariant in
    let is = next_now g (goal.at.returns-in_err-frame-clause-nothing_asked g c).After-successor in
    let there = some_sent s c.args.node c.args.client x.shape x.holds c.requires.client c.requires.full c.in-Some.next (sym is ∙ c.in-Some.is) in
    let unsent = nothing_sent c.in-Some.next _ s.members.epoch c.args.client _ _ _ (sym there ∙ none) in
    absurd (never c.in_err-frame.ensures.nothing_asked (rw (
      c.min-to.ensures,
      c.goal.ensures,
      c.get-known.ensures,
      c.end.ensures.end,
      c.end-from.ensures.end,
      c.log.ensures.log,
      c.log-log.ensures.log,
    ) unsent))
