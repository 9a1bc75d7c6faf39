use Rattle.assise_machine_state.proofs.Common.{◌≡◌, ◌∙◌, all_effects, all_applied, ahead, log_of, client_in, log_in, value_of}
use Rattle.assise_machine_state.proofs.Shared.LogChanges.{log_found}
use Rattle.assise_machine_state.proofs.Shared.OwnLogs.{home_known, home_log}
use Rattle.assise_machine_state.proofs.state.StateOf.view.Given as given
use Rattle.assise_machine_state.proofs.state.StateOf.view.Goals as goal

pub region-requires : goal.region-requires
region-requires g c =
    let s = value_of c.args.self.now in
    let has = home_log s c.args.client c.requires.shape c.requires.client c.requires.lives in
    record { node = rw (c.home-home.ensures, c.get.ensures) has.node }

pub inodes_of-requires-clause-client : goal.inodes_of-requires-clause-client
inodes_of-requires-clause-client g c =
    let s = value_of c.args.self.now in
    let has = home_log s c.args.client c.requires.shape c.requires.client c.requires.lives in
    rw (c.region.ensures, c.home-home.ensures, c.get.ensures) has.client

-- its log there

log_is : (g : given.Over) (c : goal.After-region g) →
    log_of c.region.result.now c.args.client ≡ log_in c.args.self.now.nodes (client_in c.args.self.now.clients c.args.client).home c.args.client
log_is g c =
    let has = home_log (value_of c.args.self.now) c.args.client c.requires.shape c.requires.client c.requires.lives in
    log_found c.args.self.now.nodes (client_in c.args.self.now.clients c.args.client).home c.args.client has
    (rw (c.home-home.ensures, c.get.ensures) at c.region.ensures)

pub inodes_of-requires-clause-at_home : goal.inodes_of-requires-clause-at_home
inodes_of-requires-clause-at_home g c =
    rw (log_is g c) (home_known (value_of c.args.self.now) c.args.client c.requires.shape c.requires.client c.requires.lives)

pub returns-clause-inodes : goal.returns-clause-inodes
returns-clause-inodes g c =
    let region = rw (c.home-home.ensures, c.get.ensures) at c.region.ensures in
    c.inodes_of.ensures ∙ (λ i. all_applied (region i).inodes (all_effects (ahead (log_is g c.before i))))
