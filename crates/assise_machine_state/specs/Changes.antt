-- What each event changes of the state.
-- Assise (OSDI 2020), section 3 (CC-NVM: update logs, replication, digests, leases, process crash, fail-over, recovery).
use Rattle.std.specs.Prelude.{ℕ, zero, suc, ◌-◌, ◌==◌, if◌then◌else◌, List, [], ◌∷◌, ◌++◌, length, Option}
use Rattle.std.specs.Ordering.{nat_cmp}
use Rattle.std.specs.FinSet as set
use Rattle.assise_names.specs.declared.durability.Durability.{Durability}
use Rattle.assise_history.specs.Entries.{calls, crashes, fails, opens, returns}
use Rattle.assise_inode_table.specs.Contents.{Content}
use Rattle.assise_inode_table.specs.Traces.{NumberedCall}
use Rattle.assise_private_log.specs.NumberedLog.{is_border}
use Rattle.assise_digest.specs.Region.{RegionValue, regrouped_from, with_inode}
use Rattle.assise_lease_table.specs.declared.lease.Asked.{Asked}
use Rattle.assise_lease_tree.specs.TwoLevels.{TwoLevels}
use Rattle.assise_manager.specs.Changes.{failed, joined, noted}
use Rattle.assise_manager.specs.Membership.{Membership}
use Rattle.assise_model_world.specs.NodeSteps.{kept_at_failure}
use Rattle.assise_model_world.specs.World.{World, call_makes_inode, digested_by_all, end_of_log, records_between, step_at_home}
use Rattle.assise_model_history.specs.Lost.{losses_of}
use Rattle.assise_model_history.specs.Numbered.{plain_call}
use Rattle.assise_machine_state.specs.ClientValues.{ClientValue, client_in, crashed_at, failed_at, opened_on, with_call, with_client, with_goal}
use Rattle.assise_machine_state.specs.NodeValues.{log_in, region_in, with_call_in, with_digested_in, with_prefixes_dropped, with_hot_in, with_log_in, with_logs_begun, with_logs_of, with_records, with_region, with_tails_cut, without_logs}
use Rattle.assise_machine_state.specs.Observed.{is_full_in, own_seen, world_of}
use Rattle.assise_machine_state.specs.StateValues.{StateValue, standings}

-- ---- clients

-- the next client is opened on node n, with these leases
abbrev pub after_open : StateValue → ℕ → Durability → TwoLevels → StateValue
after_open s n u levels = record s {
  nodes = with_logs_begun (is_full_in (standings s)) s.limit n 1 s.nodes;
  clients = s.clients ++ opened_on n u ∷ [];
  levels = levels;
  history = s.history ++ opens (suc (length s.clients)) n u ∷ [];
}

-- a call is answered: its record, if it has effects, is added at its client's home
abbrev pub after_call : StateValue → NumberedCall → StateValue
after_call s x = record s {
  nodes = with_call_in s.nodes (client_in s.clients x.client).home x.client x.number (step_at_home (world_of s) x).effects;
  clients = with_client s.clients x.client (with_call (call_makes_inode (world_of s) x) (client_in s.clients x.client));
  history = s.history ++ calls (plain_call x) ∷ [];
}

-- a client's log is to be replicated up to a place, or further where it was
abbrev pub after_goal : StateValue → ℕ → ℕ → StateValue
after_goal s c to = record s { clients = with_client s.clients c (with_goal to (client_in s.clients c)) }

-- a client's records from a place on, which its home alone has, become groups there, each coalesced
abbrev pub after_regrouping : StateValue → (c from : ℕ) → StateValue
after_regrouping s c from = record s {
  nodes = with_log_in s.nodes (client_in s.clients c).home c (regrouped_from (log_in s.nodes (client_in s.clients c).home c) from);
}

-- and all of its log is to be replicated
abbrev pub after_coalescing : StateValue → (c from : ℕ) → StateValue
after_coalescing s c from = after_goal (after_regrouping s c from) c (end_of_log (world_of (after_regrouping s c from)) c)

abbrev pub goal_of : (c to : ℕ) → ℕ → ℕ
goal_of c to d = if d == c then to else 0

-- each of those who were asked has its log replicated up to its cut
abbrev pub with_goals : List Asked → List ClientValue → List ClientValue
with_goals [] cs = cs
with_goals (a ∷ asked) cs = with_goals asked (with_client cs a.client (with_goal a.cut (client_in cs a.client)))

-- those who stood in the way of a call were asked, and gave these answers: their leases are revoked
abbrev pub after_asking : StateValue → TwoLevels → List Asked → StateValue
after_asking s levels asked = record s { clients = with_goals asked s.clients; levels = levels; cuts = s.cuts ++ asked }

-- leases went, and so did the answers
abbrev pub after_letting_go : StateValue → TwoLevels → List Asked → StateValue
after_letting_go s levels cuts = record s { levels = levels; cuts = cuts }

-- who holds what is another matter now
abbrev pub after_leases : StateValue → TwoLevels → StateValue
after_leases s levels = record s { levels = levels }

-- a client crashes: these are the leases then, and its answers for those that it was not asked for
abbrev pub after_crash : StateValue → ℕ → TwoLevels → List Asked → StateValue
after_crash s c levels asked = record s {
  clients = with_client s.clients c (crashed_at (end_of_log (world_of s) c) (client_in s.clients c));
  levels = levels;
  cuts = s.cuts ++ asked;
  history = s.history ++ crashes c ∷ [];
}

-- ---- nodes

-- node n receives client c's records below place k
abbrev pub after_delivery : StateValue → (n c k : ℕ) → StateValue
after_delivery s n c k = record s { nodes = with_log_in s.nodes n c (with_records (is_border (own_seen s c).log) (log_in s.nodes n c) (records_between (world_of s) c ((world_of s).received n c) k)) }

-- node n digests client c's records below place k, and the manager notes these inodes
abbrev pub after_digest : StateValue → (n c k : ℕ) → set.FinSet nat_cmp → StateValue
after_digest s n c k inodes = record s {
  nodes = with_digested_in s.nodes n c (k - (log_in s.nodes n c).digested);
  members = noted s.members n inodes;
}

-- the logs of client c begin at a place
abbrev pub after_drop : StateValue → (c to : ℕ) → StateValue
after_drop s c to = record s { nodes = with_prefixes_dropped s.nodes c to }

-- of clients 1 to m, all nodes let the records go that all full nodes have digested
abbrev pub drops_to : StateValue → ℕ → StateValue
drops_to s zero = s
drops_to s (suc c) = after_drop (drops_to s c) (suc c) (digested_by_all (world_of (drops_to s c)) (suc c))

-- `capacity` inodes may be hot at node n
abbrev pub after_hot : StateValue → (n capacity : ℕ) → StateValue
after_hot s n capacity = record s { nodes = with_hot_in s.nodes n capacity }

-- each log's first place where one client's is another
abbrev pub first_but : World → (c to : ℕ) → ℕ → ℕ
first_but w c to d = if d == c then to else w.first d

-- ---- failures and returns

-- the logs of those of clients 1 to m that were opened on the node end where they are kept
abbrev pub with_clients_cut : (home : ℕ) (clients : List ClientValue) (kept : ℕ → ℕ) → ℕ → List RegionValue → List RegionValue
with_clients_cut home cs kept zero rs = rs
with_clients_cut home cs kept (suc c) rs =
    if (client_in cs (suc c)).home == home then with_tails_cut (with_clients_cut home cs kept c rs) (suc c) (kept (suc c)) else with_clients_cut home cs kept c
    rs

-- their node failed
abbrev pub with_clients_failed : (home : ℕ) (kept : ℕ → ℕ) → ℕ → List ClientValue → List ClientValue
with_clients_failed home kept zero cs = cs
with_clients_failed home kept (suc c) cs =
    if (client_in cs (suc c)).home == home then with_client (with_clients_failed home kept c cs) (suc c) (failed_at (kept (suc c)) (client_in cs (suc c))) else
    with_clients_failed home kept c cs

-- node n fails: its logs are gone, those of its clients are cut elsewhere, the manager lists these inodes, and these are the
-- leases then, with its clients' answers for those that they were not asked for
abbrev pub after_failure : StateValue → ℕ → set.FinSet nat_cmp → TwoLevels → List Asked → StateValue
after_failure s n inodes levels asked = record s {
  nodes = with_clients_cut n s.clients (kept_at_failure (world_of s) n) (length s.clients) (without_logs s.nodes n);
  members = failed s.members n inodes;
  clients = with_clients_failed n (kept_at_failure (world_of s) n) (length s.clients) s.clients;
  levels = levels;
  cuts = s.cuts ++ asked;
  history = s.history ++ fails n (losses_of (world_of s) n) ∷ [];
}

-- the manager has another view of nodes that aren't full
abbrev pub after_members : StateValue → Membership → StateValue
after_members s m = record s { members = m }

-- node n has another value of an inode, or none
abbrev pub after_inode : StateValue → (n i : ℕ) → Option Content → StateValue
after_inode s n i v = record s { nodes = with_region s.nodes n (with_inode (region_in s.nodes n) i v) }

-- node n gets its donor's logs, and is full
abbrev pub after_join : StateValue → (n donor : ℕ) → StateValue
after_join s n donor = record s {
  nodes = with_logs_of s.nodes n donor;
  members = joined s.members n;
  history = s.history ++ returns n ∷ [];
}
