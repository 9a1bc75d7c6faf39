-- Leases are granted, asked for, and handed over.
-- Assise (OSDI 2020), section 3 (CC-NVM: leases that are delegated to nodes and clients, and revoked).
use Rattle.std.specs.Prelude.{◌≡◌, ◌≢◌, ℕ, suc, ◌≤◌, Bool, true, false, not, ◌&&◌, if◌then◌else◌, List}
use Rattle.assise_names.specs.declared.mode.Mode.{Mode}
use Rattle.assise_names.specs.declared.mode.Mode.TheVariants.{Read, Write}
use Rattle.assise_record.specs.LogRecord.{LogRecord}
use Rattle.assise_inode_table.specs.Effects.{touched, contains}
use Rattle.assise_inode_table.specs.Traces.{NumberedCall}
use Rattle.assise_lease_table.specs.LeaseMaps.{SameLeases as SameLeasesOf}
use Rattle.assise_lease_table.specs.Leases.{serves, revoke}
use Rattle.assise_lease_tree.specs.Levels.{is_revoked, lives}
use Rattle.assise_lease_tree.specs.TwoLevels.{EnrolsAt, is_free_for, IsGranted, IsAskedFor, ReleasesLease, IsRevoked, IsIdle, IsFreed}
use Rattle.assise_model_world.specs.ClientSteps.{Opens, MakesCall, RaisesGoals, Crashes}
use Rattle.assise_model_world.specs.Coalescing.{Coalesces}
use Rattle.assise_model_world.specs.NodeSteps.{Fails}
use Rattle.assise_model_world.specs.Staying.{SameLogs, SameClients, SameGoals, SameNodes}
use Rattle.assise_model_world.specs.World.{World, Full, end_of_log, digested_by_all, step_at_home}
use Rattle.assise_model_leases.specs.Leases.{Leases, client_lease, IsRevokedLease, CoversFrom, AreHeld}

abbrev pub SameCuts : Leases → Leases → Type 0
SameCuts l l' = (c i : ℕ) → l'.cut c i ≡ l.cut c i

-- the cuts of what is still revoked stay: those of other leases say nothing
abbrev pub KeepsCuts : Leases → Leases → Type 0
KeepsCuts l l' = (c i : ℕ) → IsRevokedLease l' c i → l'.cut c i ≡ l.cut c i

-- all stays but what clients hold, which is what the leases say
pub record HoldsAsLeased (w w' : World) (l' : Leases) : Type 0 where
  pub logs : SameLogs w w'
  pub clients : SameClients w w'
  pub goals : SameGoals w w'
  pub nodes : SameNodes w w'
  pub held : AreHeld w' l'

-- ---- clients

-- a client more is opened on full node n, and holds nothing
pub record OpensAt (w : World) (l : Leases) (n : ℕ) (w' : World) (l' : Leases) : Type 0 where
  pub opens : Opens w n w'
  pub enrols : EnrolsAt l.levels l'.levels (suc w.clients) n
  pub cuts : SameCuts l l'

-- a client makes a call; its leases of what the call visits and changes serve
pub record CallsUnder (w : World) (l : Leases) (x : NumberedCall) (w' : World) : Type 0 where
  pub call : MakesCall w x w'
  pub visited : (i : ℕ) → contains (step_at_home w x).visits i ≡ true → serves (client_lease l x.client i) Read ≡ true
  pub changed : (i : ℕ) → contains (touched (step_at_home w x).effects) i ≡ true → serves (client_lease l x.client i) Write ≡ true

-- ---- granting and asking

-- client c, against which nobody stands, gets a lease of inode i
pub record Grants (w : World) (l : Leases) (c i : ℕ) (mode : Mode) (w' : World) (l' : Leases) : Type 0 where
  pub lives_on : w.lives c ≡ true
  pub running : w.crashed c ≡ false
  pub free : is_free_for l.levels c (w.home c) i mode ≡ true
  pub granted : IsGranted l.levels l'.levels c (w.home c) i mode
  pub cuts : SameCuts l l'
  pub holds : HoldsAsLeased w w' l'

-- the client's lease of the inode is revoked now and wasn't before
abbrev pub is_newly_revoked : Leases → Leases → ℕ → ℕ → Bool
is_newly_revoked l l' d i = not (is_revoked (client_lease l d i)) && is_revoked (client_lease l' d i)

-- the place that a client's log is to be replicated up to, where it was asked for its lease of the inode
abbrev pub asked_goal : Leases → Leases → ℕ → ℕ → ℕ
asked_goal l l' i d = if is_newly_revoked l l' d i then l'.cut d i else 0

-- those who stand against client c are asked for their leases of inode i: each answers a cut that covers, at a border of its log
-- from the first place on, and its log is to be replicated up to it
pub record Asks (w : World) (l : Leases) (c i : ℕ) (mode : Mode) (w' : World) (l' : Leases) : Type 0 where
  pub lives_on : w.lives c ≡ true
  pub running : w.crashed c ≡ false
  pub not_free : is_free_for l.levels c (w.home c) i mode ≡ false
  pub asked : IsAskedFor l.levels l'.levels c (w.home c) i mode
  pub answered : (d : ℕ) → is_newly_revoked l l' d i ≡ true → CoversFrom w d i (l'.cut d i)
  pub from_first : (d : ℕ) → is_newly_revoked l l' d i ≡ true → w.first d ≤ l'.cut d i
  pub border : (d : ℕ) → is_newly_revoked l l' d i ≡ true → w.border d (l'.cut d i) ≡ true
  pub cuts_else : (d j : ℕ) → (j ≡ i → is_newly_revoked l l' d i ≡ true → ⊥) → l'.cut d j ≡ l.cut d j
  pub goals : RaisesGoals w (asked_goal l l' i) w'

-- ---- handing over

-- client c's revoked lease of inode i goes, once all full nodes have digested what lies before its cut
pub record ReleasesReady (w : World) (l : Leases) (c i : ℕ) (w' : World) (l' : Leases) : Type 0 where
  pub revoked : IsRevokedLease l c i
  pub ready : l.cut c i ≤ digested_by_all w c
  pub released : ReleasesLease l.levels l'.levels c (w.home c) i
  pub cuts : KeepsCuts l l'
  pub holds : HoldsAsLeased w w' l'

-- node n, which isn't full and none of whose clients holds a lease, gives up all of its own
pub record FreesNode (w : World) (l : Leases) (n : ℕ) (l' : Leases) : Type 0 where
  pub away : Full w n → ⊥
  pub idle : IsIdle l.levels n
  pub freed : IsFreed l.levels l'.levels n
  pub cuts : SameCuts l l'

-- ---- clients that are over

-- client c crashes: its leases are revoked with its log's end as cut
pub record CrashesWith (w : World) (l : Leases) (c : ℕ) (w' : World) (l' : Leases) : Type 0 where
  pub crash : Crashes w c w'
  pub revoked : IsRevoked l.levels l'.levels c
  pub cut_here : (i : ℕ) → l'.cut c i ≡ end_of_log w c
  pub cut_else : (d i : ℕ) → d ≢ c → l'.cut d i ≡ l.cut d i

-- node n fails: the leases of its clients are revoked with the end of what is kept as cut
pub record FailsWithLeases (w : World) (l : Leases) (n : ℕ) (w' : World) (l' : Leases) : Type 0 where
  pub fails : Fails w n w'
  pub home : (c : ℕ) → l'.levels.home c ≡ l.levels.home c
  pub clients : (i : ℕ) → l'.levels.clients i ≡ revoke (λ a. lives l.levels.home a.holder n) (l.levels.clients i)
  pub nodes : SameLeasesOf l.levels.nodes l'.levels.nodes
  pub cut_here : (c i : ℕ) → w.home c ≡ n → l'.cut c i ≡ end_of_log w' c
  pub cut_else : (c i : ℕ) → w.home c ≢ n → l'.cut c i ≡ l.cut c i

-- a client's last records give way to others, from a place on behind which none of its cuts lies
pub record CoalescesUnder (w : World) (l : Leases) (c s : ℕ) (new : List LogRecord) (was : ℕ → ℕ) (w' : World) : Type 0 where
  pub coalesces : Coalesces w c s new was w'
  pub cuts : (i : ℕ) → IsRevokedLease l c i → l.cut c i ≤ s
