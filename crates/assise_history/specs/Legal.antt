-- What a legal history is: what stands in a prefix of it, which entry may come next, and that what is kept is a run.
-- Assise, section 3: prefix crash consistency, by which a failure takes no call up to the client's last sync.
use Rattle.std.specs.Prelude.{◌≡◌, ℕ, ◌+◌, ◌<◌, Bool, true, false, if◌then◌else◌, ◌==◌, List, [], ◌∷◌, ◌++◌, filter, length}
use Rattle.std.specs.List.{list_any}
use Rattle.assise_names.specs.declared.call.Op.{Op}
use Rattle.assise_names.specs.declared.call.Op.TheVariants.{Fsync, Dsync}
use Rattle.assise_names.specs.declared.durability.Durability.{Durability}
use Rattle.assise_names.specs.declared.durability.Durability.TheVariants.{Pessimistic}
use Rattle.assise_seq_tree.specs.Tree.{opening}
use Rattle.assise_history.specs.declared.call.Call.{Call}
use Rattle.assise_history.specs.declared.call.Loss.{Loss}
use Rattle.assise_history.specs.Entries.{EntryValue, opens, calls, crashes, fails, returns}
use Rattle.assise_history.specs.Kept.{kept, IsRun}

-- ---- the kind of an entry, and whose it is

abbrev pub is_opening : EntryValue → Bool
is_opening (opens c n u) = true
is_opening _ = false

abbrev pub is_call_of : ℕ → EntryValue → Bool
is_call_of c (calls x) = c == x.client
is_call_of _ _ = false

abbrev pub is_crash_of : ℕ → EntryValue → Bool
is_crash_of c (crashes d) = c == d
is_crash_of _ _ = false

abbrev pub is_failure_of : ℕ → EntryValue → Bool
is_failure_of n (fails m losses) = n == m
is_failure_of _ _ = false

abbrev pub is_return_of : ℕ → EntryValue → Bool
is_return_of n (returns m) = n == m
is_return_of _ _ = false

-- how the client was opened, and last where that was more than once
abbrev pub opened_as : ℕ → Durability → List EntryValue → Durability
opened_as c u [] = u
opened_as c u (opens d n v ∷ es) = opened_as c (if d == c then v else u) es
opened_as c u (_ ∷ es) = opened_as c u es

-- pessimistic where it wasn't
abbrev pub durability_of : ℕ → List EntryValue → Durability
durability_of c h = opened_as c Pessimistic h

-- the call of a client that was opened so is answered once all calls of the client before it are replicated: a dsync, and
-- a pessimistic fsync (POSIX.1-2017, fsync(); Assise, section 3: optimistic mode)
abbrev pub is_sync : Op → Durability → Bool
is_sync Dsync _ = true
is_sync Fsync Pessimistic = true
is_sync _ _ = false

-- the call, behind these entries, is a sync of its client
abbrev pub syncs : List EntryValue → Call → Bool
syncs before x = is_sync x.op (durability_of x.client before)

-- ---- what stands in a history

-- how many clients were opened
abbrev pub clients_opened : List EntryValue → ℕ
clients_opened h = length (filter is_opening h)

-- how many calls of the client were answered
abbrev pub calls_made : ℕ → List EntryValue → ℕ
calls_made c h = length (filter (is_call_of c) h)

-- the client was opened on the node
pub record IsOpenedOn (h : List EntryValue) (c n : ℕ) : Type 0 where
  pub durability : Durability
  pub before : List EntryValue
  pub since : List EntryValue
  pub split : h ≡ before ++ opens c n durability ∷ since

-- the client was opened, and hasn't crashed since
pub record IsAlive (h : List EntryValue) (c : ℕ) : Type 0 where
  pub node : ℕ
  pub opened : IsOpenedOn h c node
  pub no_crash : list_any (is_crash_of c) opened.since ≡ false

-- the client was opened on the node, and the node hasn't failed since
pub record IsOn (h : List EntryValue) (c n : ℕ) : Type 0 where
  pub opened : IsOpenedOn h c n
  pub no_failure : list_any (is_failure_of n) opened.since ≡ false

-- the client was opened, and neither has it crashed nor its node failed since
pub record MayCall (h : List EntryValue) (c : ℕ) : Type 0 where
  pub node : ℕ
  pub opened : IsOpenedOn h c node
  pub no_crash : list_any (is_crash_of c) opened.since ≡ false
  pub no_failure : list_any (is_failure_of node) opened.since ≡ false

-- the node failed, and hasn't been taken in again since
pub record IsDown (h : List EntryValue) (n : ℕ) : Type 0 where
  pub losses : List Loss
  pub before : List EntryValue
  pub since : List EntryValue
  pub split : h ≡ before ++ fails n losses ∷ since
  pub no_return : list_any (is_return_of n) since ≡ false

-- what was synced stays: each of the client's syncs has a smaller number than its first lost call
abbrev pub IsPastSyncs : List EntryValue → Loss → Type 0
IsPastSyncs h l = (before since : List EntryValue) (x : Call) → h ≡ before ++ calls x ∷ since → x.client ≡ l.client → syncs before x ≡ true → x.number < l.first

-- a failure of the node may lose these calls of a client
pub record MayLose (h : List EntryValue) (n : ℕ) (l : Loss) : Type 0 where
  pub on : IsOn h l.client n
  pub past : IsPastSyncs h l

-- the clients ascend
abbrev pub ClientsAscend : List Loss → Type 0
ClientsAscend losses = (before between behind : List Loss) (l m : Loss) → losses ≡ before ++ l ∷ (between ++ m ∷ behind) → l.client < m.client

-- ---- which entry may come next

-- clients are numbered from 1 in the order of their opening, and none is opened on a node that is down
pub record MayOpen (h : List EntryValue) (c n : ℕ) : Type 0 where
  pub next : c ≡ clients_opened h + 1
  pub up : IsDown h n → ⊥

-- a client's calls are numbered from 0, after its open and before its crash and its node's failure
pub record IsNextCall (h : List EntryValue) (x : Call) : Type 0 where
  pub ready : MayCall h x.client
  pub number : x.number ≡ calls_made x.client h

-- a failure of the node lists clients once each, by ascending numbers, and of each what it may lose
pub record IsFair (h : List EntryValue) (n : ℕ) (losses : List Loss) : Type 0 where
  pub ascending : ClientsAscend losses
  pub each : (lower higher : List Loss) (l : Loss) → losses ≡ lower ++ l ∷ higher → MayLose h n l

-- the entry may come next, whatever is kept then; a client that is alive may crash, and a node that is down may return
abbrev pub MayFollow : List EntryValue → EntryValue → Type 0
MayFollow h (opens c n u) = MayOpen h c n
MayFollow h (calls x) = IsNextCall h x
MayFollow h (crashes c) = IsAlive h c
MayFollow h (fails n losses) = IsFair h n losses
MayFollow h (returns n) = IsDown h n

-- the entry may come next, and the calls that are kept then are a run
pub record Fits (before : List EntryValue) (e : EntryValue) : Type 0 where
  pub follows : MayFollow before e
  pub run : IsRun opening (kept (before ++ e ∷ []))

-- each entry fits those before it
unfoldable pub IsLegal : List EntryValue → Type 0
IsLegal h = (before later : List EntryValue) (e : EntryValue) → h ≡ before ++ e ∷ later → Fits before e
