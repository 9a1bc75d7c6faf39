-- The leases that a call takes, one after another: each is a step that no entry tells of, and leaves all but leases as it is.
use Rattle.assise_model_events.proofs.Common.{◌≡◌, ℕ, true, List, [], ◌∷◌, refl, sym, subst, ◌∙◌, arith, contains, NumberedCall, Acquires, WorldInvariant}
use Rattle.assise_model_events.proofs.Common.{AreDropped, SameLogs, SameClients, SameNode, SameNodes, World, Full, acquire_sound, still_dropped, Grants, Leases}
use Rattle.assise_model_events.proofs.Common.{AreLeases, OtherAreasStay, IsTrace, last_of, acquires, State, Granted, Gets, last_world, last_leases, Leads}
use Rattle.assise_model_events.proofs.Common.{Machine, MachineInvariant, Adds, state_of}
use Rattle.assise_model_leases.proofs.Shared.GrantKeeps.{grant_acquires, grant_keeps}
use Rattle.assise_model_events.proofs.Shared.EventTraces.{leads_recorded, with_world, quietly}
use Rattle.assise_model_events.proofs.Members.{members_rest, epochs_stay, logs_stay}

-- ---- what stays over two steps

pub logs_after : (w v u : World) → SameLogs w v → SameLogs v u → SameLogs w u
logs_after w v u a b = grind arith

pub clients_after : (w v u : World) → SameClients w v → SameClients v u → SameClients w u
clients_after w v u a b = grind arith

pub full_after : (w v : World) (n : ℕ) → v.full ≡ w.full → Full w n → Full v n
full_after w v n same f = subst (λ ns. contains ns n ≡ true) (sym same) f

node_after : (w v u : World) (n : ℕ) → SameNode w v n → SameNode v u n → SameNode w u n
node_after w v u n a b = grind arith

pub nodes_after : (w v u : World) → SameNodes w v → SameNodes v u → SameNodes w u
nodes_after w v u a b = record { full = b.full ∙ a.full; same = λ n f. node_after w v u n (a.same n f) (b.same n (full_after w v n a.full f)) }

-- ---- what a call comes to before it is answered

-- leases may have changed, and nothing else that matters has
pub record Reached (m : Machine) (w : World) (l : Leases) : Type 0 where
  pub sound : WorldInvariant w
  pub dropped : AreDropped w
  pub leases : AreLeases w l
  pub logs : SameLogs m.world w
  pub clients : SameClients m.world w
  pub nodes : SameNodes m.world w
  pub others : OtherAreasStay m.world w

pub begins : (m : Machine) → MachineInvariant m → Reached m m.world m.leases
begins m h = grind arith

module _ (m : Machine) (x : NumberedCall) (w : World) (l : Leases) (g : Granted) (r : Reached m w l) (e : Grants w l x.client g.inode g.mode g.world g.leases)
  where
    acquired : Acquires w x.client g.inode g.mode g.world
    acquired = grant_acquires w g.world l g.leases x.client g.inode g.mode r.leases e

    pub one_more : OtherAreasStay w g.world → Reached m g.world g.leases
    one_more others = record {
      sound = acquire_sound w g.world x.client g.inode g.mode r.sound acquired;
      dropped = still_dropped w g.world acquired.logs acquired.nodes r.dropped;
      leases = grant_keeps w g.world l g.leases x.client g.inode g.mode r.leases e r.sound;
      logs = logs_after m.world w g.world r.logs acquired.logs;
      clients = clients_after m.world w g.world r.clients acquired.clients;
      nodes = nodes_after m.world w g.world r.nodes acquired.nodes;
      others = λ k i away. others k i (λ f. away (subst (λ ns. contains ns k ≡ true) r.nodes.full f)) ∙ r.others k i away;
    }

all_more : (m : Machine) (x : NumberedCall) (w : World) (l : Leases) (gs : List Granted) → Reached m w l → Gets x w l gs →
    Reached m (last_world w gs) (last_leases l gs)
all_more m x w l [] r none = r
all_more m x w l (g ∷ gs) r (missing, grant, others, more) = all_more m x g.world g.leases gs (one_more m x w l g r grant others) more

pub comes_to : (m : Machine) (x : NumberedCall) (gs : List Granted) → MachineInvariant m → Gets x m.world m.leases gs →
    Reached m (last_world m.world gs) (last_leases m.leases gs)
comes_to m x gs h gets = all_more m x m.world m.leases gs (begins m h) gets

-- ---- their trace

-- a state for each lease, and then others
abbrev pub states_of : Machine → List Granted → List State → List State
states_of m [] rest = rest
states_of m (g ∷ gs) rest = with_world m g.world ∷ states_of m gs rest

trace_from : (m : Machine) (x : NumberedCall) (w : World) (l : Leases) (gs : List Granted) (rest : List State) → Reached m w l → Gets x w l gs →
    IsTrace (with_world m (last_world w gs)) rest → IsTrace (with_world m w) (states_of m gs rest)
trace_from m x w l [] rest r none c = c
trace_from m x w l (g ∷ gs) rest r (missing, grant, others, more) c = grind (
  arith,
  trace_from m x g.world g.leases gs rest (one_more m x w l g r grant others) more c,
  quietly m w g.world
      (acquires x.client g.inode g.mode (acquired m x w l g r grant)),
)

last_from : (m : Machine) (w : World) (gs : List Granted) (rest : List State) → last_of (with_world m w) (states_of m gs rest)
    ≡ last_of (with_world m (last_world w gs)) rest
last_from m w [] rest = refl
last_from m w (g ∷ gs) rest = last_from m g.world gs rest

pub leads_with : (m m' : Machine) (x : NumberedCall) (gs : List Granted) (rest : List State) → MachineInvariant m → Gets x m.world m.leases gs →
    IsTrace (with_world m (last_world m.world gs)) rest → last_of (with_world m (last_world m.world gs)) rest ≡ state_of m' → Leads m m'
leads_with m m' x gs rest h gets trace last = grind (arith, trace_from, begins, last_from)

-- ---- what holds there

pub reached_holds : (m m' : Machine) → MachineInvariant m → Leads m m' → Reached m m'.world m'.leases → Adds m [] m' → m'.members ≡ m.members →
    MachineInvariant m'
reached_holds m m' h leads r adds members = search (leads_recorded, members_rest, epochs_stay, logs_stay, arith) parts 3
