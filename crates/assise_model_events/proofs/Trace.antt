-- How two nodes begin: client 1 is opened on node 1, and gets the leases that it needs to create a file.
use Rattle.assise_model_events.proofs.Common.{◌≡◌, ◌≢◌, ℕ, true, List, [], ◌∷◌, ◌++◌, Option, Some, None, refl, ap, sym, subst, ◌∙◌, arith, or_right}
use Rattle.assise_model_events.proofs.Common.{Durability, Pessimistic, Mode, Read, Write, Done, durability_of, has_some, contains, touched, Lease, new_lease}
use Rattle.assise_model_events.proofs.Common.{clients_granted, in_way, nodes_granted, is_free_for, all_full, World, Full, step_at_home, MayCallUnder, Grants}
use Rattle.assise_model_events.proofs.Common.{Leases, client_lease, is_held, is_written, may_grant, OtherAreasStay, IsNew, opened_new, creation, create_op}
use Rattle.assise_model_events.proofs.Common.{first_step, made_number, may_create, of_either, step_is, Opening, Granted, Gets, IsFirstMissing, IsTried}
use Rattle.assise_model_events.proofs.Common.{call_of_client, is_opened, is_refused, lacks_memory, last_leases, last_world, Answer, ClusterEvent, open_client}
use Rattle.assise_model_events.proofs.Common.{opened, call_fault, AllHappen, Happens, MachineInvariant, Machine, IsReached, IsMissing, HasServingLeases}
use Rattle.assise_model_events.proofs.Common.{begun_as}
use Rattle.assise_model_events.proofs.Shared.Answerable.{opened_can}
use Rattle.assise_model_events.proofs.Shared.StartKeeps.{begun_holds}
use Rattle.assise_model_events.proofs.Shared.EachEvent.{event_keeps}
use Rattle.assise_model_events.proofs.Shared.LeaseSteps.{Reached, begins, one_more}
use Rattle.assise_model_events.proofs.Steady.{old_grants, with_old_areas}

-- ---- what happens is reached

happens_next : (m v m' : Machine) (es : List (ClusterEvent × Answer)) (e : ClusterEvent) (a : Answer) → AllHappen m es v → Happens v e a m' →
    AllHappen m (es ++ (e, a) ∷ []) m'
happens_next m v m' [] e a same h = (m', (subst (λ u. Happens u e a m') same h, refl))
happens_next m v m' ((f, b) ∷ es) e a (u, (first, rest)) h = (u, (first, happens_next u v m' es e a rest h))

pub reaches : (limit : ℕ) (m m' : Machine) (e : ClusterEvent) (a : Answer) → IsReached limit m → Happens m e a m' → IsReached limit m'
reaches limit m m' e a r h = record { happened = r.happened ++ (e, a) ∷ []; trace = happens_next (begun_as 2 limit 1) m m' r.happened e a r.trace h }

-- ---- nothing happened

abbrev pub start : ℕ → Machine
start limit = begun_as 2 limit 1

pub start_holds : (limit : ℕ) → MachineInvariant (start limit)
start_holds limit = begun_holds 2 limit 1 (omega arith)

pub start_reached : (limit : ℕ) → IsReached limit (start limit)
start_reached limit = record { happened = []; trace = refl }

-- ---- client 1 is opened on node 1

-- nothing else happened
pub record IsOpen (limit : ℕ) (m : Machine) : Type 0 where
  pub reached : IsReached limit m
  pub holds : MachineInvariant m
  pub limit_is : m.limit ≡ limit
  pub members : m.members ≡ all_full 2
  pub world : IsNew m.world
  pub goal : m.world.goal 1 ≡ 0
  pub borders : (c k : ℕ) → m.world.border c k ≡ true
  pub log : (n c : ℕ) → Full m.world n → m.world.log n c ≡ []
  pub received : (n c : ℕ) → Full m.world n → m.world.received n c ≡ 0
  pub digested : (n c : ℕ) → Full m.world n → m.world.digested n c ≡ 0
  pub home_known : m.leases.levels.home 1 ≡ Some 1
  pub clients_none : (i : ℕ) → m.leases.levels.clients i ≡ []
  pub nodes_none : (i : ℕ) → m.leases.levels.nodes i ≡ []

of_opening : (limit : ℕ) (u : Durability) (m : Machine) → Opening (start limit) 1 u (opened 1) m → IsOpen limit m × (durability_of 1 m.history ≡ u)
of_opening limit u m (is_refused r fault is same) = cc
of_opening limit u m (lacks_memory fine is same) = cc
of_opening limit u m (is_opened fine is e) =
    let w : World = (start limit).world in
    let o = e.opening.opens in
    let there : (n : ℕ) → Full m.world n → Full w n = λ n f. subst (λ ns. contains ns n ≡ true) o.nodes.full f in (
      record {
        reached = reaches limit (start limit) m (open_client 1 u) (opened 1) (start_reached limit) (is_opened fine is e);
        holds = event_keeps (start limit) m (open_client 1 u) (opened 1) (start_holds limit) (is_opened fine is e);
        limit_is = e.adds.limit;
        members = e.keeps.members;
        world = opened_new m.world o;
        goal = o.goal_new;
        borders = o.logs.border;
        log = λ n c f. (o.nodes.same n (there n f)).log c;
        received = λ n c f. (o.nodes.same n (there n f)).received c;
        digested = λ n c f. (o.nodes.same n (there n f)).digested c;
        home_known = e.opening.enrols.home.here;
        clients_none = e.opening.enrols.clients;
        nodes_none = e.opening.enrols.nodes;
      },
      rw e.adds.history refl,
    )

-- it was opened so
pub is_open_as : (limit : ℕ) (u : Durability) → (m : Machine) × (IsOpen limit m × (durability_of 1 m.history ≡ u))
is_open_as limit u = (let (m, h) = opened_can (start limit) 1 u (start_holds limit) refl in (m, of_opening limit u m h))

pub is_open : (limit : ℕ) → (m : Machine) × IsOpen limit m
is_open limit = (let (m, o) = is_open_as limit Pessimistic in (m, o.0))

-- ---- it gets the leases that it needs to create a file

-- of the root, and of the file's inode
pub record HasLeases (m : Machine) (granted : List Granted) : Type 0 where
  pub gets : Gets creation m.world m.leases granted
  pub world : IsNew (last_world m.world granted)
  pub rest : Reached m (last_world m.world granted) (last_leases m.leases granted)
  pub goal : (last_world m.world granted).goal 1 ≡ m.world.goal 1
  pub home_known : (last_leases m.leases granted).levels.home 1 ≡ Some 1
  pub clients_root : (last_leases m.leases granted).levels.clients 0 ≡ new_lease 1 Write ∷ []
  pub nodes_root : (last_leases m.leases granted).levels.nodes 0 ≡ new_lease 1 Write ∷ []
  pub clients_own : (last_leases m.leases granted).levels.clients made_number ≡ new_lease 1 Write ∷ []
  -- and of no other
  pub clients_else : (i : ℕ) → i ≢ 0 → i ≢ made_number → (last_leases m.leases granted).levels.clients i ≡ []
  pub nodes_else : (i : ℕ) → i ≢ 0 → i ≢ made_number → (last_leases m.leases granted).levels.nodes i ≡ []

pub one_client : (mode : Mode) → clients_granted 1 mode [] ≡ new_lease 1 mode ∷ []
unfolding clients_granted
one_client mode = refl

one_node : (home : ℕ → Option ℕ) (mode : Mode) → nodes_granted home [] 1 mode [] ≡ new_lease 1 mode ∷ []
unfolding nodes_granted
one_node home mode = refl

-- a lease for reading becomes one for writing

client_raised : clients_granted 1 Write (new_lease 1 Read ∷ []) ≡ new_lease 1 Write ∷ []
unfolding clients_granted
client_raised = refl

node_raised : (home : ℕ → Option ℕ) (cs : List Lease) → nodes_granted home cs 1 Write (new_lease 1 Read ∷ []) ≡ new_lease 1 Write ∷ []
unfolding nodes_granted
node_raised home cs = refl

-- the first lease that its creation lacks
lacks : (w : World) (l : Leases) (i : ℕ) (mode : Mode) → IsNew w → IsFirstMissing l 1 first_step i mode → IsMissing w l creation i mode
lacks w l i mode n first = subst (λ t. IsFirstMissing l 1 t i mode) (sym (step_is w n)) first

own_not_root : made_number ≡ 0 → ⊥
own_not_root same = omega (arith, same)

-- the client is as new with leases as it was
still_new : (m : Machine) (w : World) (l : Leases) → IsNew m.world → Reached m w l → IsNew w
still_new m w l n r = grind arith

-- the client got one lease more
record GotOne (m : Machine) (w : World) (l : Leases) (i : ℕ) (mode : Mode) (u : World) (k : Leases) : Type 0 where
  pub grant : Grants w l 1 i mode u k
  pub others : OtherAreasStay w u
  pub reached : Reached m u k
  pub clients : k.levels.clients i ≡ clients_granted 1 mode (l.levels.clients i)
  pub nodes : k.levels.nodes i ≡ nodes_granted l.levels.home (l.levels.clients i) 1 mode (l.levels.nodes i)

gets_one : (m : Machine) (w : World) (l : Leases) (i : ℕ) (mode : Mode) → IsNew m.world → Reached m w l → is_free_for l.levels 1 (w.home 1) i mode ≡ true →
    (u : World) × (k : Leases) × GotOne m w l i mode u k
gets_one m w l i mode new r free =
    let n : IsNew w = still_new m w l new r in
    let (v, k, got) = may_grant w l 1 i mode (record { lives_on = n.lives; running = n.runs; free = free }) in
    let u : World = with_old_areas w v in
    let grant : Grants w l 1 i mode u k = old_grants w v l k 1 i mode got in (
      u,
      k,
      record {
        grant = grant;
        others = λ j o away. refl;
        reached = one_more m creation w l (record { inode = i; mode = mode; world = u; leases = k }) r grant (λ j o away. refl);
        clients = grant.granted.clients.here;
        nodes = grant.granted.nodes.here ∙ ap (λ h. nodes_granted l.levels.home (l.levels.clients i) h mode (l.levels.nodes i)) n.home;
      },
    )

module _ (limit : ℕ) (m : Machine) (o : IsOpen limit m) where
  -- the root for reading
  read : (u : World) × (k : Leases) × GotOne m m.world m.leases 0 Read u k
  read = gets_one m m.world m.leases 0 Read o.world (begins m o.holds) (rw (o.clients_none 0, o.nodes_none 0) refl)

  read_clients : read.1.levels.clients 0 ≡ new_lease 1 Read ∷ []
  read_clients = read.2.clients ∙ ap (clients_granted 1 Read) (o.clients_none 0) ∙ one_client Read

  read_nodes : read.1.levels.nodes 0 ≡ new_lease 1 Read ∷ []
  read_nodes = grind (arith, one_node)

  no_client : read.1.levels.clients made_number ≡ []
  no_client = read.2.grant.granted.clients.elsewhere made_number own_not_root ∙ o.clients_none made_number

  no_node : read.1.levels.nodes made_number ≡ []
  no_node = read.2.grant.granted.nodes.elsewhere made_number own_not_root ∙ o.nodes_none made_number

  -- the file's inode for writing
  own : (u : World) × (k : Leases) × GotOne m read.0 read.1 made_number Write u k
  own = gets_one m read.0 read.1 made_number Write o.world read.2.reached (rw (no_client, no_node) refl)

  own_clients : own.1.levels.clients made_number ≡ new_lease 1 Write ∷ []
  own_clients = own.2.clients ∙ ap (clients_granted 1 Write) no_client ∙ one_client Write

  still_clients : own.1.levels.clients 0 ≡ new_lease 1 Read ∷ []
  still_clients = own.2.grant.granted.clients.elsewhere 0 (λ same. own_not_root (sym same)) ∙ read_clients

  still_nodes : own.1.levels.nodes 0 ≡ new_lease 1 Read ∷ []
  still_nodes = own.2.grant.granted.nodes.elsewhere 0 (λ same. own_not_root (sym same)) ∙ read_nodes

  free_root : is_free_for own.1.levels 1 (own.0.home 1) 0 Write ≡ true
  unfolding in_way
  free_root = rw (still_clients, still_nodes, (still_new m own.0 own.1 o.world own.2.reached).home) refl

  -- the root for writing
  root : (u : World) × (k : Leases) × GotOne m own.0 own.1 0 Write u k
  root = gets_one m own.0 own.1 0 Write o.world own.2.reached free_root

  abbrev all : List Granted
  all =
      record { inode = 0; mode = Read; world = read.0; leases = read.1 }
      ∷ record { inode = made_number; mode = Write; world = own.0; leases = own.1 }
      ∷ record { inode = 0; mode = Write; world = root.0; leases = root.1 }
      ∷ []

  gets_all : Gets creation m.world m.leases all
  gets_all = (
    lacks m.world m.leases 0 Read o.world (rw (o.clients_none 0) refl),
    read.2.grant,
    read.2.others,
    (
      lacks read.0 read.1 made_number Write (still_new m read.0 read.1 o.world read.2.reached) (rw (read_clients, no_client) refl),
      own.2.grant,
      own.2.others,
      (lacks own.0 own.1 0 Write (still_new m own.0 own.1 o.world own.2.reached) (rw (still_clients, own_clients) refl), root.2.grant, root.2.others, tt),
    ),
  )

  has_leases : HasLeases m all
  has_leases = record {
    gets = gets_all;
    world = still_new m root.0 root.1 o.world root.2.reached;
    rest = root.2.reached;
    goal = root.2.grant.holds.goals 1 ∙ own.2.grant.holds.goals 1 ∙ read.2.grant.holds.goals 1;
    home_known = root.2.grant.granted.home 1 ∙ own.2.grant.granted.home 1 ∙ read.2.grant.granted.home 1 ∙ o.home_known;
    clients_root = root.2.clients ∙ ap (clients_granted 1 Write) still_clients ∙ client_raised;
    nodes_root =
        root.2.nodes ∙ ap (nodes_granted own.1.levels.home (own.1.levels.clients 0) 1 Write) still_nodes
        ∙ node_raised own.1.levels.home (own.1.levels.clients 0);
    clients_own = root.2.grant.granted.clients.elsewhere made_number own_not_root ∙ own_clients;
    clients_else = λ i rest file.
        root.2.grant.granted.clients.elsewhere i rest ∙ own.2.grant.granted.clients.elsewhere i file ∙ read.2.grant.granted.clients.elsewhere i rest
        ∙ o.clients_none i;
    nodes_else = λ i rest file.
        root.2.grant.granted.nodes.elsewhere i rest ∙ own.2.grant.granted.nodes.elsewhere i file ∙ read.2.grant.granted.nodes.elsewhere i rest ∙ o.nodes_none i;
  }

  pub leases_had : (gs : List Granted) × HasLeases m gs
  leases_had = (all, has_leases)

-- ---- with them it may create one

pub same_call : (m : Machine) → IsNew m.world → creation ≡ call_of_client m.world 1 create_op Done
same_call m n = rw (n.next, n.made) refl

module _ (limit : ℕ) (m : Machine) (o : IsOpen limit m) (gs : List Granted) (h : HasLeases m gs) where
  abbrev w : World
  w = last_world m.world gs

  abbrev l : Leases
  l = last_leases m.leases gs

  serves_both : (i : ℕ) → contains (made_number ∷ 0 ∷ []) i ≡ true → client_lease l 1 i ≡ Some (new_lease 1 Write)
  serves_both i there = of_either (λ j. client_lease l 1 j ≡ Some (new_lease 1 Write)) made_number 0 i (rw h.clients_own refl) (rw h.clients_root refl) there

  visits : (i : ℕ) → contains (step_at_home w creation).visits i ≡ true → contains (made_number ∷ 0 ∷ []) i ≡ true
  visits i there = grind (arith, step_is, or_right, made_number)

  changes : (i : ℕ) → contains (touched (step_at_home w creation).effects) i ≡ true → contains (made_number ∷ 0 ∷ []) i ≡ true
  changes i there = subst (λ t. contains (touched t.effects) i ≡ true) (step_is w h.world) there

  pub may : MayCallUnder w l creation
  may = record {
    may = may_create w h.world
        (λ i there. h.rest.leases.held.holds 1 i ∙ ap is_held (serves_both i there))
        (λ i there. h.rest.leases.held.writes 1 i ∙ ap is_written (serves_both i there));
    visited = λ i there. (let is : client_lease l 1 i ≡ Some (new_lease 1 Write) = serves_both i (visits i there) in rw is refl);
    changed = λ i there. (let is : client_lease l 1 i ≡ Some (new_lease 1 Write) = serves_both i (changes i there) in rw is refl);
  }

  client_fine : call_fault m 1 create_op ≡ None
  client_fine = rw (o.world.clients, o.world.lives, o.world.runs) refl

  -- the call is tried, with these leases
  pub tried_creation : IsTried m creation gs
  tried_creation = record { fine = client_fine; next = sym o.world.next; fresh = rw o.world.made refl; gets = h.gets }

  pub tried : IsTried m (call_of_client m.world 1 create_op Done) gs
  tried = subst (λ x. IsTried m x gs) (same_call m o.world) tried_creation

  served_creation : HasServingLeases w l creation
  served_creation = record { visited = may.visited; changed = may.changed }

  pub served : HasServingLeases w l (call_of_client m.world 1 create_op Done)
  served = subst (λ x. HasServingLeases w l x) (same_call m o.world) served_creation

  pub has_effects : has_some (step_at_home w (call_of_client m.world 1 create_op Done)).effects ≡ true
  has_effects = subst (λ x. has_some (step_at_home w x).effects ≡ true) (same_call m o.world) (ap (λ t. has_some t.effects) (step_is w h.world))
