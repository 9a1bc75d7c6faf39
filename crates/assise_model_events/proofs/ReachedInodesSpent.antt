-- Client 1 of two nodes creates a file and unlinks it, again and again, until it has made as many inodes as it may.
use Rattle.assise_model_events.proofs.Common.{◌≡◌, ◌≢◌, ℕ, zero, suc, ◌+◌, ◌<◌, ◌≤◌, true, false, List, [], ◌∷◌, length, Some, refl, ap, sym, subst, ◌∙◌, arith}
use Rattle.assise_model_events.proofs.Common.{eq-eqb, or_right, list_any, Op, Mode, Write, InodesSpent, Done, has_some, regular, directory, contains, touched}
use Rattle.assise_model_events.proofs.Common.{value_after, makes, inode_number, NumberedCall, new_lease, serves, clients_granted, World, call_makes_inode}
use Rattle.assise_model_events.proofs.Common.{step_at_home, view, Grants, Leases, client_lease, may_grant, OtherAreasStay, create_op, create_step, creates}
use Rattle.assise_model_events.proofs.Common.{empty_root, no_links, of_either, sees_root, Calling, Granted, Gets, IsMissing, HasServingLeases, is_spent}
use Rattle.assise_model_events.proofs.Common.{last_leases, last_world, refused, Machine, Comes}
use Rattle.assise_model_events.proofs.Trace.{HasLeases, IsOpen, is_open, leases_had, one_client, same_call}
use Rattle.assise_model_events.proofs.Shared.LeaseSteps.{Reached, comes_to}
use Rattle.assise_model_events.proofs.Steady.{with_old_areas, old_grants}
use Rattle.assise_model_events.proofs.Shared.LackAnswerable.{keeps_them, with_granted}
use Rattle.assise_model_events.proofs.Rounds.{IsDone, MayDo, Runs, Stands, done, file_after_create, next_call, no_fault, one_link, reads_same}
use Rattle.assise_model_events.proofs.Rounds.{root_after_create, root_after_unlink, unlink_op, unlink_step, unlinks}

-- ---- leases that nobody has

-- the client gets a lease of inode i for writing
record TakesNew (m : Machine) (i : ℕ) (u : World) (k : Leases) : Type 0 where
  pub grant : Grants m.world m.leases 1 i Write u k
  pub others : OtherAreasStay m.world u
  pub lease : k.levels.clients i ≡ new_lease 1 Write ∷ []

takes_new : (m : Machine) (i : ℕ) → Runs m.world → m.leases.levels.clients i ≡ [] → m.leases.levels.nodes i ≡ [] → (u : World) × (k : Leases) × TakesNew m i u k
takes_new m i s no_client no_node =
    let (u, k, grant) = may_grant m.world m.leases 1 i Write (record { lives_on = s.lives; running = s.running; free = rw (no_client, no_node) refl }) in (
    grind (arith, with_old_areas m.world u, old_grants m.world u m.leases k 1 i Write grant, clients_granted 1 Write, one_client Write)
    )

-- ---- between rounds

abbrev IsHeld : Machine → ℕ → Type 0
IsHeld m i = m.leases.levels.clients i ≡ new_lease 1 Write ∷ []

-- nobody has a lease of the inodes that the client didn't make yet
record AreFree (made : ℕ) (l : Leases) : Type 0 where
  pub clients : (j : ℕ) → made ≤ j → l.levels.clients (inode_number 1 j) ≡ []
  pub nodes : (j : ℕ) → made ≤ j → l.levels.nodes (inode_number 1 j) ≡ []

-- the client made `made` inodes, and reads an empty root
record HasMade (limit made : ℕ) (m : Machine) : Type 0 where
  pub stands : Stands limit m
  pub made_is : m.world.made 1 ≡ made
  pub records : length (m.world.records 1) ≤ made + made
  pub root : view m.world 1 1 0 ≡ Some (directory no_links)
  pub root_held : IsHeld m 0
  pub rest : AreFree made m.leases

-- it made one more, a file i in the root
record HasFile (limit made i : ℕ) (m : Machine) : Type 0 where
  pub stands : Stands limit m
  pub made_is : m.world.made 1 ≡ suc made
  pub records : length (m.world.records 1) ≤ suc (made + made)
  pub not_root : i ≢ 0
  pub root : view m.world 1 1 0 ≡ Some (directory (one_link i))
  pub file : view m.world 1 1 i ≡ Some (regular [])
  pub root_held : IsHeld m 0
  pub file_held : IsHeld m i
  pub rest : AreFree (suc made) m.leases

-- ---- it creates a file

-- its lease serves for both
serves_own : (l : Leases) (i : ℕ) (mode : Mode) → l.levels.clients i ≡ new_lease 1 Write ∷ [] → serves (client_lease l 1 i) mode ≡ true
serves_own l i mode is = rw is refl

creates_at : (m : Machine) (w : World) → w.home 1 ≡ 1 → view w 1 1 0 ≡ Some (directory no_links) → step_at_home w (next_call m create_op)
    ≡ create_step (next_call m create_op).fresh
creates_at m w home root = creates (view w (w.home 1) 1) (next_call m create_op).fresh (subst (λ n. view w n 1 0 ≡ Some (directory no_links)) (sym home) root)

file_not_root : (k : ℕ) → inode_number 1 k ≢ 0
file_not_root k same = omega (arith, same)

files_differ : (j k : ℕ) → k < j → inode_number 1 j ≢ inode_number 1 k
files_differ j k less same = omega (arith, less, same)

-- the client made `made` inodes, reads an empty root, and gets what it needs to create a file
record MayCreate (limit made : ℕ) (m : Machine) (gs : List Granted) : Type 0 where
  pub stands : Stands limit m
  pub made_is : m.world.made 1 ≡ made
  pub records : length (m.world.records 1) ≤ made + made
  pub root : view m.world 1 1 0 ≡ Some (directory no_links)
  pub gets : Gets (next_call m create_op) m.world m.leases gs
  pub root_held : (last_leases m.leases gs).levels.clients 0 ≡ new_lease 1 Write ∷ []
  pub file_held : (last_leases m.leases gs).levels.clients (next_call m create_op).fresh ≡ new_lease 1 Write ∷ []
  pub rest : AreFree (suc made) (last_leases m.leases gs)

module _ (limit made : ℕ) (m : Machine) (gs : List Granted) (h : MayCreate limit made m gs) where
  abbrev creation : NumberedCall
  creation = next_call m create_op

  abbrev fresh : ℕ
  fresh = creation.fresh

  abbrev w : World
  w = last_world m.world gs

  abbrev l : Leases
  l = last_leases m.leases gs

  got : Reached m w l
  got = comes_to m creation gs h.stands.holds h.gets

  creates_there : step_at_home w creation ≡ create_step fresh
  creates_there = creates_at m w (got.clients.home 1 ∙ h.stands.runs.home) (reads_same m w l 0 h.stands.runs got ∙ h.root)

  holds_both : (i : ℕ) → contains (fresh ∷ 0 ∷ []) i ≡ true → l.levels.clients i ≡ new_lease 1 Write ∷ []
  holds_both i there = of_either (λ j. l.levels.clients j ≡ new_lease 1 Write ∷ []) fresh 0 i h.file_held h.root_held there

  create_served : HasServingLeases w l creation
  create_served = grind (arith, serves_own, holds_both, or_right, creates_there)

  create_makes : call_makes_inode w creation ≡ true
  create_makes = subst (λ t. list_any (makes fresh) t.effects ≡ true) (sym creates_there) (rw (eq-eqb fresh fresh refl) refl)

  may_create : made + made < limit → made < 1048576 → MayDo limit m create_op gs
  may_create room small = grind (arith, creates_there, has_some, create_served, makes)

  of_create : (m' : Machine) → IsDone limit m create_op gs m' → HasFile limit made fresh m'
  of_create m' d = search (create_makes, file_not_root, value_after, view, creates_there, create_step, root_after_create, file_after_create, arith) parts 3

  creates_file : made + made < limit → made < 1048576 → (i : ℕ) × (m' : Machine) × HasFile limit made i m'
  creates_file room small = (let (m', d) = done limit m create_op gs h.stands (may_create room small) (λ u happens. happens) in (fresh, m', of_create m' d))

-- where it holds the root it gets the file's inode alone
module _ (limit made : ℕ) (m : Machine) (h : HasMade limit made m) where
  abbrev next : ℕ
  next = (next_call m create_op).fresh

  no_client : m.leases.levels.clients next ≡ []
  no_client = h.rest.clients (m.world.made 1) (let is = h.made_is in omega (arith, is))

  no_node : m.leases.levels.nodes next ≡ []
  no_node = h.rest.nodes (m.world.made 1) (let is = h.made_is in omega (arith, is))

  new : (u : World) × (k : Leases) × TakesNew m next u k
  new = takes_new m next h.stands.runs no_client no_node

  abbrev next_lease : List Granted
  next_lease = record { inode = next; mode = Write; world = new.0; leases = new.1 } ∷ []

  lacks_next : IsMissing m.world m.leases (next_call m create_op) next Write
  lacks_next = grind (arith, create_step, no_client, creates_at)

  other : (j : ℕ) → suc made ≤ j → inode_number 1 j ≢ next
  other j low = files_differ j (m.world.made 1) (let is = h.made_is in omega (arith, low, is))

  creates_next : MayCreate limit made m next_lease
  creates_next = search (lacks_next, file_not_root, inode_number, other, arith) parts 3

-- ---- and unlinks it

module _ (limit made i : ℕ) (m : Machine) (h : HasFile limit made i m) where
  abbrev unlinking : NumberedCall
  unlinking = next_call m unlink_op

  unlinks_it : step_at_home m.world unlinking ≡ unlink_step i
  unlinks_it =
      let home : 1 ≡ m.world.home 1 = sym h.stands.runs.home in
      unlinks (view m.world (m.world.home 1) 1) i unlinking.fresh (subst (λ n. view m.world n 1 0 ≡ Some (directory (one_link i))) home h.root)
      (subst (λ n. view m.world n 1 i ≡ Some (regular [])) home h.file)

  holds_them : (j : ℕ) → contains (0 ∷ i ∷ []) j ≡ true → IsHeld m j
  holds_them j there = of_either (IsHeld m) 0 i j h.root_held h.file_held there

  makes_none : call_makes_inode m.world unlinking ≡ false
  makes_none = ap (λ t. list_any (makes unlinking.fresh) t.effects) unlinks_it

  may_unlink : suc (made + made) < limit → MayDo limit m unlink_op []
  may_unlink room = grind (arith, unlinks_it, has_some, serves_own, holds_them, contains, touched, makes, call_makes_inode, makes_none)

  of_unlink : (m' : Machine) → IsDone limit m unlink_op [] m' → HasMade limit (suc made) m'
  of_unlink m' d = search (makes_none, value_after, view, unlinks_it, unlink_step, root_after_unlink, arith) parts 3

  unlinks_file : suc (made + made) < limit → (m' : Machine) × HasMade limit (suc made) m'
  unlinks_file room = (let (m', d) = done limit m unlink_op [] h.stands (may_unlink room) (λ u happens. happens) in (m', of_unlink m' d))

-- ---- rounds, from the start

-- the client, which was opened, gets the root, too
module _ (limit : ℕ) (m : Machine) (o : IsOpen limit m) (gs : List Granted) (h : HasLeases m gs) where
  opened_runs : Runs m.world
  opened_runs = search (arith) parts 3

  first_number : (next_call m create_op).fresh ≡ inode_number 1 0
  first_number = ap (inode_number 1) o.world.made

  creates_first : MayCreate limit 0 m gs
  creates_first = search (
    opened_runs,
    view,
    directory,
    no_links,
    sees_root,
    empty_root,
    same_call,
    last_leases,
    new_lease,
    first_number,
    inode_number,
    file_not_root,
    files_differ,
    arith,
  ) parts 3

-- it creates a file and unlinks it
round : (limit made : ℕ) (m : Machine) (gs : List Granted) → suc (made + made) < limit → made < 1048576 → MayCreate limit made m gs →
    (m' : Machine) × HasMade limit (suc made) m'
round limit made m gs room small h =
    let (i, v, f) = creates_file limit made m gs h (omega (arith, room)) small in
    unlinks_file limit made i v f room

made_so_many : (limit more : ℕ) → suc more ≤ 1048576 → suc more + suc more ≤ limit → (m : Machine) × HasMade limit (suc more) m
made_so_many limit zero few room =
    let (m, o) = is_open limit in
    let (gs, h) = leases_had limit m o in
    round limit 0 m gs (omega (arith, room)) (omega arith) (creates_first limit m o gs h)
made_so_many limit (suc more) few room =
    let (m, h) = made_so_many limit more (omega (arith, few)) (omega (arith, room)) in
    round limit (suc more) m (next_lease limit (suc more) m h) (omega (arith, room)) (omega (arith, few)) (creates_next limit (suc more) m h)

-- ---- all are made

refused_at : (limit : ℕ) (m : Machine) (gs : List Granted) (h : MayCreate limit 1048576 m gs) → Calling m 1 create_op (refused InodesSpent) (with_granted m gs)
refused_at limit m gs h =
    is_spent Done gs refl (grind (arith, no_fault m create_op h.stands.runs refl, create_served limit 1048576 m gs h, create_makes limit 1048576 m gs h))
    (keeps_them m gs)

-- a call that would make one more is refused
pub spent_comes : (op : Op) × Comes (λ m m'. Calling m 1 op (refused InodesSpent) m')
spent_comes =
    let (m, h) = made_so_many 2097152 1048575 (omega arith) (omega arith) in
    let gs : List Granted = next_lease 2097152 1048576 m h in (
      create_op,
      record {
        limit = 2097152;
        before = m;
        reached = h.stands.reached;
        after = with_granted m gs;
        outcome =
            refused_at 2097152 m gs (creates_next 2097152 1048576 m h);
      },
    )
