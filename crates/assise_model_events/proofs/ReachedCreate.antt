-- Client 1, on the first of two nodes, creates a file.
use Rattle.assise_model_events.proofs.Common.{◌≡◌, ◌≢◌, ℕ, ◌<◌, ◌≤◌, inl, inr, true, false, List, [], ◌∷◌, ◌++◌, length, Some, refl, ap, sym, subst, ◌∙◌, arith}
use Rattle.assise_model_events.proofs.Common.{cases_eq, Durability, Pessimistic, Write, Done, calls, calls_made, durability_of, durability-still, LogRecord}
use Rattle.assise_model_events.proofs.Common.{record_of, contains, new_lease, all_full, MakesCall, World, Full, end_of_log, step_at_home, CallsUnder, Leases}
use Rattle.assise_model_events.proofs.Common.{may_call_under, creation, create_op, first_step, step_is, Calling, Granted, IsAnswered, is_answered, last_leases}
use Rattle.assise_model_events.proofs.Common.{last_world, call_entry, replied, try_call, MachineInvariant, Machine, Comes, IsReached}
use Rattle.assise_model_events.proofs.Shared.EachEvent.{event_keeps}
use Rattle.assise_model_events.proofs.Steady.{old_call, with_old_areas}
use Rattle.assise_model_events.proofs.Trace.{HasLeases, IsOpen, is_open, is_open_as, leases_had, may, reaches, same_call, tried_creation}

-- the record of the call that creates it
abbrev pub file_record : LogRecord
file_record = record { call = 0; effects = first_step.effects }

-- client 1, which was opened on node 1, created a file; node 2 doesn't have its record
pub record HasFile (limit : ℕ) (m : Machine) : Type 0 where
  pub reached : IsReached limit m
  pub holds : MachineInvariant m
  pub limit_is : m.limit ≡ limit
  pub members : m.members ≡ all_full 2
  pub clients : m.world.clients ≡ 1
  pub home : m.world.home 1 ≡ 1
  pub lives : m.world.lives 1 ≡ true
  pub runs : m.world.crashed 1 ≡ false
  pub full : m.world.full ≡ 2 ∷ 1 ∷ []
  pub records : m.world.records 1 ≡ file_record ∷ []
  pub first : m.world.first 1 ≡ 0
  pub borders : (c k : ℕ) → k ≤ end_of_log m.world c → m.world.border c k ≡ true
  pub goal : m.world.goal 1 ≡ 0
  pub log_home : m.world.log 1 1 ≡ file_record ∷ []
  pub log_other : m.world.log 2 1 ≡ []
  pub received_home : m.world.received 1 1 ≡ 1
  pub received_other : m.world.received 2 1 ≡ 0
  pub digested : (n c : ℕ) → Full m.world n → m.world.digested n c ≡ 0
  pub home_known : m.leases.levels.home 1 ≡ Some 1
  pub clients_root : m.leases.levels.clients 0 ≡ new_lease 1 Write ∷ []
  pub nodes_root : m.leases.levels.nodes 0 ≡ new_lease 1 Write ∷ []

module _ (limit : ℕ) (m : Machine) (room : 0 < limit) (o : IsOpen limit m) (gs : List Granted) (h : HasLeases m gs) where
  abbrev w : World
  w = last_world m.world gs

  abbrev l : Leases
  l = last_leases m.leases gs

  called : (u : World) × CallsUnder w l creation u
  called = may_call_under w l creation h.rest.sound (may limit m o gs h)

  abbrev with_file : Machine
  with_file = record m { history = m.history ++ call_entry m.history 1 create_op Done; world = with_old_areas w called.0; leases = l }

  made_call : MakesCall w creation with_file.world
  made_call = old_call w called.0 creation called.1.call

  some_room : length (m.world.records 1) < m.limit
  some_room = (let none : length (m.world.records 1) ≡ 0 = ap length o.world.records in let at : m.limit ≡ limit = o.limit_is in omega (arith, none, at, room))

  answered : IsAnswered m creation gs with_file
  answered = record {
    tried = tried_creation limit m o gs h;
    call = record { call = made_call; visited = called.1.visited; changed = called.1.changed };
    room = λ effects. some_room;
    leases = refl;
    adds = record { history = refl; limit = refl; hot = refl };
    keeps = record { members = refl; others = h.rest.others };
  }

  calls_it : Calling m 1 create_op (replied Done) with_file
  calls_it = is_answered Done gs refl (subst (λ x. IsAnswered m x gs with_file) (same_call m o.world) answered)

  file_records : with_file.world.records 1 ≡ file_record ∷ []
  file_records = search (record_of, step_at_home, creation, step_is, arith) parts 3

  file_first : with_file.world.first 1 ≡ 0
  file_first = made_call.first 1 ∙ h.world.first

  file_end : end_of_log with_file.world 1 ≡ 1
  unfolding end_of_log
  file_end = rw (file_first, file_records) refl

  was_full : (n : ℕ) → Full with_file.world n → Full m.world n
  was_full n f = subst (λ ns. contains ns n ≡ true) (made_call.full ∙ h.rest.nodes.full) f

  there_full : (n : ℕ) → Full with_file.world n → Full w n
  there_full n f = subst (λ ns. contains ns n ≡ true) made_call.full f

  home_is : w.home 1 ≡ 1
  home_is = h.world.home

  log_at : with_file.world.log 1 1 ≡ file_record ∷ []
  log_at = grind (arith, creation, home_is, step_is)

  two_full : Full w 2
  two_full = rw h.world.full refl

  not_home : 2 ≡ w.home 1 → ⊥
  not_home is = (let two : 2 ≡ 1 = is ∙ home_is in omega (arith, two))

  border_old : (c k : ℕ) → k ≤ end_of_log w c → with_file.world.border c k ≡ true
  border_old c k low = made_call.border_old c k low ∙ h.rest.logs.border c k ∙ o.borders c k

  end_else : (c : ℕ) → c ≢ 1 → end_of_log with_file.world c ≡ end_of_log w c
  unfolding end_of_log
  end_else c other = rw (made_call.first c, made_call.records_else c other) refl

  below_one : (c k : ℕ) → c ≡ 1 → k ≤ end_of_log with_file.world c → k ≢ 1 → k ≤ end_of_log w c
  below_one c k is low before = grind (arith, file_end)

  border_at : (c k : ℕ) → k ≤ end_of_log with_file.world c → with_file.world.border c k ≡ true
  border_at c k low = elim (cases_eq c 1) [
    | inl is ↦ elim (cases_eq k 1) [
      | inl last ↦ subst (λ d. with_file.world.border d k ≡ true) (sym is)
          (subst (λ j. with_file.world.border 1 j ≡ true) (file_end ∙ sym last) made_call.border_new)
      | inr before ↦ border_old c k (below_one c k is low before)
    ]
    | inr other ↦ border_old c k (subst (λ j. k ≤ j) (end_else c other) low)
  ]

  of_call : HasFile limit with_file
  of_call = record {
    reached = reaches limit m with_file (try_call 1 create_op) (replied Done) o.reached calls_it;
    holds = event_keeps m with_file (try_call 1 create_op) (replied Done) o.holds calls_it;
    limit_is = o.limit_is;
    members = o.members;
    clients = made_call.clients.clients ∙ h.world.clients;
    home = made_call.clients.home 1 ∙ h.world.home;
    lives = made_call.clients.lives 1 ∙ h.world.lives;
    runs = made_call.clients.crashed 1 ∙ h.world.runs;
    full = made_call.full ∙ h.world.full;
    records = file_records;
    first = file_first;
    borders = border_at;
    goal = made_call.goals 1 ∙ h.goal ∙ o.goal;
    log_home = log_at;
    log_other = made_call.log_else 2 1 two_full (λ is own. not_home is) ∙ (h.rest.nodes.same 2 (rw o.world.full refl)).log 1 ∙ o.log 2 1 (rw o.world.full refl);
    received_home = subst (λ n. with_file.world.received n 1 ≡ end_of_log with_file.world 1) home_is made_call.received_home ∙ file_end;
    received_other = made_call.received_else 2 1 two_full (λ is own. not_home is) ∙ h.world.received;
    digested = λ n c f. made_call.digested n c (there_full n f) ∙ (h.rest.nodes.same n (was_full n f)).digested c ∙ o.digested n c (was_full n f);
    home_known = h.home_known;
    clients_root = h.clients_root;
    nodes_root = h.nodes_root;
  }

-- the client was opened so
pub has_file_as : (limit : ℕ) (u : Durability) → 0 < limit → (m : Machine) × (HasFile limit m × (durability_of 1 m.history ≡ u))
has_file_as limit u room =
    let (m, (o, was)) = is_open_as limit u in
    let (gs, h) = leases_had limit m o in (
    grind (
      arith,
      of_call limit m room o gs h,
      durability-still m.history
          (calls (record { client = 1; number = calls_made 1 m.history; op = create_op; reply = Done })) 1 refl,
    )
    )

pub has_file : (limit : ℕ) → 0 < limit → (m : Machine) × HasFile limit m
has_file limit room = (let (m, f) = has_file_as limit Pessimistic room in (m, f.0))

-- the call that creates it
pub file_made : (limit : ℕ) → 0 < limit → Comes (λ m m'. Calling m 1 create_op (replied Done) m')
file_made limit room =
    let (m, o) = is_open limit in
    let (gs, h) = leases_had limit m o in
    record { limit = limit; before = m; reached = o.reached; after = with_file limit m room o gs h; outcome = calls_it limit m room o gs h }
