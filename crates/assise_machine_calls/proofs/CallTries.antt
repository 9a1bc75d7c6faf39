-- A call that is tried: what it finds, what it lacks, and what it comes to.
use Rattle.assise_machine_calls.proofs.Common.{◌≡◌, ℕ, ◌<◌, true, false, not, ◌&&◌, ◌||◌, ◌==◌, List, [], ◌∷◌, ◌++◌, Option, Some, None, inl, inr, refl, ap}
use Rattle.assise_machine_calls.proofs.Common.{sym, subst, ◌∙◌, append-nil, eq-eqb, ∥∥₁_elim, ∥∥₁_map, cases_Bool, cases_eq, and_parts, ne_eqb, not-true}
use Rattle.assise_machine_calls.proofs.Common.{or_right, Coded-set, coded_option, list_any, Op, Create, Mkdir, ReadCall, WriteCall, Truncate, Rename, Unlink}
use Rattle.assise_machine_calls.proofs.Common.{Rmdir, ListCall, Stat, Fsync, Dsync, Pessimistic, Mode, Read, Write, Refusal, OutOfMemory, Done, durability_of}
use Rattle.assise_machine_calls.proofs.Common.{AreLeased, Leased, first_missing, for_reading, for_writing, wants, Plan, missing, plan_lacking, ready}
use Rattle.assise_machine_calls.proofs.Common.{visited_plan_of, contains, touched, Step, inode_number, Lease, lease_of, new_lease, serves, strong, stronger}
use Rattle.assise_machine_calls.proofs.Common.{SameRevokers, NumberedLog, with_own, clients_granted, in_way, is_revoked, raised_mode, IsGranted, SameLevels}
use Rattle.assise_machine_calls.proofs.Common.{TwoLevels, is_free_for, World, undigested_records, view, Grants, client_lease, Calling, IsMissing, is_awaited}
use Rattle.assise_machine_calls.proofs.Common.{lacks_memory, Answer, not_yet, refused, call_fault, Trying, MachineInvariant, Machine, calling_keeps}
use Rattle.assise_machine_calls.proofs.Common.{client_runs, after_leases, client_in, inodes_read, observed, own_seen, world_of, IsNumber, CutsInvariant}
use Rattle.assise_machine_calls.proofs.Common.{ShapeInvariant, SameRevoked, StateValue, leases_of, leases_noted, areas_stay, leases_held, AsksThem}
use Rattle.assise_machine_calls.proofs.Common.{CutsAreAnswers, GotLeases, IsReady, IsVisited, NeverSyncs, next_call, next_step}
use Rattle.std.specs.FinMap as map
use Rattle.assise_inode_plan.proofs.Shared.LackedLeases.{ready_has_all}
use Rattle.assise_inode_table.specs.Calls.{step}
use Rattle.assise_inode_table.specs.Contents.{InodeMap, coded_content, values}
use Rattle.assise_machine_state.proofs.Shared.ReadObserved.{read_at_home}
use Rattle.assise_machine_calls.proofs.AnsweredCuts.{KeepsRevoked, revoked_later}
use Rattle.assise_machine_calls.proofs.CallCommits.{call_client, call_number}
use Rattle.assise_machine_calls.proofs.Granted.{granted_first}
use Rattle.assise_machine_calls.proofs.FewerLacked.{fewer, unserved}

-- ---- nothing is granted

-- memory runs out before the call changes anything
pub lacking : (m : Machine) (c : ℕ) (op : Op) → call_fault m c op ≡ None → Calling m c op (refused OutOfMemory) m
lacking m c op fine = lacks_memory Done [] refl (record { fine = fine; next = refl; fresh = refl; gets = tt }) (record {
  world = refl;
  leases = refl;
  members = refl;
  adds = record { history = sym (append-nil m.history); limit = refl; hot = refl };
})

pub lacking_as : (m m' : Machine) (c : ℕ) (op : Op) (a : Answer) (r : Refusal) → call_fault m c op ≡ None → a ≡ refused r → r ≡ OutOfMemory → m' ≡ m →
    Calling m c op a m'
lacking_as m m' c op a r fine is only same =
    subst (λ b. Calling m c op b m') (sym (is ∙ ap refused only)) (subst (λ n. Calling m c op (refused OutOfMemory) n) (sym same) (lacking m c op fine))

-- those who stand in the way are asked
pub awaited : (m m' : Machine) (c : ℕ) (op : Op) (i : ℕ) (mode : Mode) (n : ℕ) → call_fault m c op ≡ None → IsMissing m.world m.leases (next_call m.world c op)
    i mode →
    AsksThem m (record { client = c; node = n; inode = i; mode = mode }) m' → Calling m c op not_yet m'
awaited m m' c op i mode n fine lacks e = is_awaited Done [] refl (record {
  tried = record { fine = fine; next = refl; fresh = refl; gets = tt };
  inode = i;
  mode = mode;
  missing = lacks;
  asks = e.asks;
  adds = e.adds;
  keeps = e.keeps;
})

-- ---- leases that a step wants

first_lacks : (s : Step) (o : Option (ℕ × Mode)) (i : ℕ) (mode : Mode) → plan_lacking s o ≡ missing i mode → o ≡ Some (i, mode)
first_lacks s None i mode e = cc
first_lacks s (Some w) i mode e =
    let number : w.0 ≡ i = cc in
    let kind : w.1 ≡ mode = cc in
    ap (λ j. Some (j, w.1)) number ∙ ap (λ m. Some (i, m)) kind

-- an inode of a list or of the rest of it is in it
in_rest : (j : ℕ) (is : List ℕ) (i : ℕ) → contains is i ≡ true → contains (j ∷ is) i ≡ true
in_rest j is i rest = or_right (j == i) (contains is i) rest

in_prefix : (j : ℕ) (is : List ℕ) (i : ℕ) → j ≡ i → contains (j ∷ is) i ≡ true
in_prefix j is i same = rw (eq-eqb j i same) refl

-- what is all leased serves for each
serves_writing : (leased : Leased) (js : List ℕ) → AreLeased leased (for_writing js) → (i : ℕ) → contains js i ≡ true → leased i Write ≡ true
serves_writing leased [] all i found = cc
serves_writing leased (j ∷ js) all i found =
    elim (cases_eq j i) [
      | inl same ↦ subst (λ k. leased k Write ≡ true) same all.0
      | inr other ↦ serves_writing leased js all.1 i (subst (λ b. (b || contains js i) ≡ true) (ne_eqb j i other) found)
    ]

serves_reading : (leased : Leased) (is : List ℕ) → AreLeased leased (for_reading is) → (i : ℕ) → contains is i ≡ true → leased i Read ≡ true
serves_reading leased [] all i found = cc
serves_reading leased (j ∷ is) all i found =
    elim (cases_eq j i) [
      | inl same ↦ subst (λ k. leased k Read ≡ true) same all.0
      | inr other ↦ serves_reading leased is all.1 i (subst (λ b. (b || contains is i) ≡ true) (ne_eqb j i other) found)
    ]

all_leased : (leased : Leased) (ws : List (ℕ × Mode)) → first_missing leased ws ≡ None → AreLeased leased ws
all_leased leased [] none = tt
all_leased leased (w ∷ ws) none =
    elim (cases_Bool (leased w.0 w.1)) [
      | inl had ↦ (had, all_leased leased ws (rw had at none))
      | inr lacked ↦ let no_more = rw lacked at none in cc
    ]

-- what is missing first is so whatever is wanted after it
missing_later : (leased : Leased) (vs ws : List (ℕ × Mode)) (w : ℕ × Mode) → first_missing leased vs ≡ Some w → first_missing leased (vs ++ ws) ≡ Some w
missing_later leased [] ws w lacked = absurd (let none : None ≡ Some w = lacked in cc)
missing_later leased (v ∷ vs) ws w lacked =
    elim (cases_Bool (leased v.0 v.1)) [
      | inl had ↦ rw had (missing_later leased vs ws w (rw had at lacked))
      | inr bare ↦ rw bare (rw bare at lacked)
    ]

-- where all that is visited is leased, the first that is missing is of what is wanted after it
past_visits : (leased : Leased) (is : List ℕ) (ws : List (ℕ × Mode)) → ((i : ℕ) → contains is i ≡ true → leased i Read ≡ true) →
    first_missing leased (for_reading is ++ ws) ≡ first_missing leased ws
past_visits leased [] ws all = refl
past_visits leased (i ∷ is) ws all = rw (all i (in_prefix i is i refl)) (past_visits leased is ws (λ j found. all j (in_rest i is j found)))

-- ---- a lease that is granted

stronger_serves : (a b m : Mode) → strong a m ≡ true → strong (stronger a b) m ≡ true
stronger_serves Write b m s = s
stronger_serves Read Read m s = s
stronger_serves Read Write m s = refl

raised_serves : (c : ℕ) (mode : Mode) (o : Option Lease) (m : Mode) → serves o m ≡ true → serves (Some (new_lease c (raised_mode mode o))) m ≡ true
raised_serves c mode None m s = absurd (let f : false ≡ true = s in cc)
raised_serves c mode (Some l) m s = stronger_serves l.mode mode m (and_parts (not l.revoked) (strong l.mode m) s).1

module _ (old new : TwoLevels) (c n i : ℕ) (mode : Mode) (e : IsGranted old new c n i mode) where
  own_now : lease_of (new.clients i) c ≡ Some (new_lease c (raised_mode mode (lease_of (old.clients i) c)))
  unfolding clients_granted
  own_now = ap (λ ls. lease_of ls c) e.clients.here ∙ with_own (new_lease c (raised_mode mode (lease_of (old.clients i) c))) (old.clients i)

  pub still_serves : (j : ℕ) (m : Mode) → serves (lease_of (old.clients j) c) m ≡ true → serves (lease_of (new.clients j) c) m ≡ true
  still_serves j m s =
      elim (cases_eq j i) [
        | inl here ↦
            subst (λ k. serves (lease_of (new.clients k) c) m ≡ true) (sym here)
            (ap (λ o. serves o m) own_now ∙ raised_serves c mode (lease_of (old.clients i) c) m
            (subst (λ k. serves (lease_of (old.clients k) c) m ≡ true) here s))
        | inr away ↦ ap (λ ls. serves (lease_of ls c) m) (e.clients.elsewhere j away) ∙ s
      ]

  -- the same leases are revoked: the client's own wasn't, and isn't
  pub same_revoked : is_revoked (lease_of (old.clients i) c) ≡ false → (d j : ℕ) → is_revoked (lease_of (new.clients j) d)
      ≡ is_revoked (lease_of (old.clients j) d)
  same_revoked free d j =
      elim (cases_eq d c) [
        | inl own ↦
            elim (cases_eq j i) [
              | inl here ↦
                  subst (λ x. is_revoked (lease_of (new.clients j) x) ≡ is_revoked (lease_of (old.clients j) x)) (sym own)
                  (subst (λ k. is_revoked (lease_of (new.clients k) c) ≡ is_revoked (lease_of (old.clients k) c)) (sym here) (ap is_revoked own_now ∙ sym free))
              | inr away ↦ ap (λ ls. is_revoked (lease_of ls d)) (e.clients.elsewhere j away)
            ]
        | inr other ↦ ap is_revoked (e.others j d other)
      ]

-- ---- what the code plans

-- what a client's leases serve for
abbrev pub served : StateValue → ℕ → Leased
served s c = λ i mode. serves (client_lease (leases_of s) c i) mode

-- nobody who is granted a lease at once has one that is revoked
own_unrevoked : (t : TwoLevels) (c n i : ℕ) (mode : Mode) → is_free_for t c n i mode ≡ true → is_revoked (lease_of (t.clients i) c) ≡ false
own_unrevoked t c n i mode free =
    let rest = (and_parts (not (list_any (in_way t.home (t.nodes i) c n mode) (t.clients i)))
    (not (is_revoked (lease_of (t.clients i) c)) && not (is_revoked (lease_of (t.nodes i) n))) free).1 in
    not-true (is_revoked (lease_of (t.clients i) c))
    (and_parts (not (is_revoked (lease_of (t.clients i) c))) (not (is_revoked (lease_of (t.nodes i) n))) rest).0

pub same_levels : (old new : TwoLevels) → SameLevels old new → new ≡ old
same_levels old new e = λ k. record { home = λ c. e.home c k; clients = λ i. e.clients i k; nodes = λ i. e.nodes i k }

-- with the same levels the same leases are revoked
pub same_levels_revoked : (s : StateValue) (levels : TwoLevels) → levels ≡ s.levels → KeepsRevoked (observed s).leases (observed (after_leases s levels)).leases
unfolding observed leases_of
same_levels_revoked s levels same d i = ap (λ l. is_revoked (lease_of (l.clients i) d)) same

-- ---- a client that may call

module _ (s : StateValue) (c : ℕ) (op : Op) (shape : ShapeInvariant s) (holds : ∥ MachineInvariant (observed s) ∥₁) (fine : call_fault (observed s) c op ≡ None)
  where
    abbrev w : World
    w = world_of s

    abbrev next : Step
    next = next_step w c op

    there : IsNumber s.clients c
    there = call_number s c op fine

    runs : (w.lives c ≡ true) × (w.crashed c ≡ false)
    unfolding observed
    runs = client_runs (observed s) c (call_client s c op fine)

    -- it reads at its home
    reads_at_home : (i : ℕ) → map.get (inodes_read s c) i ≡ view w (w.home c) c i
    unfolding observed
    reads_at_home i = ∥∥₁_elim holds (Coded-set (coded_option coded_content) _ _) (λ h. read_at_home s c i shape h.sound runs.0)

    fresh_is : inode_number c (client_in s.clients c).made ≡ inode_number c (w.made c)
    unfolding world_of
    fresh_is = refl

    step_is : (fresh : ℕ) → fresh ≡ inode_number c (client_in s.clients c).made → step (values (inodes_read s c)) op fresh ≡ next
    step_is fresh is = λ k. step (λ i. reads_at_home i k) op ((is ∙ fresh_is) k)

    -- what the code plans over a view of this client, with these leases and inodes
    pub planned_now : (fresh : ℕ) → fresh ≡ inode_number c (client_in s.clients c).made → (p : Plan) (d : ℕ) (ls : ℕ → List Lease) (m : InodeMap) →
        p ≡ visited_plan_of (λ i mode. serves (lease_of (ls i) d) mode) (step (values m) op fresh) → d ≡ c → ls ≡ s.levels.clients → m ≡ inodes_read s c →
        p ≡ visited_plan_of (served s c) next
    unfolding leases_of
    planned_now fresh is p d ls m exact client held read =
        exact
        ∙ (λ k. visited_plan_of (λ i mode. serves (lease_of (held k i) (client k)) mode) (step (values (read k)) op fresh))
        ∙ ap (visited_plan_of (served s c)) (step_is fresh is)

    -- a plan that is ready
    pub visited_now : (u : Step) → visited_plan_of (served s c) next ≡ ready u → IsVisited (observed s) c op u
    unfolding observed
    visited_now u plan =
        let all = ready_has_all (served s c) next u (for_reading next.visits) plan in
        record { step = all.0; visited = serves_reading (served s c) next.visits all.1 }

    -- and what it changes is leased, too
    pub ready_now : (u : Step) → IsVisited (observed s) c op u → first_missing (served s c) (for_writing (touched u.effects)) ≡ None →
        IsReady (observed s) c op u
    unfolding observed
    ready_now u visited none =
        record {
          step = visited.step;
          served = record {
            visited = visited.visited;
            changed = serves_writing (served s c) (touched next.effects)
                (all_leased (served s c) (for_writing (touched next.effects))
                (subst (λ t. first_missing (served s c) (for_writing (touched t.effects)) ≡ None) visited.step none));
          };
        }

    -- the first lease that a call lacks for its visits
    pub lacks_visit : (i : ℕ) (mode : Mode) → visited_plan_of (served s c) next ≡ missing i mode → first_missing (served s c) (wants next) ≡ Some (i, mode)
    lacks_visit i mode plan = missing_later (served s c) (for_reading next.visits) (for_writing (touched next.effects)) (i, mode)
        (first_lacks next (first_missing (served s c) (for_reading next.visits)) i mode plan)

    -- the first that it lacks for what it changes
    pub lacks_change : (u : Step) (i : ℕ) → IsVisited (observed s) c op u → first_missing (served s c) (for_writing (touched u.effects)) ≡ Some (i, Write) →
        first_missing (served s c) (wants next) ≡ Some (i, Write)
    unfolding observed
    lacks_change u i visited lacked =
        past_visits (served s c) next.visits (for_writing (touched next.effects)) visited.visited
        ∙ subst (λ t. first_missing (served s c) (for_writing (touched t.effects)) ≡ Some (i, Write)) visited.step lacked

    -- ---- a lease is granted

    module _ (i : ℕ) (mode : Mode) (levels : TwoLevels) (first : first_missing (served s c) (wants next) ≡ Some (i, mode))
        (free : is_free_for s.levels c (client_in s.clients c).home i mode ≡ true)
        (granted : IsGranted s.levels levels c (client_in s.clients c).home i mode) where
      abbrev s' : StateValue
      s' = after_leases s levels

      home_is : w.home c ≡ (client_in s.clients c).home
      unfolding world_of
      home_is = refl

      grants : Grants w (leases_of s) c i mode (world_of s') (leases_of s')
      unfolding leases_of
      grants = record {
        lives_on = runs.0;
        running = runs.1;
        free = subst (λ n. is_free_for s.levels c n i mode ≡ true) (sym home_is) free;
        granted = subst (λ n. IsGranted s.levels levels c n i mode) (sym home_is) granted;
        cuts = λ d j. refl;
        holds = leases_held s levels;
      }

      pub goes_on : (a : Answer) (m' : Machine) → Calling (observed s') c op a m' → Calling (observed s) c op a m'
      unfolding observed
      goes_on a m' e = granted_first (observed s) (world_of s') (leases_of s') c op i mode first grants (areas_stay s s' refl) fine a m' e

      pub fine_then : call_fault (observed s') c op ≡ None
      unfolding observed world_of
      fine_then = fine

      pub holds_then : NeverSyncs op → ∥ MachineInvariant (observed s') ∥₁
      holds_then other = ∥∥₁_map holds
          (λ h. calling_keeps (observed s) (observed s') c op (refused OutOfMemory) h (other (durability_of c (observed s).history))
          (goes_on (refused OutOfMemory) (observed s') (lacking (observed s') c op fine_then)))

      revoked_same : SameRevoked s levels
      revoked_same = same_revoked s.levels levels c (client_in s.clients c).home i mode granted
          (own_unrevoked s.levels c (client_in s.clients c).home i mode free)

      -- whom it asks from there on, it asks
      pub cuts_then : {C : Type 0} (answers : C → NumberedLog → ℕ → ℕ → Type 0) (stored kept : ℕ → Option C) (m' : Machine) → SameRevokers stored kept →
          CutsAreAnswers answers kept (observed s') m' → CutsAreAnswers answers stored (observed s) m'
      unfolding observed world_of leases_of own_seen
      cuts_then answers stored kept m' same cuts =
          revoked_later answers stored kept (observed s) (observed s') m' (λ d j. revoked_same d j) (λ d. refl) same cuts

      pub unrevoked_then : KeepsRevoked (observed s).leases (observed s').leases
      unfolding observed leases_of
      unrevoked_then d j = revoked_same d j

      pub noted_then : CutsInvariant s → CutsInvariant s'
      noted_then noted = leases_noted s levels noted revoked_same

      same_step : next_step (world_of s') c op ≡ next
      unfolding view world_of own_seen undigested_records
      same_step = refl

      pub visited_then : (u : Step) → IsVisited (observed s) c op u → IsVisited (observed s') c op u
      unfolding observed leases_of
      visited_then u visited = record {
        step = visited.step ∙ sym same_step;
        visited = λ j found. still_serves s.levels levels c (client_in s.clients c).home i mode granted j Read
            (visited.visited j (subst (λ t. contains t.visits j ≡ true) same_step found));
      }

      -- the client has the lease, and goes on
      pub got_then : NeverSyncs op → (u : Step) → IsVisited (observed s) c op u → GotLeases (observed s) c op u (observed s')
      unfolding observed world_of leases_of own_seen
      got_then other u visited = record {
        fine = fine_then;
        holds = holds_then other;
        visited = visited_then u visited;
        kept = λ j may. still_serves s.levels levels c (client_in s.clients c).home i mode granted j Write may;
        unrevoked = unrevoked_then;
        logs = λ d. refl;
        onward = goes_on;
      }

      pub fewer_then : unserved (served s' c) (wants (next_step (world_of s') c op)) < unserved (served s c) (wants next)
      unfolding leases_of
      fewer_then = subst (λ u. unserved (served s' c) (wants u) < unserved (served s c) (wants next)) (sym same_step)
          (fewer (served s c) (served s' c) (wants next) (i, mode) (still_serves s.levels levels c (client_in s.clients c).home i mode granted) first
          granted.held)

-- ---- any call but a sync

pub no_sync : (op : Op) → (op ≡ Fsync → ⊥) → (op ≡ Dsync → ⊥) → NeverSyncs op
no_sync Fsync fsync dsync = absurd (fsync refl)
no_sync Dsync fsync dsync = absurd (dsync refl)
no_sync (Create p) fsync dsync = λ u. refl
no_sync (Mkdir p) fsync dsync = λ u. refl
no_sync (ReadCall p offset most) fsync dsync = λ u. refl
no_sync (WriteCall p offset new) fsync dsync = λ u. refl
no_sync (Truncate p size) fsync dsync = λ u. refl
no_sync (Rename p q) fsync dsync = λ u. refl
no_sync (Unlink p) fsync dsync = λ u. refl
no_sync (Rmdir p) fsync dsync = λ u. refl
no_sync (ListCall p) fsync dsync = λ u. refl
no_sync (Stat p) fsync dsync = λ u. refl

pub is_tried : (m m' : Machine) (c : ℕ) (op : Op) (a : Answer) → NeverSyncs op → Calling m c op a m' → Trying m c op a m'
is_tried m m' c Fsync a never e = absurd (let t : true ≡ false = never Pessimistic in cc)
is_tried m m' c Dsync a never e = absurd (let t : true ≡ false = never Pessimistic in cc)
is_tried m m' c (Create p) a never e = e
is_tried m m' c (Mkdir p) a never e = e
is_tried m m' c (ReadCall p offset most) a never e = e
is_tried m m' c (WriteCall p offset new) a never e = e
is_tried m m' c (Truncate p size) a never e = e
is_tried m m' c (Rename p q) a never e = e
is_tried m m' c (Unlink p) a never e = e
is_tried m m' c (Rmdir p) a never e = e
is_tried m m' c (ListCall p) a never e = e
is_tried m m' c (Stat p) a never e = e
