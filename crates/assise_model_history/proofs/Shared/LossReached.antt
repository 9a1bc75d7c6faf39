-- A trace from the start in which a failure takes a call.
use Rattle.assise_model_history.proofs.Common.{◌≡◌, ℕ, ◌-◌, ◌≤◌, true, false, List, [], ◌∷◌, ◌++◌, refl, ap, sym, ◌∙◌, arith, eqb-true, Some, Ok, is_some}
use Rattle.assise_model_history.proofs.Common.{or_cases, or_right, lt-ltb, Op, Create, Done, Pessimistic, no_entries, opens, calls, fails, kept, record_of}
use Rattle.assise_model_history.proofs.Common.{room_among, step, directory, Links, Values, contains, Step, NumberedCall, MayMakeCall, Acquires, kept_at_failure}
use Rattle.assise_model_history.proofs.Common.{WorldInvariant, World, Full, opening_values, end_of_log, call_at, undigested_records, view, step_at_home}
use Rattle.assise_model_history.proofs.Common.{least_of-below, may_acquire, opening, call, failure, quiet, IsTrace, last_of, IsLossy, IsOpening, IsCall}
use Rattle.assise_model_history.proofs.Common.{IsFailure, IsUntold, Opens, acquires, is_cut, losses_to, losses_of, plain_call, State, begun_with}
use Rattle.std.proofs.Math.Seq.{drop-nil}
use Rattle.std.specs.Cmp.{nat_cmp_total}
use Rattle.std.specs.Cmp.Lexicographic.{slice_cmp}
use Rattle.std.specs.FinMap as map
use Rattle.std.specs.Ordering.{nat_cmp}
use Rattle.assise_names.specs.declared.mode.Mode.TheVariants.{Write}
use Rattle.assise_record.specs.declared.effect.Effect.TheVariants.{NewFile, Link}
use Rattle.assise_inode_table.proofs.Shared.DirectoryNames.{names_are_keys}
use Rattle.assise_model_history.proofs.EntriesPossible.{can_open, can_call, can_fail}
use Rattle.assise_model_history.proofs.Shared.FailureList.{cut_there, least_kept, others_of, is_left}
use Rattle.assise_model_history.proofs.Shared.TracesKeep.{begun_sound, happens_sound}

-- client 1 lives on node 1 of two full nodes, and made no call
pub record IsNew (w : World) : Type 0 where
  pub clients : w.clients ≡ 1
  pub home : w.home 1 ≡ 1
  pub lives : w.lives 1 ≡ true
  pub runs : w.crashed 1 ≡ false
  pub records : w.records 1 ≡ []
  pub first : w.first 1 ≡ 0
  pub next : w.next 1 ≡ 0
  pub made : w.made 1 ≡ 0
  pub full : w.full ≡ 2 ∷ 1 ∷ []
  pub log : w.log 1 1 ≡ []
  pub received : w.received 2 1 ≡ 0
  pub area : w.area 1 0 ≡ opening_values 0

-- ---- the client is opened, and gets leases of the root and of the inode that it will make

abbrev pub made_number : ℕ
made_number = 4294967296

abbrev start : State
start = begun_with 2

pub opened_new : (w : World) → Opens start.world 1 w → IsNew w
opened_new w e = record {
  clients = e.clients;
  home = e.home_new;
  lives = e.lives_new;
  runs = e.crashed_new;
  records = e.logs.records 1;
  first = e.logs.first 1;
  next = e.logs.next 1;
  made = e.logs.made 1;
  full = e.nodes.full;
  log = (e.nodes.same 1 refl).log 1;
  received = (e.nodes.same 2 refl).received 1;
  area = (e.nodes.same 1 refl).area 0;
}

opened : (t : State) × IsOpening start 1 Pessimistic t
opened = can_open start 1 Pessimistic refl

abbrev with_client : State
with_client = opened.0

nobody : (d i : ℕ) → with_client.world.holds d i ≡ false
nobody d i = opened.1.world.leases.holds d i

pub acquired_new : (w w' : World) (i : ℕ) → IsNew w → Acquires w 1 i Write w' → IsNew w'
acquired_new w w' i n e =
    let f1 : Full w 1 = rw n.full refl in
    let f2 : Full w 2 = rw n.full refl in
    record {
      clients = e.clients.clients ∙ n.clients;
      home = e.clients.home 1 ∙ n.home;
      lives = e.clients.lives 1 ∙ n.lives;
      runs = e.clients.crashed 1 ∙ n.runs;
      records = e.logs.records 1 ∙ n.records;
      first = e.logs.first 1 ∙ n.first;
      next = e.logs.next 1 ∙ n.next;
      made = e.logs.made 1 ∙ n.made;
      full = e.nodes.full ∙ n.full;
      log = (e.nodes.same 1 f1).log 1 ∙ n.log;
      received = (e.nodes.same 2 f2).received 1 ∙ n.received;
      area = (e.nodes.same 1 f1).area 0 ∙ n.area;
    }

root_lease : (u : World) × Acquires with_client.world 1 0 Write u
root_lease = may_acquire with_client.world 1 0 Write (λ d other. nobody d 0)

abbrev with_root : State
with_root = record with_client { world = root_lease.0 }

own_lease : (u : World) × Acquires with_root.world 1 made_number Write u
own_lease = may_acquire with_root.world 1 made_number Write (λ d other. root_lease.1.holds_else d made_number (λ is. absurd (other is)) ∙ nobody d made_number)

abbrev with_leases : State
with_leases = record with_root { world = own_lease.0 }

root_quiet : IsUntold with_client with_root
root_quiet = record { nodes = refl; entries = refl; world = acquires 1 0 Write root_lease.1 }

own_quiet : IsUntold with_root with_leases
own_quiet = record { nodes = refl; entries = refl; world = acquires 1 made_number Write own_lease.1 }

leases_new : IsNew with_leases.world
leases_new =
    let with_first = acquired_new with_client.world with_root.world 0 (opened_new with_client.world opened.1.world) root_lease.1 in
    acquired_new with_root.world with_leases.world made_number with_first own_lease.1

leases_sound : WorldInvariant with_leases.world
leases_sound =
    let client : WorldInvariant with_client.world = happens_sound start with_client (begun_sound 2) (opening 1 Pessimistic opened.1) in
    happens_sound with_root with_leases (happens_sound with_client with_root client (quiet root_quiet)) (quiet own_quiet)

not_root : made_number ≡ 0 → ⊥
not_root same = omega (arith, same)

holds_root : with_leases.world.holds 1 0 ≡ true
holds_root = own_lease.1.holds_else 1 0 (λ is zero_is. not_root (sym zero_is)) ∙ root_lease.1.holds_here

holds_own : with_leases.world.holds 1 made_number ≡ true
holds_own = own_lease.1.holds_here

writes_root : with_leases.world.writes 1 0 ≡ true
writes_root = own_lease.1.writes_else 1 0 (λ is zero_is. not_root (sym zero_is)) ∙ root_lease.1.writes_here ∙ or_right (with_client.world.writes 1 0) true refl

writes_own : with_leases.world.writes 1 made_number ≡ true
writes_own = own_lease.1.writes_here ∙ or_right (with_root.world.writes 1 made_number) true refl

-- ---- it creates a file

abbrev pub create_op : Op
create_op = Create ((97 ∷ []) ∷ [])

abbrev pub creation : NumberedCall
creation = record { client = 1; number = 0; op = create_op; reply = Done; fresh = made_number }

-- what it does in an empty root, where the file gets this number
abbrev pub create_step : ℕ → Step
create_step fresh = record { visits = 0 ∷ []; reply = Done; effects = NewFile fresh ∷ Link 0 (97 ∷ []) fresh ∷ [] }

abbrev pub first_step : Step
first_step = create_step made_number

abbrev pub no_links : Links
no_links = map.empty

pub empty_root : opening_values 0 ≡ Some (directory no_links)
empty_root = grind (arith, map.get-insert, nat_cmp_total)

pub room : room_among (97 ∷ []) no_links ≡ Ok tt
room =
    let no_link = map.get-empty {X = ℕ} (slice_cmp nat_cmp) (97 ∷ []) in
    let no_keys : map.keys no_links ≡ [] = sym (names_are_keys no_entries no_links tt (λ q. ap is_some (sym (map.get-empty (slice_cmp nat_cmp) q)))) in
    rw (no_link, no_keys) refl

pub creates : (v : Values) (fresh : ℕ) → v 0 ≡ Some (directory no_links) → step v create_op fresh ≡ create_step fresh
creates v fresh root = grind (arith, room)

pub sees_root : (w : World) → IsNew w → view w (w.home 1) 1 0 ≡ opening_values 0
unfolding view undigested_records
sees_root w n = grind (arith, drop-nil)

pub step_is : (w : World) → IsNew w → step_at_home w creation ≡ first_step
step_is w n = creates (view w (w.home 1) 1) made_number (sees_root w n ∙ empty_root)

pub of_either : (P : ℕ → Type 0) (a b i : ℕ) → P a → P b → contains (a ∷ b ∷ []) i ≡ true → P i
of_either P a b i at_a at_b there = grind (arith, or_cases, eqb-true)

pub may_create : (w : World) → IsNew w → ((i : ℕ) → contains (made_number ∷ 0 ∷ []) i ≡ true → w.holds 1 i ≡ true) →
    ((i : ℕ) → contains (made_number ∷ 0 ∷ []) i ≡ true → w.writes 1 i ≡ true) → MayMakeCall w creation
may_create w n holds writes = grind (arith, step_is w n)

created : (t : State) × IsCall with_leases creation t
created = grind (arith, can_call, leases_sound, may_create, leases_new, of_either, holds_own, holds_root, writes_own, writes_root)

abbrev with_file : State
with_file = created.0

-- ---- node 1 fails

file_records : with_file.world.records 1 ≡ record { call = 0; effects = first_step.effects } ∷ []
file_records =
    created.1.world.records_own
    ∙ ap (λ rs. rs ++ record_of 0 (step_at_home with_leases.world creation).effects) leases_new.records
    ∙ ap (λ t. record_of 0 t.effects) (step_is with_leases.world leases_new)

file_first : with_file.world.first 1 ≡ 0
file_first = created.1.world.first 1 ∙ leases_new.first

file_end : end_of_log with_file.world 1 ≡ 1
unfolding end_of_log
file_end = rw (file_first, file_records) refl

file_full : with_file.world.full ≡ 2 ∷ 1 ∷ []
file_full = created.1.world.full ∙ leases_new.full

file_received : with_file.world.received 2 1 ≡ 0
file_received = created.1.world.received_else 2 1 (rw leases_new.full refl) (λ is own. (let two : 2 ≡ 1 = is ∙ leases_new.home in omega (arith, two)))
    ∙ leases_new.received

file_cut : kept_at_failure with_file.world 1 1 ≡ 0
file_cut =
    let w : World = with_file.world in
    let at : kept_at_failure w 1 1 ≡ least_kept w 1 1 = cut_there w 1 1 (created.1.world.clients.lives 1 ∙ leases_new.lives)
    (created.1.world.clients.home 1 ∙ leases_new.home) in
    let two_full : Full w 2 = rw file_full refl in
    let low : least_kept w 1 1 ≤ w.received 2 1 = least_of-below (others_of w 1) (λ k. w.received k 1) (end_of_log w 1) 2
    (is_left w.full 1 2 two_full (λ same. cc)) in
    let none : w.received 2 1 ≡ 0 = file_received in
    omega (arith, at, low, none)

file_loss : call_at with_file.world 1 0 ≡ 0
unfolding call_at
file_loss = rw (file_first, file_records) refl

lost_list : losses_of with_file.world 1 ≡ record { client = 1; first = 0 } ∷ []
lost_list =
    let w : World = with_file.world in
    let clients : w.clients ≡ 1 = created.1.world.clients.clients ∙ leases_new.clients in
    let some : is_cut w 1 1 ≡ true = lt-ltb (kept_at_failure w 1 1) (end_of_log w 1) (let none = file_cut in let one = file_end in omega (arith, none, one)) in
    let first : call_at w 1 (kept_at_failure w 1 1) ≡ 0 = ap (call_at w 1) file_cut ∙ file_loss in
    ap (losses_to w 1) clients ∙ rw (some, first) refl

failed : (t : State) × IsFailure with_file 1 t
failed = can_fail with_file 1 record { full_node = rw file_full refl; survivor = (2, ((λ same. cc), rw file_full refl)) }

abbrev with_failure : State
with_failure = failed.0

trace : IsTrace start (with_client ∷ with_root ∷ with_leases ∷ with_file ∷ with_failure ∷ [])
trace = (opening 1 Pessimistic opened.1, (quiet root_quiet, (quiet own_quiet, (call creation created.1, (failure 1 failed.1, tt)))))

entries : with_failure.history ≡ opens 1 1 Pessimistic ∷ calls (plain_call creation) ∷ fails 1 (record { client = 1; first = 0 } ∷ []) ∷ []
entries =
    failed.1.adds.entry
    ∙ ap (λ ls. with_file.history ++ fails 1 ls ∷ []) lost_list
    ∙ ap (λ h. h ++ fails 1 (record { client = 1; first = 0 } ∷ []) ∷ []) created.1.adds.entry
    ∙ ap (λ h. (h ++ calls (plain_call creation) ∷ []) ++ fails 1 (record { client = 1; first = 0 } ∷ []) ∷ []) opened.1.adds.entry

pub lossy : (ts : List State) × (IsTrace (begun_with 2) ts × IsLossy (last_of (begun_with 2) ts).history)
lossy = (
  with_client ∷ with_root ∷ with_leases ∷ with_file ∷ with_failure ∷ [],
  (trace, record { create = plain_call creation; makes = refl; entries = entries; none_left = ap kept entries ∙ refl }),
)
