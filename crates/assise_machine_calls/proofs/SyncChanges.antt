-- What a client's syncs change of the state is what the laws mean by them.
use Rattle.assise_machine_calls.proofs.Common.{◌≡◌, ℕ, ◌+◌, ◌<◌, ◌≤◌, true, false, List, [], ◌∷◌, ◌++◌, length, None, refl, ap, sym, subst, ◌∙◌, arith}
use Rattle.assise_machine_calls.proofs.Common.{append-nil, list_any, false≢true, ∥∥₁_elim, ∥∥₁_map, Coded-set, coded_ℕ, props, Op, Fsync, Durability}
use Rattle.assise_machine_calls.proofs.Common.{Optimistic, Pessimistic, Done, EntryValue, calls, calls_made, durability_of, is_sync, contains, makes, touched}
use Rattle.assise_machine_calls.proofs.Common.{Step, inode_number, NumberedCall, NumberedLog, log_end, full_nodes, MakesCall, RaisesGoals, World}
use Rattle.assise_machine_calls.proofs.Common.{call_makes_inode, end_of_log, received_by_all, step_at_home, view, calls_below, Noting, Syncing, call_of_client}
use Rattle.assise_machine_calls.proofs.Common.{is_noted, is_replicating, is_synced, Answer, not_yet, replied, client_fault, MachineInvariant, state_of}
use Rattle.assise_machine_calls.proofs.Common.{client_runs, noting_keeps, syncing_keeps, op_of, after_call, after_goal, goal_of, ClientValue, client_in, cut_of}
use Rattle.assise_machine_calls.proofs.Common.{with_call, with_client, with_goal, hot_capacities, log_in, with_call_in, observed, own_node, world_of, IsNumber}
use Rattle.assise_machine_calls.proofs.Common.{CutsInvariant, ShapeInvariant, StateValue, leases_of, standings, call_seen, call_shaped, lives_number}
use Rattle.assise_machine_calls.proofs.Common.{call_noted, goal_noted, own_end, client_here, client_same, length-with, areas_stay}
use Rattle.assise_model_world.proofs.Shared.WorldObserved.{received_by_all-end}
use Rattle.assise_model_history.specs.Numbered.{made_in, plain_call}
use Rattle.assise_model_history.proofs.Shared.InodeMakers.{nothing_done, sync_step}
use Rattle.assise_machine_calls.specs.declared.sync.SyncCall.{SyncCall}
use Rattle.assise_machine_calls.specs.declared.sync.SyncCall.TheVariants.{Fsync as OfFsync, Dsync as OfDsync}
use Rattle.assise_machine_state.proofs.Shared.GoalObserved.{goal_raised, goal_shaped}

-- ---- the client

pub fine_number : (s : StateValue) (c : ℕ) → client_fault (observed s) c ≡ None → IsNumber s.clients c
unfolding observed
fine_number s c fine = lives_number s c (client_runs (observed s) c fine).0

-- how it was opened is what its value says
pub durability_known : (s : StateValue) (c : ℕ) (u : Durability) → ShapeInvariant s → client_fault (observed s) c ≡ None →
    u ≡ (client_in s.clients c).durability → u ≡ durability_of c (observed s).history
unfolding observed
durability_known s c u shape fine is = is ∙ shape.durabilities c

-- ---- a call more of a client

-- leases stay
pub call_leases : (s : StateValue) (x : NumberedCall) → leases_of (after_call s x) ≡ leases_of s
unfolding leases_of
call_leases s x =
    let now : ClientValue = with_call (call_makes_inode (world_of s) x) (client_in s.clients x.client) in
    λ i. record { levels = s.levels; cut = λ d j. client_same (λ y. cut_of s.cuts d y j) s.clients x.client now refl d i }

-- ---- a call that does nothing

-- what such a call changes of the state
abbrev pub after_note : StateValue → NumberedCall → StateValue
after_note s x = record s {
  clients = with_client s.clients x.client (with_call false (client_in s.clients x.client));
  history = s.history ++ calls (plain_call x) ∷ [];
}

-- a call that is a sync for some client does nothing
abbrev pub SyncsSome : Op → Type 0
SyncsSome op = (u : Durability) × (is_sync op u ≡ true)

pub syncs_some : (which : SyncCall) → SyncsSome (op_of which)
syncs_some OfFsync = (Pessimistic, refl)
syncs_some OfDsync = (Pessimistic, refl)

module _ (s : StateValue) (x : NumberedCall) (sync : SyncsSome x.op) where
  pub nothing_at_home : step_at_home (world_of s) x ≡ nothing_done
  nothing_at_home = sync_step (view (world_of s) ((world_of s).home x.client) x.client) x.op x.fresh sync.0 sync.1

  changed_by : Step → StateValue
  changed_by t = record s {
    nodes = with_call_in s.nodes (client_in s.clients x.client).home x.client x.number t.effects;
    clients = with_client s.clients x.client (with_call (list_any (makes x.fresh) t.effects) (client_in s.clients x.client));
    history = s.history ++ calls (plain_call x) ∷ [];
  }

  pub note_is : after_call s x ≡ after_note s x
  unfolding changed_by
  note_is = ap changed_by nothing_at_home

module _ (s : StateValue) (c : ℕ) (holds : ∥ MachineInvariant (observed s) ∥₁) where
  pub next_counted : (world_of s).next c ≡ calls_made c s.history
  unfolding observed
  next_counted = ∥∥₁_elim holds (Coded-set coded_ℕ _ _) (λ h. h.recorded.next c)

  pub made_counted : (world_of s).made c ≡ made_in c s.history
  unfolding observed
  made_counted = ∥∥₁_elim holds (Coded-set coded_ℕ _ _) (λ h. h.recorded.made c)

  pub few_made : (world_of s).made c ≤ 1048576
  unfolding observed
  few_made = ∥∥₁_elim holds (search props) (λ h. h.sound.coherent.fewer c)

  pub next_low : (world_of s).next c ≤ length s.history
  unfolding observed
  next_low = ∥∥₁_elim holds (search props) (λ h. calls_below (state_of (observed s)) c h.recorded)

-- ---- a sync

-- the client's goal is the end of its log, and its call is answered
abbrev after_sync : StateValue → ℕ → Op → StateValue
after_sync s c op = after_note (after_goal s c (end_of_log (world_of s) c)) (call_of_client (world_of s) c op Done)

-- a client at which nothing is wrong lives
pub fine_lives : (s : StateValue) (c : ℕ) → client_fault (observed s) c ≡ None → (world_of s).lives c ≡ true
unfolding observed
fine_lives s c fine = (client_runs (observed s) c fine).0

module _ (s : StateValue) (c : ℕ) (op : Op) (shape : ShapeInvariant s) (fine : client_fault (observed s) c ≡ None) where
  abbrev old : World
  old = world_of s

  abbrev raised : StateValue
  raised = after_goal s c (end_of_log (world_of s) c)

  abbrev called_now : NumberedCall
  called_now = call_of_client (world_of s) c op Done

  there : IsNumber s.clients c
  there = fine_number s c fine

  raises : RaisesGoals old (goal_of c (end_of_log old c)) (world_of raised)
  raises = goal_raised s c (end_of_log old c) there (omega arith)

  -- leases stay
  leases_raised : leases_of raised ≡ leases_of s
  unfolding leases_of
  leases_raised = λ i. record {
    levels = s.levels;
    cut = λ d j. client_same (λ y. cut_of s.cuts d y j) s.clients c
        (with_goal (end_of_log old c) (client_in s.clients c)) refl d i;
  }

  sync_awaited : received_by_all old c < end_of_log old c → Syncing (observed s) c op not_yet (observed raised)
  unfolding observed
  sync_awaited lacking = is_replicating fine refl (record {
    lacking = lacking;
    raises = raises;
    leases = leases_raised;
    adds = record { history = sym (append-nil s.history); limit = refl; hot = refl };
    keeps = record { members = refl; others = areas_stay s raised refl };
  })

  raised_shaped : ShapeInvariant raised
  raised_shaped = goal_shaped s c (end_of_log old c) there shape

  raised_noted : CutsInvariant s → CutsInvariant raised
  raised_noted noted = goal_noted s c (end_of_log old c) noted

  module _ (sync : SyncsSome op) where
    sync_shaped : ShapeInvariant (after_sync s c op)
    sync_shaped = subst ShapeInvariant (note_is raised called_now sync)
        (call_shaped raised called_now raised_shaped (raises.clients.lives c ∙ fine_lives s c fine))

    sync_noted : CutsInvariant s → CutsInvariant (after_sync s c op)
    sync_noted noted = subst CutsInvariant (note_is raised called_now sync) (call_noted raised called_now (raised_noted noted))

    module _ (holds : ∥ MachineInvariant (observed s) ∥₁) where
      quiet : step_at_home (world_of raised) called_now ≡ nothing_done
      quiet = nothing_at_home raised called_now sync

      called : MakesCall (world_of raised) called_now (world_of (after_call raised called_now))
      unfolding observed
      called =
          let runs = client_runs (observed s) c fine in
          let made : (world_of raised).made c ≡ old.made c = raises.logs.made c in
          call_seen raised called_now raised_shaped (made ∙ made_counted s c holds) (subst (λ k. k ≤ 1048576) (sym made) (few_made s c holds)) (record {
            lives = raises.clients.lives c ∙ runs.0;
            running = raises.clients.crashed c ∙ runs.1;
            number = sym (raises.logs.next c);
            fresh = ap (inode_number c) (sym made);
            reply = sym (ap (λ t. t.reply) quiet);
            held = λ i is. absurd (false≢true (subst (λ t. contains (t.visits ++ touched t.effects) i ≡ true) quiet is));
            written = λ i is. absurd (false≢true (subst (λ t. contains (touched t.effects) i ≡ true) quiet is));
            room = λ some. absurd (false≢true (subst (λ t. list_any (makes called_now.fresh) t.effects ≡ true) quiet some));
          })

      sync_answered : received_by_all old c ≡ end_of_log old c → Syncing (observed s) c op (replied Done) (observed (after_call raised called_now))
      unfolding observed
      sync_answered all = is_synced Done fine refl (record {
        replicated = all;
        between = world_of raised;
        raises = raises;
        others = areas_stay s raised refl;
        call = record {
          call = called;
          visited = λ i is. absurd (false≢true (subst (λ t. contains t.visits i ≡ true) quiet is));
          changed = λ i is. absurd (false≢true (subst (λ t. contains (touched t.effects) i ≡ true) quiet is));
        };
        leases = call_leases raised called_now ∙ leases_raised;
        adds = record {
          history = ap (λ k. s.history ++ calls (record { client = c; number = k; op = op; reply = Done }) ∷ []) (next_counted s c holds);
          limit =
              refl;
          hot = ap (λ v. hot_capacities v.nodes) (note_is raised called_now sync);
        };
        keeps = record { members = refl; others = areas_stay s (after_call raised called_now) (ap (λ v. v.nodes) (note_is raised called_now sync)) };
      })

      pub synced : received_by_all old c ≡ end_of_log old c → Syncing (observed s) c op (replied Done) (observed (after_sync s c op))
      synced all = subst (λ v. Syncing (observed s) c op (replied Done) (observed v)) (note_is raised called_now sync) (sync_answered all)

-- ---- an fsync that waits for nothing

module _ (s : StateValue) (c : ℕ) (shape : ShapeInvariant s) (fine : client_fault (observed s) c ≡ None) where
  abbrev noted_now : NumberedCall
  noted_now = call_of_client (world_of s) c Fsync Done

  module _ (holds : ∥ MachineInvariant (observed s) ∥₁) where
    note_called : MakesCall (world_of s) noted_now (world_of (after_note s noted_now))
    unfolding observed
    note_called =
        let runs = client_runs (observed s) c fine in
        call_seen s noted_now shape (made_counted s c holds) (few_made s c holds) (record {
          lives = runs.0;
          running = runs.1;
          number = refl;
          fresh = refl;
          reply = refl;
          held = λ i is. cc;
          written = λ i is. cc;
          room = λ some. cc;
        })

    note_answered : Noting (observed s) c (replied Done) (observed (after_note s noted_now))
    unfolding observed
    note_answered = is_noted Done fine refl (record {
      call = record { call = note_called; visited = λ i is. cc; changed = λ i is. cc };
      leases = call_leases s noted_now;
      adds = record {
        history = ap (λ k. s.history ++ calls (record { client = c; number = k; op = Fsync; reply = Done }) ∷ []) (next_counted s c holds);
        limit = refl;
        hot = refl;
      };
      keeps = record { members = refl; others = areas_stay s (after_note s noted_now) refl };
    })

-- ---- what the code has

-- what happens, and the invariant after it
pub record Gives (Happens : StateValue → Type 0) (s' : StateValue) : Type 0 where
  pub happens : Happens s'
  pub holds : ∥ MachineInvariant (observed s') ∥₁
  pub shape : ShapeInvariant s'
  pub noted : CutsInvariant s'

abbrev pub SyncsTo : StateValue → ℕ → Op → Answer → StateValue → Type 0
SyncsTo s c op a s' = Syncing (observed s) c op a (observed s')

abbrev pub NotesTo : StateValue → ℕ → Answer → StateValue → Type 0
NotesTo s c a s' = Noting (observed s) c a (observed s')

given : (s s' : StateValue) (c : ℕ) (op : Op) (a : Answer) → SyncsSome op → ∥ MachineInvariant (observed s) ∥₁ → SyncsTo s c op a s' → ShapeInvariant s' →
    CutsInvariant s' → Gives (SyncsTo s c op a) s'
given s s' c op a sync holds e shape noted =
    record { happens = e; holds = ∥∥₁_map holds (λ h. syncing_keeps (observed s) (observed s') c op sync.0 a sync.1 h e); shape = shape; noted = noted }

pub place_is : (s : StateValue) (c place : ℕ) (l : NumberedLog) → ShapeInvariant s → client_fault (observed s) c ≡ None →
    0 < length (full_nodes (standings s)) →
    l ≡ (log_in s.nodes (own_node (standings s) (client_in s.clients c)) c).log → place ≡ log_end l → place ≡ end_of_log (world_of s) c
place_is s c place l shape fine some log is = is ∙ ap log_end log ∙ sym (own_end s c shape (fine_number s c fine) some)

pub all_received : (s : StateValue) (c acked place : ℕ) → acked ≡ received_by_all (world_of s) c → place ≡ end_of_log (world_of s) c → place ≤ acked →
    received_by_all (world_of s) c ≡ end_of_log (world_of s) c
all_received s c acked place received is all = omega (arith, received, is, all, received_by_all-end (world_of s) c)

module _ (s : StateValue) (c : ℕ) (fine : client_fault (observed s) c ≡ None) where
  -- its counts have room for a call more
  module _ (holds : ∥ MachineInvariant (observed s) ∥₁) (x : ClientValue) where
    pub next_fits : x.next ≡ (client_in s.clients c).next → length s.history < 9223372036854775808 → x.next + 1 < 18446744073709551616
    unfolding world_of
    next_fits same few =
        let now : x.next ≡ (world_of s).next c = same in
        omega (arith, few, now, next_low s c holds)

    pub made_fits : x.made ≡ (client_in s.clients c).made → x.made + 1 < 18446744073709551616
    unfolding world_of
    made_fits same =
        let now : x.made ≡ (world_of s).made c = same in
        omega (arith, now, few_made s c holds)

  -- its next call
  pub numbered : (number : ℕ) → number ≡ (client_in s.clients c).next → number ≡ (world_of s).next c
  unfolding world_of
  numbered number is = is

module _ (s : StateValue) (c : ℕ) (op : Op) (place : ℕ) (cs : List ClientValue) (shape : ShapeInvariant s) (fine : client_fault (observed s) c ≡ None)
    (holds : ∥ MachineInvariant (observed s) ∥₁)
    (is : cs ≡ with_client s.clients c (with_goal place (client_in s.clients c))) where
  -- the client has its new goal
  pub still_number : IsNumber cs c
  still_number =
      let before : IsNumber s.clients c = fine_number s c fine in
      let many : length cs ≡ length s.clients = ap length is ∙ length-with s.clients c (with_goal place (client_in s.clients c)) in
      record { some = before.some; there = subst (λ k. c ≤ k) (sym many) before.there }

  pub client_now : client_in cs c ≡ with_goal place (client_in s.clients c)
  client_now = ap (λ xs. client_in xs c) is ∙ client_here s.clients c (with_goal place (client_in s.clients c)) (fine_number s c fine)

  module _ (same : place ≡ end_of_log (world_of s) c) (sync : SyncsSome op) where
    raised_clients : cs ≡ (after_goal s c (end_of_log (world_of s) c)).clients
    raised_clients = is ∙ ap (λ k. with_client s.clients c (with_goal k (client_in s.clients c))) same

    pub awaited_given : CutsInvariant s → (acked : ℕ) → acked ≡ received_by_all (world_of s) c → acked < place →
        Gives (SyncsTo s c op not_yet) (record s { clients = cs })
    awaited_given noted acked received lacking =
        subst (λ v. Gives (SyncsTo s c op not_yet) v) (λ i. record s { clients = sym raised_clients i })
        (given s (after_goal s c (end_of_log (world_of s) c)) c op not_yet sync holds (sync_awaited s c op shape fine (omega (arith, same, received, lacking)))
        (raised_shaped s c op shape fine) (raised_noted s c op shape fine noted))

    pub answered_given : CutsInvariant s → received_by_all (world_of s) c ≡ end_of_log (world_of s) c → (number : ℕ) (e : EntryValue) (ds : List ClientValue)
        (g h : List EntryValue) → number ≡ (client_in s.clients c).next →
        e ≡ calls (record { client = c; number = number; op = op; reply = Done }) → ds ≡ with_client cs c (with_call false (client_in cs c)) → g ≡ s.history →
        h ≡ g ++ e ∷ [] →
        Gives (SyncsTo s c op (replied Done)) (record s { clients = ds; history = h })
    answered_given noted all number e ds g h number_is entry clients_are history_was history_is =
        let now : ds ≡ (after_sync s c op).clients = clients_are ∙ ap (λ xs. with_client xs c (with_call false (client_in xs c))) raised_clients in
        let told : h ≡ (after_sync s c op).history =
        history_is ∙ ap (λ es. es ++ e ∷ []) history_was
        ∙ ap (λ f. s.history ++ f ∷ [])
        (entry ∙ ap (λ k. calls (record { client = c; number = k; op = op; reply = Done })) (numbered s c fine number number_is)) in
        subst (λ v. Gives (SyncsTo s c op (replied Done)) v) (λ i. record s { clients = sym now i; history = sym told i })
        (given s (after_sync s c op) c op (replied Done) sync holds (synced s c op shape fine sync holds all) (sync_shaped s c op shape fine sync)
        (sync_noted s c op shape fine sync noted))

module _ (s : StateValue) (c : ℕ) (shape : ShapeInvariant s) (fine : client_fault (observed s) c ≡ None) (holds : ∥ MachineInvariant (observed s) ∥₁)
    (optimistic : durability_of c (observed s).history ≡ Optimistic) where
  pub noted_given : CutsInvariant s → (number : ℕ) (e : EntryValue) (ds : List ClientValue) (g h : List EntryValue) → number ≡ (client_in s.clients c).next →
      e ≡ calls (record { client = c; number = number; op = Fsync; reply = Done }) → ds ≡ with_client s.clients c (with_call false (client_in s.clients c)) →
      g ≡ s.history → h ≡ g ++ e ∷ [] →
      Gives (NotesTo s c (replied Done)) (record s { clients = ds; history = h })
  noted_given noted number e ds g h number_is entry clients_are history_was history_is =
      let x : NumberedCall = call_of_client (world_of s) c Fsync Done in
      let told : h ≡ (after_note s x).history =
      history_is ∙ ap (λ es. es ++ e ∷ []) history_was
      ∙ ap (λ f. s.history ++ f ∷ [])
      (entry ∙ ap (λ k. calls (record { client = c; number = k; op = Fsync; reply = Done })) (numbered s c fine number number_is)) in
      let happens = note_answered s c shape fine holds in
      subst (λ v. Gives (NotesTo s c (replied Done)) v) (λ i. record s { clients = sym clients_are i; history = sym told i })
      (record {
        happens = happens;
        holds = ∥∥₁_map holds (λ h. noting_keeps (observed s) (observed (after_note s x)) c (replied Done) (ap (is_sync Fsync) optimistic) h happens);
        shape = call_shaped s x shape (fine_lives s c fine);
        noted = call_noted s x noted;
      })
