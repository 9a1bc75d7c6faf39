-- Openings, calls, crashes, and what is quiet, keep what the history says of the state.
use Rattle.assise_model_history.proofs.Common.{◌≡◌, ℕ, suc, ◌<◌, ◌≤◌, true, false, ◌||◌, ◌==◌, List, [], ◌∷◌, ◌++◌, map, refl, ap, sym, subst, ◌∙◌, inl, inr}
use Rattle.assise_model_history.proofs.Common.{arith, append-nil, eq-eqb, ne_eqb, list_any, cases_Bool, cases_eq, not-true, or_right, opening_tree, Call}
use Rattle.assise_model_history.proofs.Common.{Durability, EntryValue, opens, calls, crashes, kept, IsRun, exchange, tree_after, IsAlive, IsLegal, IsNextCall}
use Rattle.assise_model_history.proofs.Common.{MayOpen, calls_made, is_call_of, is_failure_of, is_opening, is_sync, syncs, legal-open, legal-call, legal-crash}
use Rattle.assise_model_history.proofs.Common.{inode_number, makes_inode, NumberedCall, exchanges, ops, MakesCall, Moves, NoneFalls, opens_client, makes_call}
use Rattle.assise_model_history.proofs.Common.{crashes_client, raises_goals, releases, delivers, digests, drops, coalesces, rests, WorldInvariant, SameLogs}
use Rattle.assise_model_history.proofs.Common.{SameClients, World, Full, IsClient, end_of_log, received_by_all, first_unreplicated, view, tree}
use Rattle.assise_model_history.proofs.Common.{call_makes_inode, received_by_all-below, received_by_all-end, least_of-above, step_falls, AddsEntry, IsOpening}
use Rattle.assise_model_history.proofs.Common.{IsCall, IsCrash, NeedsNoEntry, IsUntold, is_making_of, made_in, numbered_in, plain_call, kept_numbered, State}
use Rattle.assise_model_history.proofs.Common.{WasOpened, IsRecorded}
use Rattle.assise_seq_tree.specs.Answer.{answer}
use Rattle.assise_model_world.specs.Runs.{acquires}
use Rattle.assise_model_world.proofs.Shared.CallKeeps.{call_reply}
use Rattle.assise_model_world.proofs.Shared.Replicated.{next_unreplicated}
use Rattle.assise_model_history.specs.Entered as entered
use Rattle.assise_model_history.proofs.OneEntryMore.{count_same, count_more, IsAside, aside_opening, aside_call, aside_making, aside_no_call, or_false}
use Rattle.assise_model_history.proofs.OneEntryMore.{and_true, opened_more, opened_aside, opened_now, opened_still, AreUp, up_same, up_client, synced_more}
use Rattle.assise_model_history.proofs.OneEntryMore.{synced_still}
use Rattle.assise_model_history.proofs.Shared.InodeMakers.{makes_where_done, sync_still}
use Rattle.assise_model_history.proofs.Shared.NumberedCalls.{kept_call, kept_open, kept_crash, kept_plain}

-- ---- one state after another

-- with the nodes and the history that it has
with_history : (s : State) (k : ℕ) (h : List EntryValue) → s.nodes ≡ k → s.history ≡ h → IsRecorded (record { nodes = k; history = h; world = s.world }) →
    IsRecorded s
with_history s k h nodes same r = grind arith

nodes_of : (s : State) → IsRecorded s → AreUp s.nodes s.history s.world
nodes_of s r = record { nodes = r.nodes; up = r.up; down = r.down }

-- the calls and the counts stay
pub record SameCounts (w w' : World) : Type 0 where
  pub clients : w'.clients ≡ w.clients
  pub next : (c : ℕ) → w'.next c ≡ w.next c
  pub made : (c : ℕ) → w'.made c ≡ w.made c

pub counts_of : (w w' : World) → SameLogs w w' → w'.clients ≡ w.clients → SameCounts w w'
counts_of w w' logs clients = record { clients = clients; next = logs.next; made = logs.made }

client_before : (w w' : World) (c : ℕ) → w'.clients ≡ w.clients → IsClient w' c → IsClient w c
client_before w w' c same h = (h.0, subst (λ k. c ≤ k) same h.1)

-- an entry more that is neither an opening nor a call
pub recorded_aside : (s : State) (e : EntryValue) (s' : State) → IsAside e → IsRecorded s → AddsEntry s e s' → IsLegal (s.history ++ e ∷ []) →
    s'.world.calls ≡ kept_numbered (s.history ++ e ∷ []) → SameCounts s.world s'.world →
    ((c : ℕ) → IsClient s.world c → WasOpened (s.history ++ e ∷ []) s'.world c) →
    NoneFalls s.world s'.world → AreUp s.nodes (s.history ++ e ∷ []) s'.world → IsRecorded s'
recorded_aside s e s' a r adds legal same counts opened falls nodes = with_history s' s.nodes (s.history ++ e ∷ []) adds.nodes adds.entry record {
  legal = legal;
  calls = same;
  count = counts.clients ∙ r.count ∙ sym (count_same is_opening s.history e (aside_opening e a));
  opened = λ c client. opened c (client_before s.world s'.world c counts.clients client);
  next = λ c. counts.next c ∙ r.next c ∙ sym (count_same (is_call_of c) s.history e (aside_call e c a));
  made = λ c. counts.made c ∙ r.made c ∙ sym (count_same (is_making_of c) s.history e (aside_making e c a));
  nodes = nodes.nodes;
  up = nodes.up;
  down = nodes.down;
  synced = λ c. synced_more s.history e c (first_unreplicated s.world c) (first_unreplicated s'.world c) (falls.unreplicated c)
      (λ x is client sync. absurd (aside_no_call e x a is)) (r.synced c);
}

-- ---- an opening

pub opening_fits : (s : State) (n : ℕ) (u : Durability) (s' : State) → IsRecorded s → IsOpening s n u s' → MayOpen s.history (suc s.world.clients) n
opening_fits s n u s' r e = grind arith

opening_of : (s : State) (n : ℕ) (u : Durability) (s' : State) → IsRecorded s → IsOpening s n u s' → (c : ℕ) → IsClient s'.world c →
    WasOpened (s.history ++ opens (suc s.world.clients) n u ∷ []) s'.world c
opening_of s n u s' r e c client = grind (arith, cases_eq, opened_now, opened_more, or_false, and_true)

pub opening_recorded : (s : State) (n : ℕ) (u : Durability) (s' : State) → WorldInvariant s.world → IsRecorded s → IsOpening s n u s' → IsRecorded s'
opening_recorded s n u s' sound r e =
    let d : ℕ = suc s.world.clients in
    let entry : EntryValue = opens d n u in
    let falls : NoneFalls s.world s'.world = step_falls s.world s'.world sound (opens_client n e.world) in
    let nodes : AreUp s.nodes (s.history ++ entry ∷ []) s'.world = up_client s.nodes s.history entry s.world s'.world tt e.world.nodes.full (nodes_of s r) in
    with_history s' s.nodes (s.history ++ entry ∷ []) e.adds.nodes e.adds.entry record {
      legal = legal-open s.history d n u r.legal (opening_fits s n u s' r e);
      calls = e.world.logs.calls ∙ r.calls ∙ sym (kept_open s.history d n u);
      count = e.world.clients ∙ ap suc r.count ∙ sym (count_more is_opening s.history entry refl);
      opened = opening_of s n u s' r e;
      next = λ c. e.world.logs.next c ∙ r.next c ∙ sym (count_same (is_call_of c) s.history entry refl);
      made = λ c. e.world.logs.made c ∙ r.made c ∙ sym (count_same (is_making_of c) s.history entry refl);
      nodes = nodes.nodes;
      up = nodes.up;
      down = nodes.down;
      synced = λ c. synced_more s.history entry c (first_unreplicated s.world c) (first_unreplicated s'.world c) (falls.unreplicated c) (λ x is client sync. cc)
          (r.synced c);
    }

-- ---- a call

ops_plain : (xs : List NumberedCall) → map (λ x. x.op) (map plain_call xs) ≡ ops xs
ops_plain [] = refl
ops_plain (x ∷ xs) = ap (λ os. x.op ∷ os) (ops_plain xs)

exchanges_plain : (xs : List NumberedCall) → map exchange (map plain_call xs) ≡ exchanges xs
exchanges_plain [] = refl
exchanges_plain (x ∷ xs) = ap (λ ps. (x.op, x.reply) ∷ ps) (exchanges_plain xs)

-- the machine's tree is that of the kept calls
pub same_tree : (w : World) (h : List EntryValue) → w.calls ≡ kept_numbered h → tree w ≡ tree_after opening_tree (kept h)
unfolding tree
same_tree w h same = grind (arith, ops_plain w.calls, kept_plain h)

-- and its calls are a run
pub same_run : (w : World) (h : List EntryValue) → WorldInvariant w → w.calls ≡ kept_numbered h → IsRun opening_tree (kept h)
same_run w h sound same = grind (arith, exchanges_plain w.calls, kept_plain h)

-- a client that lives lost no node since its opening
pub no_failure : (s : State) (c : ℕ) (o : WasOpened s.history s.world c) → s.world.lives c ≡ true → list_any (is_failure_of (s.world.home c)) o.opened.since
    ≡ false
no_failure s c o lives = not-true (list_any (is_failure_of (s.world.home c)) o.opened.since) (sym o.lives ∙ lives)

pub call_fits : (s : State) (x : NumberedCall) (s' : State) → WorldInvariant s.world → IsRecorded s → IsCall s x s' → IsNextCall s.history (plain_call x)
call_fits s x s' sound r e =
    let o : WasOpened s.history s.world x.client = r.opened x.client (sound.opened x.client e.world.lives) in
    record {
      ready = record {
        node = s.world.home x.client;
        opened = o.opened;
        no_crash = sym o.crashed ∙ e.world.running;
        no_failure =
            grind arith;
      };
      number = e.world.number ∙ r.next x.client;
    }

pub call_answered : (s : State) (x : NumberedCall) (s' : State) → WorldInvariant s.world → IsRecorded s → IsCall s x s' →
    x.reply ≡ (answer (tree_after opening_tree (kept s.history)) x.op).0
call_answered s x s' sound r e = call_reply s.world s'.world x sound e.world ∙ ap (λ t. (answer t x.op).0) (same_tree s.world s.history r.calls)

-- the call has its number
same_number : (s : State) (x : NumberedCall) (s' : State) → IsRecorded s → IsCall s x s' → numbered_in s.history (plain_call x) ≡ x
same_number s x s' r e = ap (λ f. record x { fresh = f }) (sym (e.world.fresh ∙ ap (inode_number x.client) (r.made x.client)))

call_next : (s : State) (x : NumberedCall) (s' : State) → IsRecorded s → IsCall s x s' → (c : ℕ) →
    s'.world.next c ≡ calls_made c (s.history ++ calls (plain_call x) ∷ [])
call_next s x s' r e c = grind (arith, cases_eq, calls, count_more, eq-eqb, count_same, ne_eqb)

-- whether it made an inode is seen from its reply
made_seen : (w w' : World) (x : NumberedCall) → MakesCall w x w' → makes_inode x.op x.reply ≡ call_makes_inode w x
made_seen w w' x e = ap (makes_inode x.op) e.reply ∙ sym (makes_where_done (view w (w.home x.client) x.client) x.op x.fresh)

call_made : (s : State) (x : NumberedCall) (s' : State) → IsRecorded s → IsCall s x s' → (c : ℕ) →
    s'.world.made c ≡ made_in c (s.history ++ calls (plain_call x) ∷ [])
call_made s x s' r e c = grind (arith, calls, cases_eq, cases_Bool, eq-eqb, made_seen, count_more, count_same, ne_eqb)

-- a sync has no record
sync_end : (w w' : World) (x : NumberedCall) (u : Durability) → MakesCall w x w' → is_sync x.op u ≡ true → end_of_log w' x.client ≡ end_of_log w x.client
unfolding end_of_log
sync_end w w' x u e sync = grind (arith, sync_still, append-nil)

-- what a full node has of the client grows
call_receives : (w w' : World) (x : NumberedCall) (n : ℕ) → MakesCall w x w' → Full w n → end_of_log w x.client ≤ w.received n x.client →
    end_of_log w' x.client ≡ end_of_log w x.client → end_of_log w' x.client ≤ w'.received n x.client
call_receives w w' x n e full had same = grind (arith, cases_eq)

-- and all full nodes still have the others
sync_received : (w w' : World) (x : NumberedCall) (u : Durability) → MakesCall w x w' → is_sync x.op u ≡ true → received_by_all w x.client
    ≡ end_of_log w x.client → received_by_all w' x.client ≡ end_of_log w' x.client
unfolding received_by_all
sync_received w w' x u e sync all = grind (arith, sync_end, received_by_all-end, least_of-above, received_by_all-below, call_receives)

pub sync_replicated : (s : State) (x : NumberedCall) (s' : State) → IsCall s x s' → syncs s.history (plain_call x) ≡ true → first_unreplicated s'.world x.client
    ≡ s'.world.next x.client
sync_replicated s x s' e sync = grind (arith, next_unreplicated, sync_received)

call_synced : (s : State) (x : NumberedCall) (s' : State) → IsCall s x s' → (c : ℕ) (y : Call) → calls (plain_call x) ≡ calls y → y.client ≡ c →
    syncs s.history y ≡ true → y.number < first_unreplicated s'.world c
call_synced s x s' e c y is client sync = grind (arith, sync_replicated)

pub call_recorded : (s : State) (x : NumberedCall) (s' : State) → WorldInvariant s.world → IsRecorded s → IsCall s x s' → IsRecorded s'
call_recorded s x s' sound r e =
    let entry : EntryValue = calls (plain_call x) in
    let falls : NoneFalls s.world s'.world = step_falls s.world s'.world sound (makes_call x e.world) in
    let nodes : AreUp s.nodes (s.history ++ entry ∷ []) s'.world = up_client s.nodes s.history entry s.world s'.world tt e.world.full (nodes_of s r) in
    with_history s' s.nodes (s.history ++ entry ∷ []) e.adds.nodes e.adds.entry record {
      legal = legal-call s.history (plain_call x) r.legal (call_fits s x s' sound r e) (call_answered s x s' sound r e);
      calls = grind (arith, kept_call);
      count = e.world.clients.clients ∙ r.count ∙ sym (count_same is_opening s.history entry refl);
      opened = λ c client. opened_aside s.history entry s.world s'.world c e.world.clients refl refl
          (r.opened c (client_before s.world s'.world c e.world.clients.clients client));
      next = call_next s x s' r e;
      made = call_made s x s' r e;
      nodes = nodes.nodes;
      up = nodes.up;
      down = nodes.down;
      synced = λ c. synced_more s.history entry c (first_unreplicated s.world c) (first_unreplicated s'.world c) (falls.unreplicated c) (call_synced s x s' e c)
          (r.synced c);
    }

-- ---- a crash

pub crash_fits : (s : State) (c : ℕ) (s' : State) → WorldInvariant s.world → IsRecorded s → IsCrash s c s' → IsAlive s.history c
crash_fits s c s' sound r e =
    let o : WasOpened s.history s.world c = r.opened c (sound.opened c e.world.lives) in
    record { node = s.world.home c; opened = o.opened; no_crash = sym o.crashed ∙ e.world.running }

crash_opened : (s : State) (c : ℕ) (s' : State) → IsRecorded s → IsCrash s c s' → (d : ℕ) → IsClient s.world d →
    WasOpened (s.history ++ crashes c ∷ []) s'.world d
crash_opened s c s' r e d client =
    opened_more s.history (crashes c) s.world s'.world d (e.world.home d) crashed (e.world.lives_same d ∙ sym (and_true (s.world.lives d))) (r.opened d client)
  where
    crashed : s'.world.crashed d ≡ (s.world.crashed d || (d == c))
    crashed = elim (cases_eq d c) [
      | inl own ↦ ap (λ k. s'.world.crashed k) own ∙ e.world.crashed_here ∙ sym (or_right (s.world.crashed d) (d == c) (eq-eqb d c own))
      | inr other ↦ e.world.crashed_else d other ∙ rw (ne_eqb d c other) (sym (or_false (s.world.crashed d)))
    ]

pub crash_recorded : (s : State) (c : ℕ) (s' : State) → WorldInvariant s.world → IsRecorded s → IsCrash s c s' → IsRecorded s'
crash_recorded s c s' sound r e =
    recorded_aside s (crashes c) s' tt r e.adds (legal-crash s.history c r.legal (crash_fits s c s' sound r e))
    (e.world.logs.calls ∙ r.calls ∙ sym (kept_crash s.history c)) (counts_of s.world s'.world e.world.logs e.world.clients) (crash_opened s c s' r e)
    (step_falls s.world s'.world sound (crashes_client c e.world))
    (up_client s.nodes s.history (crashes c) s.world s'.world tt e.world.nodes.full (nodes_of s r))

-- ---- no entry more

-- what is quiet leaves the calls, the clients and which nodes are full
record LeavesCalls (w w' : World) : Type 0 where
  calls : w'.calls ≡ w.calls
  next : (c : ℕ) → w'.next c ≡ w.next c
  made : (c : ℕ) → w'.made c ≡ w.made c
  clients : SameClients w w'
  full : w'.full ≡ w.full

leaves : (w w' : World) → SameLogs w w' → SameClients w w' → w'.full ≡ w.full → LeavesCalls w w'
leaves w w' logs clients full = record { calls = logs.calls; next = logs.next; made = logs.made; clients = clients; full = full }

untold_leaves : (w w' : World) → NeedsNoEntry w w' → LeavesCalls w w'
untold_leaves w w' (entered.raises_goals k e) = leaves w w' e.logs e.clients e.nodes.full
untold_leaves w w' (entered.acquires c i mode e) = leaves w w' e.logs e.clients e.nodes.full
untold_leaves w w' (entered.releases c i e) = leaves w w' e.logs e.clients e.nodes.full
untold_leaves w w' (entered.delivers n c k e) = leaves w w' e.logs e.clients e.full
untold_leaves w w' (entered.digests n c k e) = leaves w w' e.logs e.clients e.full
untold_leaves w w' (entered.drops f e) = record { calls = e.calls; next = e.next; made = e.made; clients = e.clients; full = e.full }
untold_leaves w w' (entered.coalesces c s new was e) =
    record { calls = e.tail.calls; next = e.tail.next; made = e.tail.made; clients = e.tail.clients; full = e.tail.full }
untold_leaves w w' (entered.rests e) = leaves w w' e.logs e.clients e.nodes.full

pub untold_moves : (w w' : World) → NeedsNoEntry w w' → Moves w w'
untold_moves w w' (entered.raises_goals k e) = raises_goals k e
untold_moves w w' (entered.acquires c i mode e) = acquires c i mode e
untold_moves w w' (entered.releases c i e) = releases c i e
untold_moves w w' (entered.delivers n c k e) = delivers n c k e
untold_moves w w' (entered.digests n c k e) = digests n c k e
untold_moves w w' (entered.drops f e) = drops f e
untold_moves w w' (entered.coalesces c s new was e) = coalesces c s new was e
untold_moves w w' (entered.rests e) = rests e

pub quiet_recorded : (s s' : State) → WorldInvariant s.world → IsRecorded s → IsUntold s s' → IsRecorded s'
quiet_recorded s s' sound r e =
    let same : LeavesCalls s.world s'.world = untold_leaves s.world s'.world e.world in
    let falls : NoneFalls s.world s'.world = step_falls s.world s'.world sound (untold_moves s.world s'.world e.world) in
    let nodes : AreUp s.nodes s.history s'.world = up_same s.nodes s.history s.history s.world s'.world same.full (λ n d. d) (λ n d. d) (nodes_of s r) in
    with_history s' s.nodes s.history e.nodes e.entries record {
      legal = r.legal;
      calls = same.calls ∙ r.calls;
      count = same.clients.clients ∙ r.count;
      opened = λ c client. opened_still s.history s.world s'.world c same.clients (r.opened c (client_before s.world s'.world c same.clients.clients client));
      next = λ c. same.next c ∙ r.next c;
      made = λ c. same.made c ∙ r.made c;
      nodes = nodes.nodes;
      up = nodes.up;
      down = nodes.down;
      synced = λ c. synced_still s.history c (first_unreplicated s.world c) (first_unreplicated s'.world c) (falls.unreplicated c) (r.synced c);
    }
