-- What the laws observe of a call that is answered.
use Rattle.assise_machine_state.proofs.Common.{◌≡◌, ◌≢◌, ℕ, suc, ◌+◌, ◌<◌, ◌≤◌, Bool, true, false, not, if◌then◌else◌, List, [], ◌∷◌, ◌++◌, length, inl, inr}
use Rattle.assise_machine_state.proofs.Common.{refl, ap, sym, subst, ◌∙◌, arith, cases_Bool, cond_both, calls, durability-still, Effect, has_some, values}
use Rattle.assise_machine_state.proofs.Common.{NumberedCall, log_end, is_border, border_end, ReceivedLog, RegionValue, with_more, MayMakeCall, MakesCall, World}
use Rattle.assise_machine_state.proofs.Common.{call_makes_inode, end_of_log, step_at_home, OtherAreasStay, kept_numbered, made_in, numbered_in, plain_call}
use Rattle.assise_machine_state.proofs.Common.{kept_call, after_call, ClientValue, client_in, with_call, HasLog, log_in, region_in, with_call_in, with_log_in}
use Rattle.assise_machine_state.proofs.Common.{own_node, own_seen, world_of, IsNumber, IsMarked, ShapeInvariant, StateValue, standings}
use Rattle.assise_inode_table.specs.Numbers.{inode_number}
use Rattle.assise_machine_state.proofs.Shared.Fullness.{has_log, home_full, lives_number, lives_unfailed}
use Rattle.assise_machine_state.proofs.Shared.LogChanges.{log_else, log_here, log_same, none_more, region_kept, region_with}
use Rattle.assise_machine_state.proofs.Shared.Marks.{called, called_border, marked_as, marked_called, so_many_marks}
use Rattle.assise_machine_state.proofs.Shared.ItemSeen.{client_else, client_here, client_same, each_number, length-with}
use Rattle.assise_machine_state.proofs.Shared.ShapeKept.{AreMarked, kept_marks, own_marked, shaped_as}
use Rattle.assise_machine_state.proofs.SameObserved.{leases_as}

-- ---- the log at home

module _ (rs : List RegionValue) (n c call : ℕ) (es : List Effect) where
  abbrev more : ReceivedLog
  more = with_more (log_in rs n c) (record { call = call; effects = es })

  call_here : HasLog rs n c → log_in (with_call_in rs n c call es) n c ≡ called call es (log_in rs n c)
  call_here has =
      elim (cases_Bool (has_some es)) [
        | inl some ↦ rw some (log_here rs n c (region_in rs n).inodes more has)
        | inr none ↦ rw none (sym (none_more (λ k. true) (log_in rs n c)))
      ]

  -- what holds of the nodes with the record, and of them as they were, holds then
  either_way : (P : List RegionValue → Type 0) → P (with_log_in rs n c more) → P rs → P (with_call_in rs n c call es)
  either_way P some none = cond_both (has_some es) (with_log_in rs n c more) rs P (λ _. some) (λ _. none)

  call_else : HasLog rs n c → (m d : ℕ) → (m ≡ n → d ≡ c → ⊥) → log_in (with_call_in rs n c call es) m d ≡ log_in rs m d
  call_else has m d other = either_way (λ q. log_in q m d ≡ log_in rs m d) (log_else rs n c (region_in rs n).inodes more has m d other) refl

  -- all but records stay
  call_log_kept : {A : Type 0} (f : ReceivedLog → A) → f more ≡ f (log_in rs n c) → (m d : ℕ) → f (log_in (with_call_in rs n c call es) m d) ≡ f (log_in rs m d)
  call_log_kept f same m d = either_way (λ q. f (log_in q m d) ≡ f (log_in rs m d)) (log_same rs n c (region_in rs n).inodes more f m d same) refl

  call_region_kept : {A : Type 0} (f : RegionValue → A) → f (region_with rs n c (region_in rs n).inodes more) ≡ f (region_in rs n) → (m : ℕ) →
      f (region_in (with_call_in rs n c call es) m) ≡ f (region_in rs m)
  call_region_kept f same m =
      either_way (λ q. f (region_in q m) ≡ f (region_in rs m)) (region_kept rs n (region_with rs n c (region_in rs n).inodes more) f same m) refl

  so_many_nodes : length (with_call_in rs n c call es) ≡ length rs
  so_many_nodes = either_way (λ q. length q ≡ length rs) (length-with rs n (region_with rs n c (region_in rs n).inodes more)) refl

  so_many_logs : (m : ℕ) → length (region_in (with_call_in rs n c call es) m).logs ≡ length (region_in rs m).logs
  so_many_logs = call_region_kept (λ r. length r.logs) (length-with (region_in rs n).logs c more)

-- ---- counts

plus_one : (b : Bool) (k : ℕ) → (if b then k + 1 else k) ≡ (if b then suc k else k)
plus_one b k = grind arith

few_made : (b : Bool) (k : ℕ) → k ≤ 1048576 → (b ≡ true → k < 1048576) → (if b then suc k else k) ≤ 1048576
few_made b k h1 h2 = grind arith

-- ---- the state

module _ (s : StateValue) (x : NumberedCall) where
  abbrev c : ℕ
  c = x.client

  abbrev home : ℕ
  home = (client_in s.clients c).home

  abbrev w : World
  w = world_of s

  abbrev es : List Effect
  es = (step_at_home w x).effects

  abbrev now : ClientValue
  now = with_call (call_makes_inode w x) (client_in s.clients c)

  abbrev s' : StateValue
  s' = after_call s x

  abbrev w' : World
  w' = world_of s'

  -- areas stay
  area_kept : (k i : ℕ) → w'.area k i ≡ w.area k i
  unfolding world_of
  area_kept k i = ap (λ r. values r i) (call_region_kept s.nodes home c x.number es (λ r. r.inodes) refl k)

  pub call_areas : OtherAreasStay w w'
  call_areas k i away = area_kept k i

  -- logs stay but their records
  kept : {A : Type 0} (f : ReceivedLog → A) → f (with_more (log_in s.nodes home c) (record { call = x.number; effects = es })) ≡ f (log_in s.nodes home c) →
      (n d : ℕ) →
      f (log_in s'.nodes n d) ≡ f (log_in s.nodes n d)
  kept f same n d = call_log_kept s.nodes home c x.number es f same n d

  so_many_clients : length s'.clients ≡ length s.clients
  so_many_clients = length-with s.clients c now

  stays : {A : Type 0} (f : ClientValue → A) → f now ≡ f (client_in s.clients c) → (d : ℕ) → f (client_in s'.clients d) ≡ f (client_in s.clients d)
  stays f same = client_same f s.clients c now same

  -- each client's own log is where it was
  own_now : (d : ℕ) → own_seen s' d ≡ log_in s'.nodes (own_node (standings s) (client_in s.clients d)) d
  unfolding own_seen
  own_now d = ap (λ n. log_in s'.nodes n d) (stays (own_node (standings s)) refl d)

  own_kept : {A : Type 0} (f : ReceivedLog → A) → f (with_more (log_in s.nodes home c) (record { call = x.number; effects = es })) ≡ f (log_in s.nodes home c) →
      (d : ℕ) →
      f (own_seen s' d) ≡ f (own_seen s d)
  unfolding own_seen
  own_kept f same d = ap f (own_now d) ∙ kept f same (own_node (standings s) (client_in s.clients d)) d

  module _ (there : IsNumber s.clients c) (has : HasLog s.nodes home c) (unfailed : (client_in s.clients c).failed ≡ false) where
    own_is_home : own_node (standings s) (client_in s.clients c) ≡ home
    own_is_home = rw unfailed refl

    home_log : log_in s'.nodes home c ≡ called x.number es (log_in s.nodes home c)
    home_log = call_here s.nodes home c x.number es has

    else_log : (n d : ℕ) → (n ≡ home → d ≡ c → ⊥) → log_in s'.nodes n d ≡ log_in s.nodes n d
    else_log = call_else s.nodes home c x.number es has

    own_here : own_seen s' c ≡ log_in s'.nodes home c
    own_here = own_now c ∙ ap (λ n. log_in s'.nodes n c) own_is_home

    own_before : own_seen s c ≡ log_in s.nodes home c
    unfolding own_seen
    own_before = ap (λ n. log_in s.nodes n c) own_is_home

    own_called : own_seen s' c ≡ called x.number es (own_seen s c)
    own_called = own_here ∙ home_log ∙ ap (called x.number es) (sym own_before)

    own_else : (d : ℕ) → d ≢ c → own_seen s' d ≡ own_seen s d
    unfolding own_seen
    own_else d other = own_now d ∙ else_log (own_node (standings s) (client_in s.clients d)) d (λ _ same. other same)

    -- ---- its shape

    -- the client's own log has its groups, and so has each node's
    own_borders : AreMarked s → (k : ℕ) → is_border (own_seen s' c).log k ≡ is_border (own_seen s c).log k
    own_borders all k = grind (arith, own_called, called_border, so_many_marks, own_marked)

    marked_here : AreMarked s → (n : ℕ) → IsMarked (is_border (own_seen s' c).log) (log_in s'.nodes n c).log
    marked_here all n = grind (arith, each_number, own_here, own_called, marked_called, own_marked, else_log, marked_as, own_borders)

    marked_now : AreMarked s → AreMarked s'
    marked_now all n d = grind (arith, each_number, marked_here, kept_marks, own_else, else_log)

    shaped : ShapeInvariant s → ShapeInvariant s'
    shaped shape =
        let home = stays (λ y. y.home) refl in
        let failed = stays (λ y. y.failed) refl in
        let durability = stays (λ y. y.durability) refl in
        let limits = kept (λ l. l.log.limit) refl in
        let at_home = kept (λ l. l.at_home) refl in
        let opened = λ (d : ℕ). durability-still s.history (calls (plain_call x)) d refl in
        shaped_as s s' shape (search (so_many_nodes, so_many_logs, so_many_clients, marked_now) parts 3)

    -- the history has the call as it was made
    same_call : w.made c ≡ made_in c s.history → x.fresh ≡ inode_number c (w.made c) → numbered_in s.history (plain_call x) ≡ x
    same_call counted fresh = grind arith

    -- the client's counts
    next_now : x.number ≡ w.next c → w'.next c ≡ suc x.number
    unfolding world_of
    next_now number = grind (arith, client_here)

    made_now : w'.made c ≡ (if call_makes_inode w x then suc (w.made c) else w.made c)
    unfolding world_of
    made_now = grind (arith, client_here, plus_one)

    border_kept : AreMarked s → (d k : ℕ) → k ≤ end_of_log w d → w'.border d k ≡ w.border d k
    unfolding world_of
    border_kept all d k old = grind (arith, each_number, own_borders, own_else)

    border_ends : AreMarked s → w'.border c (end_of_log w' c) ≡ true
    unfolding world_of end_of_log
    border_ends all = grind (arith, own_marked, marked_now, border_end, so_many_marks)

    call_of : ShapeInvariant s → w.made c ≡ made_in c s.history → w.made c ≤ 1048576 → MayMakeCall w x → MakesCall w x w'
    unfolding world_of end_of_log
    call_of shape counted few may = record {
      lives = may.lives;
      running = may.running;
      number = may.number;
      fresh = may.fresh;
      reply = may.reply;
      held = may.held;
      written = may.written;
      calls = kept_call s.history (plain_call x) ∙ ap (λ y. kept_numbered s.history ++ y ∷ []) (same_call counted may.fresh);
      records_own = ap (λ l. l.log.records) own_called;
      records_else = λ d other. ap (λ l. l.log.records) (own_else d other);
      first = own_kept (λ l. l.log.first) refl;
      border_old = border_kept shape.marked;
      border_new = border_ends shape.marked;
      next_own = next_now may.number;
      next_else = λ d other. ap (λ y. y.next) (client_else s.clients c now there d other);
      made_own = made_now;
      made_else = λ d other. ap (λ y. y.made) (client_else s.clients c now there d other);
      made_few = subst (λ k. k ≤ 1048576) (sym made_now) (few_made (call_makes_inode w x) (w.made c) few may.room);
      log_home = ap (λ l. l.log.records) home_log;
      log_else = λ n d f other. ap (λ l. l.log.records) (else_log n d other);
      received_home = ap (λ l. log_end l.log) (sym own_here);
      received_else = λ n d f other. ap (λ l. log_end l.log) (else_log n d other);
      digested = λ n d f. kept (λ l. l.digested) refl n d;
      area = λ n i f. area_kept n i;
      full = refl;
      clients = record {
        clients = so_many_clients;
        home = stays (λ y. y.home) refl;
        lives = stays (λ y. not y.failed) refl;
        crashed =
            stays (λ y. y.crashed) refl;
      };
      goals = stays (λ y. y.goal) refl;
      leases = leases_as s s' (λ i. refl);
    }

  pub call_seen : ShapeInvariant s → w.made c ≡ made_in c s.history → w.made c ≤ 1048576 → MayMakeCall w x → MakesCall w x w'
  call_seen shape counted few may =
      let there : IsNumber s.clients c = lives_number s c may.lives in
      let unfailed : (client_in s.clients c).failed ≡ false = lives_unfailed s c may.lives in
      call_of there (has_log s home c shape (home_full s c shape unfailed) there) unfailed shape counted few may

  pub call_shaped : ShapeInvariant s → w.lives c ≡ true → ShapeInvariant s'
  call_shaped shape lives =
      let there : IsNumber s.clients c = lives_number s c lives in
      let unfailed : (client_in s.clients c).failed ≡ false = lives_unfailed s c lives in
      shaped there (has_log s home c shape (home_full s c shape unfailed) there) unfailed shape
