-- Those who are asked for their leases are lent their own logs, and their revokers answer cuts of these.
use Rattle.assise_machine_calls.proofs.Common.{◌≡◌, ℕ, ◌<◌, ◌≤◌, nat_le, Bool, true, false, not, ◌&&◌, if◌then◌else◌, List, [], ◌∷◌, ◌++◌, filter, length}
use Rattle.assise_machine_calls.proofs.Common.{Option, Some, None, inl, inr, refl, ap, sym, subst, ◌∙◌, arith, append-nil, and_parts, cases_Bool, le-leb}
use Rattle.assise_machine_calls.proofs.Common.{leb-true, true≢false, length-map, Mode, NumberedLog, is_border, RegionValue, AnswerAll, IsRaisedAnswer}
use Rattle.assise_machine_calls.proofs.Common.{clients_of, Asked, Lease, Among, holders, is_to_ask, lease_of, in_way, is_revoked, IsAskedFor, TwoLevels}
use Rattle.assise_machine_calls.proofs.Common.{is_free_for, Standing, full_nodes, AreLeases, is_held, client_fault, MachineInvariant, client_runs, after_asking}
use Rattle.assise_machine_calls.proofs.Common.{with_goals, ClientValue, client_in, with_client, with_goal, log_in, observed, own_node, own_seen, world_of}
use Rattle.assise_machine_calls.proofs.Common.{IsNumber, AreAnswers, CutsInvariant, ShapeInvariant, StateValue, leases_of, standings, running_number}
use Rattle.assise_machine_calls.proofs.Common.{has_own_log, length-with, areas_stay, AsksThem, CutsAreAnswers, clients_log, client_log}
use Rattle.assise_private_log.specs.Touches.{Covers}
use Rattle.assise_private_log.proofs.Shared.Borders.{next_border}
use Rattle.assise_lease_tree.proofs.Shared.ClientHomes.{lease_found}
use Rattle.assise_lease_tree.specs.declared.request.Request.{Request}
use Rattle.assise_machine_state.proofs.Shared.AskingSeen.{asking_noted, asking_seen, asking_shaped, newly_answered}
use Rattle.assise_machine_state.proofs.Shared.ShapeKept.{own_marked}
use Rattle.assise_machine_calls.proofs.LeaseFacts.{are_leases}

-- ---- own logs

module _ (rs : List RegionValue) (nodes : List Standing) (cs : List ClientValue) (c : ℕ) where
  abbrev log_of_client : NumberedLog
  log_of_client = (log_in rs (own_node nodes (client_in cs c)) c).log

  pub lent : IsNumber cs c → client_log rs nodes cs c ≡ Some log_of_client
  lent there =
      let some : 1 ≤ c = omega (arith, there.some) in
      rw (le-leb 1 c some, le-leb c (length cs) there.there) refl

  pub lent_to : (l : NumberedLog) → client_log rs nodes cs c ≡ Some l → IsNumber cs c × (l ≡ log_of_client)
  lent_to l e =
      elim (cases_Bool (nat_le 1 c && nat_le c (length cs))) [
        | inl known ↦
            let parts = and_parts (nat_le 1 c) (nat_le c (length cs)) known in
            let is : Some log_of_client ≡ Some l = subst (λ b. (if b then Some log_of_client else None) ≡ Some l) known e in
            let some : 1 ≤ c = leb-true 1 c parts.0 in
            (record { some = omega (arith, some); there = leb-true c (length cs) parts.1 }, cc)
        | inr unknown ↦ absurd (let none : None ≡ Some l = subst (λ b. (if b then Some log_of_client else None) ≡ Some l) unknown e in cc)
      ]

-- a client whose lease isn't revoked runs
pub running_holder : (s : StateValue) (i : ℕ) (l : Lease) → AreLeases (world_of s) (leases_of s) → Among (s.levels.clients i) l → l.revoked ≡ false →
    IsNumber s.clients l.holder
unfolding world_of leases_of
running_holder s i l leases among free =
    let found : lease_of (s.levels.clients i) l.holder ≡ Some l = lease_found (s.levels.clients i) (leases.lawful.clients_compatible i) l.holder l among refl in
    let held : is_held (lease_of (s.levels.clients i) l.holder) ≡ true = ap is_held found in
    let unrevoked : is_revoked (lease_of (s.levels.clients i) l.holder) ≡ false = ap is_revoked found ∙ free in
    running_number s.clients l.holder
    (elim (cases_Bool (client_in s.clients l.holder).crashed) [
      | inl over ↦ absurd (true≢false (sym (leases.crashed l.holder i over held) ∙ unrevoked))
      | inr runs ↦
          elim (cases_Bool (client_in s.clients l.holder).failed) [
            | inl over ↦ absurd (true≢false (sym (leases.failed l.holder i (ap not over) held) ∙ unrevoked))
            | inr lives ↦ rw (runs, lives) refl
          ]
    ])

-- ---- the answers

not_longer : {X : Type 0} (p : X → Bool) (xs : List X) → length (filter p xs) ≤ length xs
not_longer p [] = omega arith
not_longer p (x ∷ xs) =
    let rest = not_longer p xs in
    elim (cases_Bool (p x)) [
      | inl kept ↦ rw kept (omega (arith, rest))
      | inr left ↦ rw left (omega (arith, rest))
    ]

pub few_asked : (choice : Lease → Bool) (ls : List Lease) (asked : List Asked) → clients_of asked ≡ holders (filter (is_to_ask choice) ls) →
    length asked ≤ length ls
few_asked choice ls asked who =
    let same : length asked ≡ length (filter (is_to_ask choice) ls) = sym (length-map asked (λ a. a.client)) ∙ ap length who
    ∙ length-map (filter (is_to_ask choice) ls) (λ l. l.holder) in
    omega (arith, same, not_longer (is_to_ask choice) ls)

module _ {C : Type 0} (answers : C → NumberedLog → ℕ → ℕ → Type 0) (stored : ℕ → Option C) (s : StateValue) (c i n : ℕ) (mode : Mode) (asked : List Asked)
    (shape : ShapeInvariant s) (some_full : 0 < length (full_nodes (standings s))) (home : n ≡ (client_in s.clients c).home)
    (all : AnswerAll answers stored (client_log s.nodes (standings s) s.clients) i (in_way s.levels.home (s.levels.nodes i) c n mode) (s.levels.clients i)
    asked) where
  pub asked_number : (a : Asked) → Among asked a → IsNumber s.clients a.client
  asked_number a among = (lent_to s.nodes (standings s) s.clients a.client (all.each a among).view (all.each a among).seen).0

  own_is : (d : ℕ) → IsNumber s.clients d → (log_in s.nodes (own_node (standings s) (client_in s.clients d)) d).log ≡ (own_seen s d).log
  unfolding own_seen
  own_is d there = refl

  covered : (a : Asked) → Among asked a → Covers (own_seen s a.client).log i a.cut
  covered a among =
      let answer = all.each a among in
      let known = lent_to s.nodes (standings s) s.clients a.client answer.view answer.seen in
      subst (λ l. Covers l i a.cut) (known.1 ∙ own_is a.client known.0) answer.covers

  at_border : (a : Asked) → Among asked a → is_border (own_seen s a.client).log a.cut ≡ true
  at_border a among =
      let answer = all.each a among in
      let known = lent_to s.nodes (standings s) s.clients a.client answer.view answer.seen in
      let border : is_border answer.view a.cut ≡ true = ap (is_border answer.view) answer.answered.cut_is
      ∙ (next_border answer.view answer.answered.answer).border in
      subst (λ l. is_border l a.cut ≡ true) (known.1 ∙ own_is a.client known.0) border

  -- what its revoker answered for its own log
  log_lent : (d : ℕ) → IsNumber s.clients d → (log_in s.nodes (own_node (standings s) (client_in s.clients d)) d).log ≡ clients_log (observed s) d
  unfolding observed world_of
  log_lent d there =
      let own = own_is d there in
      let limit = shape.limits (own_node (standings s) (client_in s.clients d)) d (has_own_log s d shape there some_full) in
      let begins = ap (λ l. l.begins) own ∙ own_marked s shape.marked d in
      λ k. record { first = (own k).first; limit = limit k; records = (own k).records; begins = begins k }

  cut_answered : (a : Asked) → Among asked a → (revoker : C) × (stored a.client ≡ Some revoker) × IsRaisedAnswer answers revoker
      (clients_log (observed s) a.client) i a.cut
  cut_answered a among =
      let answer = all.each a among in
      let known = lent_to s.nodes (standings s) s.clients a.client answer.view answer.seen in
      (answer.revoker, answer.stored, subst (λ l. IsRaisedAnswer answers answer.revoker l i a.cut) (known.1 ∙ log_lent a.client known.0) answer.answered)

  pub are_answers : AreAnswers s c i mode asked
  are_answers = record {
    who = all.who ∙ ap (λ m. holders (filter (is_to_ask (in_way s.levels.home (s.levels.nodes i) c m mode)) (s.levels.clients i))) home;
    inodes = λ a among. (all.each a among).inode_is;
    covers = covered;
    borders = at_border;
  }

-- ---- all of it

module _ (s : StateValue) (c i n : ℕ) (mode : Mode) (levels : TwoLevels) (asked : List Asked) (holds : ∥ MachineInvariant (observed s) ∥₁)
    (shape : ShapeInvariant s) (noted : CutsInvariant s) (fine : client_fault (observed s) c ≡ None)
    (home : n ≡ (client_in s.clients c).home) (busy : is_free_for s.levels c n i mode ≡ false) (asks : IsAskedFor s.levels levels c n i mode)
    (answers : AreAnswers s c i mode asked) where
  abbrev s' : StateValue
  s' = after_asking s levels asked

  home_is : n ≡ (world_of s).home c
  unfolding world_of
  home_is = home

  asks_now : IsAskedFor s.levels levels c ((world_of s).home c) i mode
  asks_now = subst (λ m. IsAskedFor s.levels levels c m i mode) home_is asks

  pub asks_them : AsksThem (observed s) (record { client = c; node = n; inode = i; mode = mode }) (observed s')
  unfolding observed world_of
  asks_them =
      let runs = client_runs (observed s) c fine in
      record {
        asks = asking_seen s c i mode levels asked noted (are_leases s holds) asks_now answers runs.0 runs.1
            (subst (λ m. is_free_for s.levels c m i mode ≡ false) home_is busy);
        adds = record { history = sym (append-nil s.history); limit = refl; hot = refl };
        keeps = record { members = refl; others = areas_stay s s' refl };
      }

  pub asked_noted : CutsInvariant s'
  unfolding world_of
  asked_noted = asking_noted s c i mode levels asked noted (are_leases s holds) asks_now answers

  pub asked_shaped : ShapeInvariant s'
  asked_shaped = asking_shaped s levels asked shape

-- what is asked, with the invariant after it
pub record IsAsked (s : StateValue) (r : Request) (s' : StateValue) : Type 0 where
  pub happens : AsksThem (observed s) r (observed s')
  pub shape : ShapeInvariant s'
  pub noted : CutsInvariant s'

-- ---- what the code has

module _ {C : Type 0} (answers : C → NumberedLog → ℕ → ℕ → Type 0) (stored : ℕ → Option C) (s : StateValue) (r : Request) (levels : TwoLevels)
    (asked : List Asked)
    (holds : ∥ MachineInvariant (observed s) ∥₁) (shape : ShapeInvariant s) (noted : CutsInvariant s) (some_full : 0 < length (full_nodes (standings s)))
    (fine : client_fault (observed s) r.client ≡ None)
    (home : r.node ≡ (client_in s.clients r.client).home) (busy : is_free_for s.levels r.client r.node r.inode r.mode ≡ false)
    (asks : IsAskedFor s.levels levels r.client r.node r.inode r.mode)
    (all : AnswerAll answers stored (client_log s.nodes (standings s) s.clients) r.inode (in_way s.levels.home (s.levels.nodes r.inode) r.client r.node r.mode)
    (s.levels.clients r.inode) asked) where
  here : AreAnswers s r.client r.inode r.mode asked
  here = are_answers answers stored s r.client r.inode r.node r.mode asked shape some_full home all

  -- and what is revoked has as its cut what was answered
  cuts_asked : CutsAreAnswers answers stored (observed s) (observed (after_asking s levels asked))
  unfolding observed
  cuts_asked d j fresh =
      let asks_home : IsAskedFor s.levels levels r.client (client_in s.clients r.client).home r.inode r.mode =
      subst (λ m. IsAskedFor s.levels levels r.client m r.inode r.mode) home asks in
      let found = newly_answered s r.client r.inode r.mode levels asked noted (are_leases s holds) asks_home here d j fresh in
      let a = found.1 in
      let got = cut_answered answers stored s r.client r.inode r.node r.mode asked shape some_full home all a.0 a.1 in
      let cut = (leases_of (after_asking s levels asked)).cut in
      let at_cut : IsRaisedAnswer answers got.0 (clients_log (observed s) a.0.client) r.inode (cut d r.inode) =
      subst (λ k. IsRaisedAnswer answers got.0 (clients_log (observed s) a.0.client) r.inode k) (sym a.3) got.2 in
      let of_holder : IsRaisedAnswer answers got.0 (clients_log (observed s) d) r.inode (cut d r.inode) =
      subst (λ c. IsRaisedAnswer answers got.0 (clients_log (observed s) c) r.inode (cut d r.inode)) a.2 at_cut in (
        got.0,
        subst (λ c. stored c ≡ Some got.0) a.2 got.1,
        subst (λ k. IsRaisedAnswer answers got.0 (clients_log (observed s) d) k (cut d k)) (sym found.0) of_holder,
      )

  all_asked : IsAsked s r (after_asking s levels asked)
  all_asked = record {
    happens = asks_them s r.client r.inode r.node r.mode levels asked holds shape noted fine home busy asks here;
    shape = asked_shaped s r.client r.inode r.node r.mode levels asked holds shape noted fine home busy asks here;
    noted = asked_noted s r.client r.inode r.node r.mode levels asked holds shape noted fine home busy asks here;
  }

  pub is_asked_in : (cs : List ClientValue) (before cuts rest : List Asked) → rest ≡ asked → before ≡ s.cuts → cs ≡ with_goals rest s.clients →
      cuts ≡ before ++ rest →
      IsAsked s r (record s { clients = cs; levels = levels; cuts = cuts })
  is_asked_in cs before cuts rest left kept goals noted_now =
      let clients : with_goals asked s.clients ≡ cs = sym (goals ∙ ap (λ xs. with_goals xs s.clients) left) in
      let list : s.cuts ++ asked ≡ cuts = sym (noted_now ∙ (λ k. kept k ++ left k)) in
      subst (IsAsked s r) (λ k. record s { clients = clients k; levels = levels; cuts = list k }) all_asked

  pub cuts_in : (cs : List ClientValue) (before cuts rest : List Asked) → rest ≡ asked → before ≡ s.cuts → cs ≡ with_goals rest s.clients →
      cuts ≡ before ++ rest →
      CutsAreAnswers answers stored (observed s) (observed (record s { clients = cs; levels = levels; cuts = cuts }))
  cuts_in cs before cuts rest left kept goals noted_now =
      let clients : with_goals asked s.clients ≡ cs = sym (goals ∙ ap (λ xs. with_goals xs s.clients) left) in
      let list : s.cuts ++ asked ≡ cuts = sym (noted_now ∙ (λ k. kept k ++ left k)) in
      subst (λ t. CutsAreAnswers answers stored (observed s) (observed t)) (λ k. record s { clients = clients k; levels = levels; cuts = list k }) cuts_asked

-- with the next client's goal raised there are the same clients
pub still_known : (cs ds : List ClientValue) (c to : ℕ) → ds ≡ with_client cs c (with_goal to (client_in cs c)) → (d : ℕ) → IsNumber cs d → IsNumber ds d
still_known cs ds c to is d there =
    let same : length ds ≡ length cs = ap length is ∙ length-with cs c (with_goal to (client_in cs c)) in
    record { some = there.some; there = subst (λ k. d ≤ k) (sym same) there.there }
