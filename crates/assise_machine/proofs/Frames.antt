-- What a node sends of a client's log, as the laws have it.
use Rattle.assise_machine.proofs.Common.{append-nil, length-append, ◌≡◌, ℕ, zero, suc, ◌-◌, ◌<◌, ◌≤◌, ◌==◌, min, Bool, true, List, [], ◌∷◌, ◌++◌, length}
use Rattle.assise_machine.proofs.Common.{Option, Some, None, inl, inr, refl, ap, sym, ◌∙◌, arith, eq-eqb, option_to_list, ∥∥₁_elim, props, cases_Bool, cases_eq}
use Rattle.assise_machine.proofs.Common.{or_left, or_right, WrongPhase, MOST_CLIENTS, LogFrame, log_end, is_border, behind, chain, first_of_all, LogRecord}
use Rattle.assise_machine.proofs.Common.{level_of, sends_marks, contains, Standing, full_nodes, standing_of, contains-filter, node_fault, unless_full}
use Rattle.assise_machine.proofs.Common.{MachineInvariant, Machine, for_node, frame_for, frames_to, border_marks, next_node, node_log, client_in, HasLog}
use Rattle.assise_machine.proofs.Common.{log_in, is_full_in, observed, own_seen, stands_full, world_of, IsNumber, ShapeInvariant, StateValue, standings}
use Rattle.assise_machine.proofs.Common.{less_one, has_log, same_first, seen_full, listed_is_full}
use Rattle.assise_chain.specs.Messages.{frame_of, message_of}
use Rattle.assise_inode_table.proofs.Shared.EffectValues.{contains-append}

-- ---- a node at which nothing is wrong is full

stands_fine : (o : Option Standing) → unless_full WrongPhase o ≡ None → stands_full o ≡ true
stands_fine o fine = grind arith

pub fine_node : (s : StateValue) (n : ℕ) → node_fault (observed s) n ≡ None → is_full_in (standings s) n ≡ true
unfolding observed is_full_in
fine_node s n fine = stands_fine (standing_of (standings s) n) fine

-- ---- who stands behind another in a chain is one of its nodes

first_there : (ns : List ℕ) (k : ℕ) → first_of_all ns ≡ Some k → contains ns k ≡ true
first_there ns k is = grind (arith, or_left, eq-eqb)

behind_there : (ns : List ℕ) (n k : ℕ) → behind n ns ≡ Some k → contains ns k ≡ true
behind_there [] n k is = cc
behind_there (m ∷ ns) n k is =
    elim (cases_Bool (m == n)) [
      | inl here ↦ (let next : first_of_all ns ≡ Some k = rw here at is in or_right (m == k) (contains ns k) (first_there ns k next))
      | inr other ↦ (let later : behind n ns ≡ Some k = rw other at is in or_right (m == k) (contains ns k) (behind_there ns n k later))
    ]

chain_there : (ns : List ℕ) (head k : ℕ) → contains (chain ns head) k ≡ true → contains ns k ≡ true
chain_there ns head k there = grind (arith, contains-append, contains-filter)

next_full : (nodes : List Standing) (head n k : ℕ) → behind n (chain (full_nodes nodes) head) ≡ Some k → is_full_in nodes k ≡ true
next_full nodes head n k is = listed_is_full nodes k (chain_there (full_nodes nodes) head k (behind_there (chain (full_nodes nodes) head) n k is))

-- ---- what there is to send of a client

pub few_clients : (s : StateValue) → ∥ MachineInvariant (observed s) ∥₁ → length s.clients ≤ MOST_CLIENTS
unfolding observed world_of
few_clients s holds = ∥∥₁_elim holds (search props) (λ h. h.clients)

module _ (s : StateValue) (n c : ℕ) (shape : ShapeInvariant s) (holds : ∥ MachineInvariant (observed s) ∥₁) (client : IsNumber s.clients c)
  where
    -- the node behind this one in the chain
    abbrev next : Option ℕ
    next = behind n (chain (full_nodes (standings s)) (client_in s.clients c).home)

    pub next_log : (k : ℕ) → next ≡ Some k → HasLog s.nodes k c
    next_log k is = has_log s k c shape (next_full (standings s) (client_in s.clients c).home n k is) client

    pub none_sent : None ≡ next → [] ≡ frame_for (observed s) n c (next_node (observed s) n c)
    unfolding observed world_of
    none_sent is = ap (frame_for (observed s) n c) is

    module _ (full_node : is_full_in (standings s) n ≡ true)
      where
        first_is : (observed s).world.first c ≡ (log_in s.nodes n c).log.first
        unfolding observed
        first_is = sym (∥∥₁_elim holds (search props) (λ h. same_first s n c h.sound (seen_full s n full_node)))

        -- as the node has it
        log_as : node_log (observed s) n c ≡ (log_in s.nodes n c).log
        unfolding observed world_of
        log_as =
            let l = (log_in s.nodes n c).log in
            let limit : s.limit ≡ l.limit = sym (shape.limits n c (has_log s n c shape full_node client)) in
            let begins : border_marks (is_border (own_seen s c).log) ((world_of s).first c) l.records ≡ l.begins =
            ap (λ k. border_marks (is_border (own_seen s c).log) k l.records) first_is ∙ sym (shape.marked n c) in
            λ i. record { first = first_is i; limit = limit i; records = l.records; begins = begins i }

        pub some_sent : (k : ℕ) → next ≡ Some k →
            frame_for (observed s) n c (next_node (observed s) n c)
            ≡ for_node k (message_of (log_in s.nodes n c).log (sends_marks (level_of s.members.levels n)) s.members.epoch c (log_end (log_in s.nodes k c).log)
            (min (client_in s.clients c).goal (log_end (log_in s.nodes n c).log)))
        unfolding observed world_of
        some_sent k is =
            let l = (log_in s.nodes n c).log in
            let from = log_end (log_in s.nodes k c).log in
            let to = min (client_in s.clients c).goal (log_end l) in
            ap (frame_for (observed s) n c) is
            ∙ ap (λ log. for_node k (message_of log (sends_marks (level_of s.members.levels n)) s.members.epoch c from to)) log_as

-- ---- the frames of all clients

pub all_clients : (s : StateValue) → (observed s).world.clients ≡ length s.clients
unfolding observed world_of
all_clients s = refl

module _ (m : Machine) (n c : ℕ) {frames more : List (LogFrame × ℕ)} (one : Option (LogFrame × ℕ)) (some : 0 < c) (first : frames ≡ frames_to m n (c - 1))
    (is : option_to_list one ≡ frame_for m n c (next_node m n c))
  where
    one_more : more ≡ frames ++ option_to_list one → more ≡ frames_to m n c
    one_more all = all ∙ (λ i. first i ++ is i) ∙ next c some
      where
        next : (k : ℕ) → 0 < k → frames_to m n (k - 1) ++ frame_for m n k (next_node m n k) ≡ frames_to m n k
        next zero none = absurd (omega (arith, none))
        next (suc k) here = rw (less_one k) refl

    pub with_frame : {f : LogFrame × ℕ} → one ≡ Some f → more ≡ frames ++ f ∷ [] → more ≡ frames_to m n c
    with_frame found added = one_more (added ∙ ap (λ o. frames ++ option_to_list o) (sym found))

    pub without_frame : one ≡ None → more ≡ frames → more ≡ frames_to m n c
    without_frame none same = one_more (same ∙ sym (append-nil frames) ∙ ap (λ o. frames ++ option_to_list o) (sym none))

-- ---- there is something to send

-- a frame without records isn't sent
pub nothing_sent : (k : ℕ) (marked : Bool) (epoch c first : ℕ) (rs : List LogRecord) (last : List Bool) → for_node k (frame_of marked epoch c first rs last)
    ≡ [] → rs ≡ []
nothing_sent k marked epoch c first rs last none = grind arith

-- where a frame is sent it is one
pub is_one : {X : Type 0} {x : X} {xs : List X} → x ∷ [] ≡ xs → xs ≡ [] → ⊥
is_one one none = (let both = one ∙ none in cc)

some_long : {X : Type 0} (xs : List X) → (xs ≡ [] → ⊥) → 0 < length xs
some_long [] some = absurd (some refl)
some_long (x ∷ xs) some = omega arith

-- what is sent of one client is sent of all
pub some_frames : (m : Machine) (n c k : ℕ) → 0 < c → c ≤ k → (frame_for m n c (next_node m n c) ≡ [] → ⊥) → 0 < length (frames_to m n k)
some_frames m n c zero client low some = absurd (omega (arith, client, low))
some_frames m n c (suc k) client low some =
    let both = length-append (frames_to m n k) (frame_for m n (suc k) (next_node m n (suc k))) in
    elim (cases_eq c (suc k)) [
      | inl last ↦
          grind arith
      | inr before ↦
          let below : c ≤ k = omega (arith, low, before) in
          let there = some_frames m n c k client below some in
          omega (arith, both, there)
    ]
