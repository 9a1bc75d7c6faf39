-- What the laws observe of a client's records that become groups.
use Rattle.assise_machine_state.proofs.Common.{◌≡◌, ◌≢◌, ℕ, ◌+◌, ◌-◌, ◌<◌, ◌≤◌, take, true, false, List, ◌++◌, length, inl, inr, refl, ap, sym, subst, ◌∙◌}
use Rattle.assise_machine_state.proofs.Common.{arith, eq-eqb, ∥∥₁_elim, props, cases_Bool, cases_eq, ne_eqb, length-append, length-drop, length-take}
use Rattle.assise_machine_state.proofs.Common.{AllHaveEffects, all_coalesced, are_whole, groups_of, LogRecord, values, IsNumberedLog, NumberedLog, log_end}
use Rattle.assise_machine_state.proofs.Common.{is_border, records_from, regrouped_all, regrouped_among, regrouped_before, regrouped_records, ReceivedLog}
use Rattle.assise_machine_state.proofs.Common.{regrouped_from, RaisesGoals, WorldInvariant, KeepsLeases, Full, World, end_of_log, received_by_all}
use Rattle.assise_machine_state.proofs.Common.{records_between, end_is, OtherAreasStay, coalesced_from, new_groups, between_length, coalesced_elsewhere}
use Rattle.assise_machine_state.proofs.Common.{coalesced_first, coalesced_high, after_coalescing, after_regrouping, goal_of, client_in, HasLog, log_in}
use Rattle.assise_machine_state.proofs.Common.{region_in, is_full_in, own_node, own_seen, world_of, IsNumber, CutsInvariant, IsMarked, ShapeInvariant}
use Rattle.assise_machine_state.proofs.Common.{StateValue, standings}
use Rattle.std.proofs.Common.{take_all}
use Rattle.assise_record.proofs.Shared.GroupMarks.{groups-all, groups-are}
use Rattle.assise_record.proofs.Shared.WholeGroups.{whole_none}
use Rattle.assise_model_world.specs.Coalescing.{GetsAll, HasNone}
use Rattle.assise_model_world.specs.Regrouped.{Regroups}
use Rattle.assise_model_world.proofs.Shared.QuietSteps.{end-same}
use Rattle.assise_machine_state.proofs.Shared.Fullness.{has_log, home_full, lives_number, lives_unfailed, no_log_there, seen_full}
use Rattle.assise_machine_state.proofs.Shared.LogChanges.{log_else, log_here, log_same, region_kept, region_with}
use Rattle.assise_machine_state.proofs.Shared.Marks.{marked_as}
use Rattle.assise_machine_state.proofs.Shared.Noted.{goal_noted}
use Rattle.assise_machine_state.proofs.Shared.GoalObserved.{goal_raised, goal_shaped}
use Rattle.assise_machine_state.proofs.RegroupedMarks.{regrouped_marked}
use Rattle.assise_machine_state.proofs.Shared.ShapeKept.{AreMarked, kept_marks, own_marked, shaped_log}
use Rattle.assise_machine_state.proofs.Shared.ShapedClients.{areas_stay}
use Rattle.assise_machine_state.proofs.SameObserved.{leases_as}
use Rattle.assise_machine_state.proofs.Shared.ItemSeen.{each_number}

module _ (s : StateValue) (c from : ℕ) where
  abbrev home : ℕ
  home = (client_in s.clients c).home

  abbrev w : World
  w = world_of s

  abbrev t : StateValue
  t = after_regrouping s c from

  abbrev u : World
  u = world_of t

  abbrev new : ReceivedLog
  new = regrouped_from (log_in s.nodes home c) from

  abbrev l : NumberedLog
  l = (own_seen s c).log

  abbrev s' : StateValue
  s' = after_coalescing s c from

  abbrev w' : World
  w' = world_of s'

  -- areas stay
  area_kept : (n i : ℕ) → u.area n i ≡ w.area n i
  unfolding world_of
  area_kept n i = ap (λ r. values r i) (region_kept s.nodes home (region_with s.nodes home c (region_in s.nodes home).inodes new) (λ r. r.inodes) refl n)

  pub coalescing_areas : OtherAreasStay w w'
  unfolding world_of
  coalescing_areas n i away = areas_stay t s' refl n i away ∙ area_kept n i

  pub coalescing_noted : CutsInvariant s → CutsInvariant s'
  coalescing_noted noted = goal_noted t c (end_of_log u c) (record { once = noted.once; known = noted.known; noted = noted.noted })

  module _ (shape : ShapeInvariant s) (lives : w.lives c ≡ true) where
    there : IsNumber s.clients c
    there = lives_number s c lives

    unfailed : (client_in s.clients c).failed ≡ false
    unfailed = lives_unfailed s c lives

    has : HasLog s.nodes home c
    has = has_log s home c shape (home_full s c shape unfailed) there

    else_now : (n d : ℕ) → (n ≡ home → d ≡ c → ⊥) → log_in t.nodes n d ≡ log_in s.nodes n d
    else_now = log_else s.nodes home c (region_in s.nodes home).inodes new has

    own_is_home : own_node (standings s) (client_in s.clients c) ≡ home
    own_is_home = rw unfailed refl

    own_after : own_seen t c ≡ log_in t.nodes home c
    unfolding own_seen
    own_after = ap (λ n. log_in t.nodes n c) own_is_home

    own_before : own_seen s c ≡ log_in s.nodes home c
    unfolding own_seen
    own_before = ap (λ n. log_in s.nodes n c) own_is_home

    own_now : own_seen t c ≡ regrouped_from (own_seen s c) from
    own_now = own_after ∙ log_here s.nodes home c (region_in s.nodes home).inodes new has ∙ ap (λ x. regrouped_from x from) (sym own_before)

    own_else : (d : ℕ) → d ≢ c → own_seen t d ≡ own_seen s d
    unfolding own_seen
    own_else d other = else_now (own_node (standings s) (client_in s.clients d)) d (λ _ same. other same)

    same_limit : new.log.limit ≡ (log_in s.nodes home c).log.limit
    same_limit = ap (λ m. m.limit) (regrouped_all (log_in s.nodes home c).log from)

    -- each log begins where it began
    first_kept : (d : ℕ) → u.first d ≡ w.first d
    unfolding world_of
    first_kept d = grind (arith, each_number, own_now, regrouped_all, own_else)

    module _ (law : IsNumberedLog l) (high : from ≤ log_end l)
        (elsewhere : (n : ℕ) → is_full_in (standings s) n ≡ true → n ≢ home → log_end (log_in s.nodes n c).log ≤ from) where
      -- ---- its shape

      border_now : (k : ℕ) → k < from → is_border (own_seen t c).log k ≡ is_border l k
      border_now k before = ap (λ x. is_border x.log k) own_now ∙ regrouped_before l from k law high before

      marked_away : (n : ℕ) → n ≢ home → IsMarked (is_border (own_seen t c).log) (log_in s.nodes n c).log
      marked_away n away = grind (arith, cases_Bool, marked_as, border_now, no_log_there)

      marked_here : (n : ℕ) → IsMarked (is_border (own_seen t c).log) (log_in t.nodes n c).log
      marked_here n =
          each_number (λ m. IsMarked (is_border (own_seen t c).log) (log_in t.nodes m c).log) home n
          (subst (λ x. IsMarked (is_border (own_seen t c).log) x.log) own_after
          (subst (λ x. IsMarked (is_border x.log) x.log) (sym own_now) (regrouped_marked l from (own_marked s shape.marked c))))
          (λ away. subst (λ x. IsMarked (is_border (own_seen t c).log) x.log) (sym (else_now n c (λ is _. away is))) (marked_away n away))

      marked_now : AreMarked t
      marked_now n d = grind (arith, each_number, marked_here, kept_marks, own_else, else_now)

      regrouped_shaped : ShapeInvariant t
      regrouped_shaped = shaped_log s s.members home c (region_in s.nodes home).inodes new shape same_limit refl (λ all. marked_now) refl (λ n. refl)

      pub coalescing_shaped : ShapeInvariant s'
      coalescing_shaped = goal_shaped t c (end_of_log u c) there regrouped_shaped

      -- ---- what is observed

      module _ (first_low : l.first ≤ from) (some : AllHaveEffects (records_from l from)) (low : received_by_all w c ≤ from) (goal_low : w.goal c ≤ from)
          (at_border : w.border c from ≡ true) (past : (n : ℕ) → Full w n → n ≢ w.home c → w.received n c ≤ from) where
        abbrev gs : List (List LogRecord)
        gs = groups_of (end_of_log w c) (records_between w c from (end_of_log w c))

        -- the records from there on are the last of the own log
        tail_same : records_between w c from (end_of_log w c) ≡ records_from l from
        unfolding records_between world_of end_of_log
        tail_same = take_all (log_end l - from) (records_from l from) (omega (arith, length-drop (from - l.first) l.records))

        few : length (records_from l from) ≤ end_of_log w c
        unfolding world_of end_of_log
        few = omega (arith, length-drop (from - l.first) l.records)

        to_end : from ≤ end_of_log w c
        unfolding world_of end_of_log
        to_end = high

        groups_same : groups_of (end_of_log w c) (records_from l from) ≡ gs
        groups_same = ap (groups_of (end_of_log w c)) (sym tail_same)

        records_now : u.records c ≡ take (from - w.first c) (w.records c) ++ all_coalesced gs
        unfolding world_of
        records_now =
            ap (λ x. x.log.records) own_now
            ∙ regrouped_records l from (end_of_log w c) few
            ∙ ap (λ hs. take (from - l.first) l.records ++ all_coalesced hs) groups_same

        end_now : end_of_log u c ≡ from + length (all_coalesced gs)
        unfolding world_of
        end_now =
            let first : u.first c ≡ l.first = ap (λ x. x.log.first) own_now ∙ ap (λ m. m.first) (regrouped_all l from) in
            omega (
              arith,
              end_is u c,
              first,
              ap length records_now,
              length-append (take (from - l.first) l.records) (all_coalesced gs),
              length-take (from - l.first) l.records,
              first_low,
              high,
            )

        border_among : (k : ℕ) → k ≤ length (all_coalesced gs) → u.border c (from + k) ≡ are_whole gs k
        unfolding world_of end_of_log
        border_among k within = grind (arith, own_now, regrouped_among, few, end_now, groups_same)

        border_first : u.border c from ≡ true
        border_first = (let here : from + 0 ≡ from = omega arith in ap (u.border c) (sym here) ∙ border_among 0 (omega arith) ∙ whole_none gs)

        border_before : (k : ℕ) → k ≤ from → u.border c k ≡ w.border c k
        unfolding world_of
        border_before k old = grind (arith, cases_eq, border_first, border_now)

        raised : RaisesGoals u (goal_of c (end_of_log u c)) w'
        raised = goal_raised t c (end_of_log u c) there (omega arith)

        still_full : (n : ℕ) → Full w n → Full u n
        unfolding world_of
        still_full n f = f

        ends_same : end_of_log w' c ≡ end_of_log u c
        ends_same = end-same u w' raised.logs c

        gets : Full w home → GetsAll home c w'
        unfolding world_of end_of_log
        gets f = grind (arith, raised, still_full, own_after, ends_same)

        pub has_none : (n : ℕ) → Full w n → n ≢ home → HasNone w n c from w'
        unfolding world_of
        has_none n f away = grind (arith, raised, still_full, else_now)

        goal_now : w'.goal c ≡ end_of_log w' c
        unfolding world_of
        goal_now = grind (arith, eq-eqb, raised, end_now, ends_same)

        goal_else : (d : ℕ) → d ≢ c → w'.goal d ≡ w.goal d
        unfolding world_of
        goal_else d other = grind (arith, ne_eqb, raised)

        same_leases : KeepsLeases w u
        same_leases = leases_as s t (λ i. refl)

        pub regroups : Regroups w c from gs w'
        unfolding world_of
        regroups = record {
          tail = record {
            lives = lives;
            low = low;
            high = to_end;
            records_own = raised.logs.records c ∙ records_now;
            records_else = λ d other. raised.logs.records d ∙ ap (λ x. x.log.records) (own_else d other);
            border_old = λ k old. raised.logs.border c k ∙ border_before k old;
            border_else = λ d k other. raised.logs.border d k ∙ ap (λ x. is_border x.log k) (own_else d other);
            here = λ n f. elim (cases_eq n home) [
              | inl is ↦ inr (subst (λ m. GetsAll m c w') (sym is) (gets (subst (Full w) is f)))
              | inr away ↦ inl (has_none n f away)
            ];
            at_home = gets (seen_full s home (home_full s c shape unfailed));
            received_else = λ n d f other. (raised.nodes.same n (still_full n f)).received d ∙ ap (λ x. log_end x.log) (else_now n d (λ _ same. other same));
            log_else = λ n d f other. (raised.nodes.same n (still_full n f)).log d ∙ ap (λ x. x.log.records) (else_now n d (λ _ same. other same));
            full = raised.nodes.full;
            area = λ n i f. (raised.nodes.same n (still_full n f)).area i ∙ area_kept n i;
            digested = λ n d f. (raised.nodes.same n (still_full n f)).digested d
                ∙ log_same s.nodes home c (region_in s.nodes home).inodes new (λ x. x.digested) n d refl;
            calls = raised.logs.calls;
            first = λ d. raised.logs.first d ∙ first_kept d;
            next = raised.logs.next;
            made = raised.logs.made;
            clients = record { clients = raised.clients.clients; home = raised.clients.home; lives = raised.clients.lives; crashed = raised.clients.crashed };
            goal_here = goal_now;
            goal_else = goal_else;
            leases = record {
              holds = λ d i. raised.leases.holds d i ∙ same_leases.holds d i;
              writes = λ d i. raised.leases.writes d i ∙ same_leases.writes d i;
            };
          };
          groups = groups-are (end_of_log w c) (records_between w c from (end_of_log w c)) (subst AllHaveEffects (sym tail_same) some);
          cut = groups-all (end_of_log w c) (records_between w c from (end_of_log w c)) (between_length w c from first_low to_end);
          border_new = λ k within. raised.logs.border c (from + k) ∙ border_among k within;
          goal = goal_low;
        }

-- ---- where a dsync begins

module _ (s : StateValue) (c : ℕ) (shape : ShapeInvariant s) (sound : ∥ WorldInvariant (world_of s) ∥₁) (lives : (world_of s).lives c ≡ true)
    (law : IsNumberedLog (own_seen s c).log) where
  abbrev start : ℕ
  start = coalesced_from (world_of s) c

  start_first : (world_of s).first c ≤ start
  start_first = ∥∥₁_elim sound (search props) (λ h. coalesced_first (world_of s) c h)

  start_high : start ≤ end_of_log (world_of s) c
  start_high = ∥∥₁_elim sound (search props) (λ h. coalesced_high (world_of s) c h)

  start_low : received_by_all (world_of s) c ≤ start
  start_low = omega arith

  goal_low : (world_of s).goal c ≤ start
  goal_low = omega arith

  start_border : (world_of s).border c start ≡ true
  start_border = ∥∥₁_elim sound (search props) (λ h. h.single c start lives start_first goal_low start_high)

  others_low : (n : ℕ) → Full (world_of s) n → n ≢ (world_of s).home c → (world_of s).received n c ≤ start
  others_low n full away = ∥∥₁_elim sound (search props) (λ h. coalesced_elsewhere (world_of s) c h n full away)

  within : start ≤ log_end (own_seen s c).log
  unfolding world_of end_of_log
  within = start_high

  first_low : (own_seen s c).log.first ≤ start
  unfolding world_of
  first_low = start_first

  others_end : (n : ℕ) → is_full_in (standings s) n ≡ true → n ≢ (client_in s.clients c).home → log_end (log_in s.nodes n c).log ≤ start
  unfolding world_of
  others_end n full = others_low n (seen_full s n full)

  pub regrouped_shape : ShapeInvariant (after_regrouping s c start)
  regrouped_shape = regrouped_shaped s c start shape lives law within others_end

  pub coalesced_shape : ShapeInvariant (after_coalescing s c start)
  coalesced_shape = coalescing_shaped s c start shape lives law within others_end

  pub coalesced_groups : AllHaveEffects (records_from (own_seen s c).log start) →
      Regroups (world_of s) c start (new_groups (world_of s) c) (world_of (after_coalescing s c start))
  coalesced_groups some = regroups s c start shape lives law within others_end first_low some start_low goal_low start_border others_low

  pub coalesced_none : AllHaveEffects (records_from (own_seen s c).log start) → (n : ℕ) → Full (world_of s) n → n ≢ (world_of s).home c →
      HasNone (world_of s) n c start (world_of (after_coalescing s c start))
  unfolding world_of
  coalesced_none some = has_none s c start shape lives law within others_end first_low some start_low goal_low start_border others_low
