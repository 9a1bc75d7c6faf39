-- What the laws observe where those who stand in a call's way are asked for their leases.
use Rattle.assise_machine_state.proofs.Common.{◌≡◌, ◌≢◌, inl, inr, ℕ, zero, suc, ◌+◌, ◌-◌, ◌≤◌, max, ◌==◌, Bool, true, false, cond, not, ◌&&◌, ◌||◌}
use Rattle.assise_machine_state.proofs.Common.{if◌then◌else◌, List, [], ◌∷◌, ◌++◌, length, filter, drop, slice_get, Option, Some, None, refl, ap, sym, subst}
use Rattle.assise_machine_state.proofs.Common.{◌∙◌, arith, eq-eqb, list_all, list_any, and-true, or-false, and_from, and_parts, and_right, cases_Bool, cases_eq}
use Rattle.assise_machine_state.proofs.Common.{eqb-true, false_from_ne_true, ne_eqb, not-true, or_parts, list_any-append, Effect, LogRecord, all_effects}
use Rattle.assise_machine_state.proofs.Common.{contains, touched, NumberedLog, is_border, record_at, Asked, Lease, Among, stand_together, compatible, holders}
use Rattle.assise_machine_state.proofs.Common.{is_to_ask, lease_of, in_way, is_revoked, IsAskedFor, TwoLevels, is_free_for, RaisesGoals, KeepsLeases}
use Rattle.assise_machine_state.proofs.Common.{end_of_log, contains-all_effects, Asks, asked_goal, is_newly_revoked, AreLeases, CoversFrom, Leases}
use Rattle.assise_machine_state.proofs.Common.{client_lease, is_held, is_written, client_records_from, revoke_of, revoked_held, revoked_one, held_one}
use Rattle.assise_machine_state.proofs.Common.{still_revoked, written_one, after_asking, with_goals, ClientValue, client_in, is_over, with_client, with_goal}
use Rattle.assise_machine_state.proofs.Common.{are_once, cut_in, is_asked, is_of, own_seen, world_of, IsNumber, AreAnswers, CutsInvariant, ShapeInvariant}
use Rattle.assise_machine_state.proofs.Common.{StateValue, leases_of}
use Rattle.assise_names.specs.declared.mode.Mode.{Mode}
use Rattle.assise_record.specs.Touched.{touched_by}
use Rattle.assise_private_log.specs.Touches.{Covers as CoversLog, found_touches}
use Rattle.assise_lease_table.specs.Answers.{clients_of}
use Rattle.assise_lease_table.proofs.Shared.Compatibles.{differ, filter_compatible}
use Rattle.assise_lease_table.proofs.Shared.Elements.{all_among, among_all, among_any, among_filter, not_both}
use Rattle.assise_machine_state.proofs.Shared.Fullness.{lives_number}
use Rattle.assise_machine_state.proofs.Shared.Noted.{asked_either, cut_before, none_cut, once_both}
use Rattle.assise_machine_state.proofs.Shared.ItemSeen.{client_else, client_here, client_same, each_number, length-with}
use Rattle.assise_machine_state.proofs.Shared.ShapedClients.{Remain, clients_stay, logs_stay, nodes_stay, still_shaped}

-- ---- the holders that are left of compatible leases

-- there is a lease, and it passes
abbrev passes : (Lease → Bool) → Option Lease → Bool
passes p None = false
passes p (Some a) = p a

-- a lease has no other of its holder beside it
none_else : (l : Lease) (ls : List Lease) → list_all (stand_together l) ls ≡ true → contains (holders ls) l.holder ≡ false
none_else l [] all = refl
none_else l (k ∷ ks) all = grind (arith, and_parts, not-true, ne_eqb, differ, (none_else l ks))

-- the first lease, which stays or goes

own_left : (b : Bool) (l : Lease) (ls : List Lease) (d : ℕ) → (l.holder == d) ≡ true → contains (holders ls) d ≡ false →
    contains (holders (cond b (l ∷ ls) ls)) d ≡ b
own_left b l ls d h1 h2 = grind arith

else_left : (b : Bool) (l : Lease) (ls : List Lease) (d : ℕ) → (l.holder == d) ≡ false → contains (holders (cond b (l ∷ ls) ls)) d ≡ contains (holders ls) d
else_left b l ls d h1 = grind arith

-- a holder is left where its lease passes
holder_left : (p : Lease → Bool) (ls : List Lease) (d : ℕ) → compatible ls ≡ true → contains (holders (filter p ls)) d ≡ passes p (lease_of ls d)
holder_left p [] d fits = refl
holder_left p (l ∷ ls) d fits =
    grind (arith, and_parts, among_all, all_among, among_filter, cases_Bool, own_left, eqb-true, none_else, else_left, (holder_left p ls d))

-- no number is there twice
abbrev AreDistinct : List ℕ → Type 0
AreDistinct [] = Unit {0}
AreDistinct (n ∷ ns) = (contains ns n ≡ false) × AreDistinct ns

holders_distinct : (ls : List Lease) → compatible ls ≡ true → AreDistinct (holders ls)
holders_distinct [] fits = tt
holders_distinct (l ∷ ls) fits = grind (arith, and_parts, none_else, (holders_distinct ls))

-- what is revoked once the chosen leases are, and wasn't before, was to be asked for
newly_one : (choice : Lease → Bool) (o : Option Lease) → (not (is_revoked o) && is_revoked (revoked_one choice o)) ≡ passes (is_to_ask choice) o
newly_one choice o = grind arith

-- ---- answers

-- all are of one inode
abbrev AreAt : ℕ → List Asked → Type 0
AreAt i xs = (a : Asked) → Among xs a → a.inode ≡ i

of_client : (a : Asked) (i d : ℕ) → a.inode ≡ i → is_of d i a ≡ (a.client == d)
of_client a i d at = ap (λ b. (a.client == d) && b) (eq-eqb a.inode i at) ∙ and-true (a.client == d)

-- who gave one of them was asked for it
asked_is : (xs : List Asked) (i d : ℕ) → AreAt i xs → is_asked xs d i ≡ contains (clients_of xs) d
asked_is [] i d all = refl
asked_is (a ∷ xs) i d all = λ k. of_client a i d (all a (inl refl)) k || asked_is xs i d (λ b there. all b (inr there)) k

-- and nobody for another inode
unasked_elsewhere : (xs : List Asked) (i d j : ℕ) → AreAt i xs → j ≢ i → is_asked xs d j ≡ false
unasked_elsewhere [] i d j all other = refl
unasked_elsewhere (a ∷ xs) i d j all other =
    ap (λ b. b || is_asked xs d j) (and_right (a.client == d) (a.inode == j) (ne_eqb a.inode j (λ same. other (sym same ∙ all a (inl refl)))))
    ∙ unasked_elsewhere xs i d j (λ b there. all b (inr there)) other

once_of : (xs : List Asked) (i : ℕ) → AreAt i xs → AreDistinct (clients_of xs) → are_once xs ≡ true
once_of [] i all distinct = refl
once_of (a ∷ xs) i all distinct =
    let rest : AreAt i xs = λ b there. all b (inr there) in
    and_from (not (is_asked xs a.client a.inode)) (are_once xs)
    (ap not (ap (is_asked xs a.client) (all a (inl refl)) ∙ asked_is xs i a.client rest ∙ distinct.0))
    (once_of xs i rest distinct.1)

-- ---- cuts that were answered

-- that of who was is one of the answers
answer_of : (xs : List Asked) (d j : ℕ) → is_asked xs d j ≡ true → (a : Asked) × Among xs a × (a.client ≡ d) × (cut_in xs d j ≡ a.cut)
answer_of [] d j asked = cc
answer_of (a ∷ xs) d j asked = grind (arith, cases_Bool, eqb-true, and_parts, (answer_of xs d j))

-- of two lists, the second counts where the client was not asked in the first

cut_behind : (xs ys : List Asked) (d j : ℕ) → is_asked xs d j ≡ false → cut_in (xs ++ ys) d j ≡ cut_in ys d j
cut_behind [] ys d j none = refl
cut_behind (x ∷ xs) ys d j none = grind (arith, or_parts, (cut_behind xs ys d j))

-- ---- goals of many clients

-- what a raised goal leaves of a client they all leave
goals_keep : {A : Type 0} (f : ClientValue → A) → ((to : ℕ) (x : ClientValue) → f (with_goal to x) ≡ f x) → (xs : List Asked) (cs : List ClientValue) (d : ℕ) →
    f (client_in (with_goals xs cs) d) ≡ f (client_in cs d)
goals_keep f same [] cs d = refl
goals_keep f same (a ∷ xs) cs d =
    goals_keep f same xs (with_client cs a.client (with_goal a.cut (client_in cs a.client))) d
    ∙ client_same f cs a.client (with_goal a.cut (client_in cs a.client)) (same a.cut (client_in cs a.client)) d

count_kept : (xs : List Asked) (cs : List ClientValue) → length (with_goals xs cs) ≡ length cs
count_kept [] cs = refl
count_kept (a ∷ xs) cs = grind (arith, length-with, (count_kept xs))

same_number : (cs ds : List ClientValue) (d : ℕ) → length ds ≡ length cs → IsNumber cs d → IsNumber ds d
same_number cs ds d count there = record { some = there.some; there = subst (λ n. d ≤ n) (sym count) there.there }

-- each is raised to its client's answer, where all are of one inode, and one of each client
goals_raised : (xs : List Asked) (cs : List ClientValue) (i d : ℕ) → AreAt i xs → AreDistinct (clients_of xs) →
    ((a : Asked) → Among xs a → IsNumber cs a.client) →
    (client_in (with_goals xs cs) d).goal ≡ max (client_in cs d).goal (cut_in xs d i)
goals_raised [] cs i d all distinct there = omega arith
goals_raised (a ∷ xs) cs i d all distinct there =
    let now : ClientValue = with_goal a.cut (client_in cs a.client) in
    let at : AreAt i xs = λ b in_it. all b (inr in_it) in
    let here : IsNumber cs a.client = there a (inl refl) in
    let rest : (client_in (with_goals xs (with_client cs a.client now)) d).goal ≡ max (client_in (with_client cs a.client now) d).goal (cut_in xs d i) =
    goals_raised xs (with_client cs a.client now) i d at distinct.1
    (λ b in_it. same_number cs (with_client cs a.client now) b.client (length-with cs a.client now) (there b (inr in_it))) in
    elim (cases_eq a.client d) [
      | inl is ↦
          let raised : (client_in (with_client cs a.client now) d).goal ≡ max (client_in cs d).goal a.cut =
          subst (λ e. (client_in (with_client cs a.client now) e).goal ≡ max (client_in cs e).goal a.cut) is
          (ap (λ x. x.goal) (client_here cs a.client now here)) in
          let none : cut_in xs d i ≡ 0 = none_cut xs d i (asked_is xs i d at ∙ ap (contains (clients_of xs)) (sym is) ∙ distinct.0) in
          let cut : cut_in (a ∷ xs) d i ≡ a.cut = ap (λ b. if b then a.cut else cut_in xs d i) (of_client a i d (all a (inl refl)) ∙ eq-eqb a.client d is) in
          rest ∙ ap (max (client_in (with_client cs a.client now) d).goal) none ∙ rw cut (omega (arith, raised))
      | inr other ↦
          let cut : cut_in (a ∷ xs) d i ≡ cut_in xs d i = ap (λ b. if b then a.cut else cut_in xs d i)
          (of_client a i d (all a (inl refl)) ∙ ne_eqb a.client d other) in
          rest
          ∙ ap (λ x. max x.goal (cut_in xs d i)) (client_else cs a.client now here d (λ same. other (sym same)))
          ∙ sym (ap (max (client_in cs d).goal) cut)
    ]

-- ---- what holds of a cut in a client's log holds of it for the laws

effects_touch : (es : List Effect) (i : ℕ) → contains (touched es) i ≡ list_any (λ e. touched_by e == i) es
effects_touch [] i = refl
effects_touch (e ∷ es) i = ap (λ b. (touched_by e == i) || b) (effects_touch es i)

places_untouched : (rs : List LogRecord) (j i : ℕ) → ((k : ℕ) → j ≤ k → found_touches (slice_get rs k) i ≡ false) →
    contains (touched (all_effects (drop j rs))) i ≡ false
places_untouched [] zero i none = refl
places_untouched [] (suc j) i none = refl
places_untouched (r ∷ rs) zero i none =
    contains-all_effects r rs i
    ∙ rw (effects_touch r.effects i ∙ none zero (omega arith)) (places_untouched rs zero i (λ k from. none (suc k) (omega arith)))
places_untouched (r ∷ rs) (suc j) i none = places_untouched rs j i (λ k from. none (suc k) (omega (arith, from)))

place_of : (l : NumberedLog) (k : ℕ) → record_at l (l.first + k) ≡ slice_get l.records k
place_of l k = grind arith

log_covers : (s : StateValue) (c i cut : ℕ) → CoversLog (own_seen s c).log i cut → CoversFrom (world_of s) c i cut
unfolding world_of end_of_log client_records_from
log_covers s c i cut covers =
    let l : NumberedLog = (own_seen s c).log in
    record {
      to_end = covers.to_end;
      untouched = places_untouched l.records (cut - l.first) i
          (λ k from. ap (λ o. found_touches o i) (sym (place_of l k)) ∙ covers.untouched (l.first + k) (omega (arith, from)));
    }

-- ---- what stays

remain : (asked : List Asked) (cs : List ClientValue) → Remain cs (with_goals asked cs)
remain asked cs = record {
  count = count_kept asked cs;
  home = goals_keep (λ x. x.home) (λ to x. refl) asked cs;
  failed = goals_keep (λ x. x.failed) (λ to x. refl) asked cs;
  next = goals_keep (λ x. x.next) (λ to x. refl) asked cs;
  made = goals_keep (λ x. x.made) (λ to x. refl) asked cs;
  durability = goals_keep (λ x. x.durability) (λ to x. refl) asked cs;
}

pub asking_shaped : (s : StateValue) (levels : TwoLevels) (asked : List Asked) → ShapeInvariant s → ShapeInvariant (after_asking s levels asked)
asking_shaped s levels asked = still_shaped s (with_goals asked s.clients) levels (s.cuts ++ asked) s.history (remain asked s.clients) (λ d. refl)

-- ---- leases that are asked for

module _ (s : StateValue) (c i : ℕ) (mode : Mode) (levels : TwoLevels) (asked : List Asked) (noted : CutsInvariant s)
    (leases : AreLeases (world_of s) (leases_of s))
    (asks : IsAskedFor s.levels levels c (client_in s.clients c).home i mode) (answers : AreAnswers s c i mode asked) where
  abbrev way : Lease → Bool
  way = in_way s.levels.home (s.levels.nodes i) c (client_in s.clients c).home mode

  abbrev cs : List ClientValue
  cs = with_goals asked s.clients

  abbrev l : Leases
  l = leases_of s

  abbrev l' : Leases
  l' = leases_of (after_asking s levels asked)

  here : (d : ℕ) → client_lease l' d i ≡ revoked_one way (client_lease l d i)
  unfolding leases_of
  here d = ap (λ ls. lease_of ls d) asks.clients.here ∙ revoke_of way (s.levels.clients i) d

  elsewhere : (d j : ℕ) → j ≢ i → client_lease l' d j ≡ client_lease l d j
  unfolding leases_of
  elsewhere d j other = ap (λ ls. lease_of ls d) (asks.clients.elsewhere j other)

  -- what holds of a lease and of what is left of it where it is revoked, and of a lease and itself
  of_each : (P : Option Lease → Option Lease → Type 0) → ((o : Option Lease) → P (revoked_one way o) o) → ((o : Option Lease) → P o o) →
      (d j : ℕ) → P (client_lease l' d j) (client_lease l d j)
  of_each P one same d j = grind (arith, each_number, here, elsewhere)

  same_held : (d j : ℕ) → is_held (client_lease l' d j) ≡ is_held (client_lease l d j)
  same_held = of_each (λ x y. is_held x ≡ is_held y) (held_one way) (λ o. refl)

  leases_stay : KeepsLeases (world_of s) (world_of (after_asking s levels asked))
  unfolding world_of
  leases_stay = record {
    holds = same_held;
    writes = of_each (λ x y. is_written x ≡ is_written y) (written_one way) (λ o. refl);
  }

  -- ---- who is asked

  newly : (d : ℕ) → is_newly_revoked l l' d i ≡ is_asked asked d i
  unfolding leases_of
  newly d = grind (arith, here, newly_one, asked_is, holder_left)

  distinct : AreDistinct (clients_of asked)
  unfolding leases_of
  distinct = grind (arith, holders_distinct, filter_compatible)

  at_inode : (d j : ℕ) → is_asked asked d j ≡ true → j ≡ i
  at_inode d j h =
      elim (cases_eq j i) [
        | inl is ↦ is
        | inr other ↦ not_both (is_asked asked d j) h (unasked_elsewhere asked i d j answers.inodes other)
      ]

  asked_here : (d j : ℕ) → is_asked asked d j ≡ true → is_asked asked d i ≡ true
  asked_here d j h = subst (λ k. is_asked asked d k ≡ true) (at_inode d j h) h

  unrevoked : (d : ℕ) → is_asked asked d i ≡ true → is_revoked (client_lease l d i) ≡ false
  unrevoked d h = not-true (is_revoked (client_lease l d i))
      (and_parts (not (is_revoked (client_lease l d i))) (is_revoked (client_lease l' d i)) (newly d ∙ h)).0

  held : (d : ℕ) → is_asked asked d i ≡ true → is_held (client_lease l d i) ≡ true
  held d h =
      sym (same_held d i)
      ∙ revoked_held (client_lease l' d i) (and_parts (not (is_revoked (client_lease l d i))) (is_revoked (client_lease l' d i)) (newly d ∙ h)).1

  -- who is asked isn't over

  lives : (d : ℕ) → is_asked asked d i ≡ true → (world_of s).lives d ≡ true
  lives d h =
      elim (cases_Bool ((world_of s).lives d)) [
        | inl so ↦ so
        | inr failed ↦ not_both (is_revoked (client_lease l d i)) (leases.failed d i failed (held d h)) (unrevoked d h)
      ]

  runs : (d : ℕ) → is_asked asked d i ≡ true → is_over (client_in s.clients d) ≡ false
  unfolding world_of
  runs d h =
      let running : (client_in s.clients d).crashed ≡ false =
      false_from_ne_true (client_in s.clients d).crashed
      (λ crashed. not_both (is_revoked (client_lease l d i)) (leases.crashed d i crashed (held d h)) (unrevoked d h)) in
      rw running (not-true (client_in s.clients d).failed (lives d h))

  number : (d : ℕ) → is_asked asked d i ≡ true → IsNumber s.clients d
  number d h = lives_number s d (lives d h)

  -- nobody gave an answer before
  first_answer : (d : ℕ) → is_asked asked d i ≡ true → is_asked s.cuts d i ≡ false
  unfolding leases_of
  first_answer d h = noted.noted d i ∙ unrevoked d h

  -- ---- cuts

  same_over : (d : ℕ) → is_over (client_in (with_goals asked s.clients) d) ≡ is_over (client_in s.clients d)
  same_over = goals_keep is_over (λ to x. refl) asked s.clients

  cut_now : (d : ℕ) → is_asked asked d i ≡ true → l'.cut d i ≡ cut_in asked d i
  unfolding leases_of
  cut_now d h = grind (arith, same_over, runs, cut_behind, first_answer)

  cut_stays : (d j : ℕ) → is_asked asked d j ≡ false → l'.cut d j ≡ l.cut d j
  unfolding leases_of
  cut_stays d j none = λ k. if same_over d k then goals_keep (λ x. x.last_cut) (λ to x. refl) asked s.clients d k else cut_before s.cuts asked d j none k

  goal_is : (d : ℕ) → asked_goal l l' i d ≡ cut_in asked d i
  goal_is d = grind (arith, cases_Bool, newly, cut_now, none_cut)

  answered : (d : ℕ) → is_asked asked d i ≡ true → (a : Asked) × Among asked a × (a.client ≡ d) × (l'.cut d i ≡ a.cut)
  answered d h = (let a = answer_of asked d i h in (a.0, a.1, a.2, cut_now d h ∙ a.3))

  covers : (d : ℕ) → is_asked asked d i ≡ true → CoversLog (own_seen s d).log i (l'.cut d i)
  covers d h = (let a = answered d h in subst (λ e. CoversLog (own_seen s e).log i (l'.cut d i)) a.2 (rw a.3 (answers.covers a.0 a.1)))

  at_border : (d : ℕ) → is_asked asked d i ≡ true → is_border (own_seen s d).log (l'.cut d i) ≡ true
  at_border d h = (let a = answered d h in subst (λ e. is_border (own_seen s e).log (l'.cut d i) ≡ true) a.2 (rw a.3 (answers.borders a.0 a.1)))

  goals_known : (d : ℕ) → asked_goal l l' i d ≤ end_of_log (world_of s) d
  goals_known d =
      elim (cases_Bool (is_asked asked d i)) [
        | inl h ↦ rw (newly d ∙ h) (log_covers s d i (l'.cut d i) (covers d h)).to_end
        | inr none ↦ rw (newly d ∙ none) (omega arith)
      ]

  asked_number : (a : Asked) → Among asked a → IsNumber s.clients a.client
  asked_number a there =
      number a.client (among_any (is_of a.client i) asked a there (of_client a i a.client (answers.inodes a there) ∙ eq-eqb a.client a.client refl))

  raises : RaisesGoals (world_of s) (asked_goal l l' i) (world_of (after_asking s levels asked))
  unfolding world_of
  raises = record {
    there = goals_known;
    logs = logs_stay s cs levels (s.cuts ++ asked) s.history (remain asked s.clients) refl;
    clients = clients_stay s cs levels (s.cuts ++ asked) s.history (remain asked s.clients) (goals_keep (λ x. x.crashed) (λ to x. refl) asked s.clients);
    nodes = nodes_stay s cs levels (s.cuts ++ asked) s.history;
    leases = leases_stay;
    goals = λ d. goals_raised asked s.clients i d answers.inodes distinct asked_number ∙ ap (max (client_in s.clients d).goal) (sym (goal_is d));
  }

  pub asking_seen : (world_of s).lives c ≡ true → (world_of s).crashed c ≡ false → is_free_for s.levels c ((world_of s).home c) i mode ≡ false →
      Asks (world_of s) l c i mode (world_of (after_asking s levels asked)) l'
  unfolding world_of leases_of own_seen
  asking_seen lives_on running not_free = record {
    lives_on = lives_on;
    running = running;
    not_free = not_free;
    asked = asks;
    answered = λ d h. log_covers s d i (l'.cut d i) (covers d (sym (newly d) ∙ h));
    from_first = λ d h. (covers d (sym (newly d) ∙ h)).from_first;
    border = λ d h. at_border d (sym (newly d) ∙ h);
    cuts_else = λ d j other. cut_stays d j (false_from_ne_true (is_asked asked d j) (λ h. other (at_inode d j h) (newly d ∙ asked_here d j h)));
    goals = raises;
  }

  -- the cut of a lease that is revoked by it is the answer of its holder
  pub newly_answered : (d j : ℕ) → is_newly_revoked l l' d j ≡ true → (j ≡ i) × ((a : Asked) × Among asked a × (a.client ≡ d) × (l'.cut d i ≡ a.cut))
  newly_answered d j fresh = grind (arith, cases_eq, newly, answered, and_parts, not_both, elsewhere, not-true)

  -- ---- what is noted

  -- what is revoked was so before, or was asked for
  revoked_or_asked : (d j : ℕ) → is_revoked (client_lease l' d j) ≡ (is_revoked (client_lease l d j) || is_asked asked d j)
  revoked_or_asked d j =
      each_number (λ k. is_revoked (client_lease l' d k) ≡ (is_revoked (client_lease l d k) || is_asked asked d k)) i j
      (was_or_new (is_revoked (client_lease l d i)) (is_revoked (client_lease l' d i))
      (of_each (λ x y. is_revoked y ≡ true → is_revoked x ≡ true) (still_revoked way) (λ o revoked. revoked) d i)
      ∙ ap (λ b. is_revoked (client_lease l d i) || b) (newly d))
      (λ other. ap is_revoked (elsewhere d j other)
      ∙ sym (ap (λ b. is_revoked (client_lease l d j) || b) (unasked_elsewhere asked i d j answers.inodes other) ∙ or-false (is_revoked (client_lease l d j))))
    where
      was_or_new : (was now : Bool) → (was ≡ true → now ≡ true) → now ≡ (was || (not was && now))
      was_or_new true now stays = stays refl
      was_or_new false now stays = refl

  not_twice : (d j : ℕ) → is_asked s.cuts d j ≡ true → is_asked asked d j ≡ false
  not_twice d j before = grind (arith, false_from_ne_true, not_both, at_inode, first_answer, asked_here)

  now_noted : (d j : ℕ) → is_asked (s.cuts ++ asked) d j ≡ is_revoked (lease_of (levels.clients j) d)
  unfolding leases_of
  now_noted d j = list_any-append (is_of d j) s.cuts asked ∙ (λ k. noted.noted d j k || is_asked asked d j) ∙ sym (revoked_or_asked d j)

  pub asking_noted : CutsInvariant (after_asking s levels asked)
  asking_noted = record {
    once = once_both s.cuts asked noted.once (once_of asked i answers.inodes distinct) not_twice;
    known = λ d j h. same_number s.clients (with_goals asked s.clients) d (count_kept asked s.clients) (elim (asked_either s.cuts asked d j h) [
      | inl before ↦ noted.known d j before
      | inr now ↦ number d (asked_here d j now)
    ]);
    noted = now_noted;
  }
