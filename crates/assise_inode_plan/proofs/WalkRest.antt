-- What is left of a call while it walks.
use Rattle.assise_inode_plan.proofs.Common.{◌≡◌, ◌⊎◌, inl, inr, true, ℕ, ◌+◌, ◌<◌, ◌≤◌, List, [], ◌∷◌, length, drop, slice_index_or, Result, Ok, Err, IfOk}
use Rattle.assise_inode_plan.proofs.Common.{MatchResult, Bor, option_copied, ap, sym, subst, ◌∙◌, drop_more, drop_of_length-le, Read, TreeError, NoEnt}
use Rattle.assise_inode_plan.proofs.Common.{then_or_error, walk_from, walk, Content, Values, Interaction, visit, link_of, LeaseView, plan_from, plan_stopped}
use Rattle.assise_inode_plan.proofs.Common.{Stop, Fault}
use Rattle.std.specs.Prelude.{Option, Some, None, ok_or}

-- ---- the root comes first

-- either the walk is at the root, or the root was visited, so it is leased
abbrev pub RootIsSeen : LeaseView → ℕ → Type 0
RootIsSeen leased i = (i ≡ 0) ⊎ (leased 0 Read ≡ true)

pub root_seen : (leased : LeaseView) (i : ℕ) → RootIsSeen leased i → leased i Read ≡ true → leased 0 Read ≡ true
root_seen leased i (inl root) held = subst (λ j. leased j Read ≡ true) root held
root_seen leased i (inr seen) held = seen

-- what holds where the end is an inode
pub seen_here : {A E P : Type 0} (end : Result A E) {x : A} → IfOk end (λ _. P) → end ≡ Ok x → P
seen_here (Ok y) p is = p
seen_here (Err e) p is = cc

-- ---- one visit

-- a visit ended so
abbrev pub Visited : LeaseView → Values → List ℕ → List ℕ → ℕ → Result (Option (Bor Content)) Stop → (Option Content → Interaction) → Type 0
Visited leased v reads more i end next =
    MatchResult end
    (λ value. plan_from leased v reads (visit i next) ≡ plan_from leased v more (next (option_copied value)))
    (λ stop. plan_from leased v reads (visit i next) ≡ plan_stopped more stop)

module _ (leased : LeaseView) (v : Values) (reads more : List ℕ) (i : ℕ) (end : Result (Option (Bor Content)) Stop)
    (visited : (next : Option Content → Interaction) → Visited leased v reads more i end next) where
  visit_stops : (stop : Stop) → end ≡ Err stop → (next : Option Content → Interaction) → plan_from leased v reads (visit i next) ≡ plan_stopped more stop
  visit_stops stop is next = subst (λ e. Visited leased v reads more i e next) is (visited next)

  visit_looks : (value : Option (Bor Content)) → end ≡ Ok value → (next : Option Content → Interaction) → plan_from leased v reads (visit i next)
      ≡ plan_from leased v more (next (option_copied value))
  visit_looks value is next = subst (λ e. Visited leased v reads more i e next) is (visited next)

  -- whatever comes after the inode
  visit_stops_walk : (stop : Stop) → end ≡ Err stop → (p : List (List ℕ)) (next : ℕ → Content → Interaction) → plan_from leased v reads (walk_from i p next)
      ≡ plan_stopped more stop
  visit_stops_walk stop is [] next = visit_stops stop is (λ value. then_or_error (ok_or value NoEnt) (λ content. next i content))
  visit_stops_walk stop is (name ∷ p) next = visit_stops stop is (λ value. then_or_error (link_of value name) (λ j. walk_from j p next))

  -- ---- the last visit of a walk

  pub last_stops : (stop : Stop) → end ≡ Err stop → (next : ℕ → Content → Interaction) → plan_from leased v reads (walk_from i [] next) ≡ plan_stopped more stop
  last_stops stop is next = visit_stops_walk stop is [] next

  pub last_found : (value : Option (Bor Content)) (content : Bor Content) → end ≡ Ok value → value ≡ Some content →
      (next : ℕ → Content → Interaction) → plan_from leased v reads (walk_from i [] next) ≡ plan_from leased v more (next i content.now)
  last_found value content is some next =
      visit_looks value is (λ value. then_or_error (ok_or value NoEnt) (λ content. next i content))
      ∙ ap (λ o. plan_from leased v more (then_or_error (ok_or (option_copied o) NoEnt) (λ content. next i content))) some

  pub last_missing : (value : Option (Bor Content)) → end ≡ Ok value → value ≡ None →
      (next : ℕ → Content → Interaction) → plan_from leased v reads (walk_from i [] next) ≡ plan_stopped more (Fault NoEnt)
  last_missing value is none next =
      visit_looks value is (λ value. then_or_error (ok_or value NoEnt) (λ content. next i content))
      ∙ ap (λ o. plan_from leased v more (then_or_error (ok_or (option_copied o) NoEnt) (λ content. next i content))) none

-- the last visit of a walk ended so
abbrev pub Reached : LeaseView → Values → List ℕ → List ℕ → ℕ → Result (Bor Content) Stop → (ℕ → Content → Interaction) → Type 0
Reached leased v reads more i end next =
    MatchResult end
    (λ r. plan_from leased v reads (walk_from i [] next) ≡ plan_from leased v more (next i r.now))
    (λ stop. plan_from leased v reads (walk_from i [] next) ≡ plan_stopped more stop)

module _ (leased : LeaseView) (v : Values) (reads more : List ℕ) (i : ℕ) (end : Result (Bor Content) Stop)
    (reached : (next : ℕ → Content → Interaction) → Reached leased v reads more i end next) where
  pub reach_stops : (stop : Stop) → end ≡ Err stop → (next : ℕ → Content → Interaction) → plan_from leased v reads (walk_from i [] next)
      ≡ plan_stopped more stop
  reach_stops stop is next = subst (λ e. Reached leased v reads more i e next) is (reached next)

  pub reach_ends : (r : Bor Content) → end ≡ Ok r → (next : ℕ → Content → Interaction) → plan_from leased v reads (walk_from i [] next)
      ≡ plan_from leased v more (next i r.now)
  reach_ends r is next = subst (λ e. Reached leased v reads more i e next) is (reached next)

-- ---- the names of a walk

-- a walk from the root, after k names of it, is at this inode, and so much is visited
abbrev pub Left : LeaseView → Values → List ℕ → List (List ℕ) → List ℕ → ℕ → ℕ → Type 0
Left leased v before names reads at k =
    (next : ℕ → Content → Interaction) → plan_from leased v before (walk names next) ≡ plan_from leased v reads (walk_from at (drop k names) next)

one_name : (names : List (List ℕ)) (k : ℕ) (name : List ℕ) → k < length names → name ≡ slice_index_or names k name → drop k names ≡ name ∷ drop (k + 1) names
one_name names k name few is = drop_more names k name few ∙ ap (λ n. n ∷ drop (k + 1) names) (sym is)

module _ (leased : LeaseView) (v : Values) (before : List ℕ) (names : List (List ℕ)) (reads more : List ℕ) (at k : ℕ)
    (left : Left leased v before names reads at k) where
  module _ (end : Result (Option (Bor Content)) Stop) (visited : (next : Option Content → Interaction) → Visited leased v reads more at end next) where
    pub left_stops : (stop : Stop) → end ≡ Err stop → (next : ℕ → Content → Interaction) → plan_from leased v before (walk names next) ≡ plan_stopped more stop
    left_stops stop is next = left next ∙ visit_stops_walk leased v reads more at end visited stop is (drop k names) next

    module _ (name : List ℕ) (few : k < length names) (same : name ≡ slice_index_or names k name) (value : Option (Bor Content)) (is : end ≡ Ok value) where
      left_step : (r : Result ℕ TreeError) → link_of (option_copied value) name ≡ r →
          (next : ℕ → Content → Interaction) → plan_from leased v before (walk names next) ≡ plan_from leased v more
          (then_or_error r (λ j. walk_from j (drop (k + 1) names) next))
      left_step r leads next =
          left next ∙ ap (λ p. plan_from leased v reads (walk_from at p next)) (one_name names k name few same)
          ∙ visit_looks leased v reads more at end visited value is (λ value. then_or_error (link_of value name) (λ j. walk_from j (drop (k + 1) names) next))
          ∙ ap (λ o. plan_from leased v more (then_or_error o (λ j. walk_from j (drop (k + 1) names) next))) leads

      pub left_fault : (error : TreeError) → link_of (option_copied value) name ≡ Err error → (next : ℕ → Content → Interaction) →
          plan_from leased v before (walk names next) ≡ plan_stopped more (Fault error)
      left_fault error leads next = left_step (Err error) leads next

      pub left_on : (j : ℕ) → link_of (option_copied value) name ≡ Ok j → Left leased v before names more j (k + 1)
      left_on j leads = λ next. left_step (Ok j) leads next

  module _ (all : length names ≤ k) (end : Result (Bor Content) Stop) (reached : (next : ℕ → Content → Interaction) → Reached leased v reads more at end next)
    where
      left_last : (next : ℕ → Content → Interaction) → plan_from leased v before (walk names next) ≡ plan_from leased v reads (walk_from at [] next)
      left_last next = left next ∙ ap (λ p. plan_from leased v reads (walk_from at p next)) (drop_of_length-le names all)

      pub left_ends : (r : Bor Content) → end ≡ Ok r → (next : ℕ → Content → Interaction) → plan_from leased v before (walk names next)
          ≡ plan_from leased v more
          (next at r.now)
      left_ends r is next = left_last next ∙ reach_ends leased v reads more at end reached r is next

      pub left_ends_early : (stop : Stop) → end ≡ Err stop → (next : ℕ → Content → Interaction) → plan_from leased v before (walk names next)
          ≡ plan_stopped more stop
      left_ends_early stop is next = left_last next ∙ reach_stops leased v reads more at end reached stop is next
