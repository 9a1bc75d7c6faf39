-- What is planned for a call where its walk ends.
use Rattle.assise_inode_plan.proofs.Common.{◌≡◌, ℕ, ◌-◌, ◌≤◌, if◌then◌else◌, ◌==◌, List, [], length, slice_index_or, Some, Result, Ok, Err, MatchResult, Bor}
use Rattle.assise_inode_plan.proofs.Common.{ap, sym, subst, ◌∙◌, arith, get_or_default, Reply, TreeError, last_name, then_or_error, walk, walk_from}
use Rattle.assise_inode_plan.proofs.Common.{walk_to_entry, Content, Values, Interaction, link_of, LeaseView, Plan, ready, plan_from, plan_stopped, Entry, Stop}
use Rattle.assise_inode_plan.proofs.Common.{Fault}
use Rattle.assise_inode_plan.proofs.WalkRest.{Reached, reach_ends, reach_stops}

-- the plan of a call that answers and changes nothing
abbrev pub quiet : List ℕ → Reply → Plan
quiet reads reply = ready (record { visits = reads; reply = reply; effects = [] })

-- ---- a walk along a path

-- a walk ended so
abbrev pub Ended : LeaseView → Values → List ℕ → List (List ℕ) → List ℕ → Result (ℕ × Bor Content) Stop → (ℕ → Content → Interaction) → Type 0
Ended leased v before names reads end next =
    MatchResult end
    (λ r. plan_from leased v before (walk names next) ≡ plan_from leased v reads (next r.0 r.1.now))
    (λ stop. plan_from leased v before (walk names next) ≡ plan_stopped reads stop)

module _ (leased : LeaseView) (v : Values) (before : List ℕ) (names : List (List ℕ)) (reads : List ℕ) (end : Result (ℕ × Bor Content) Stop)
    (ended : (next : ℕ → Content → Interaction) → Ended leased v before names reads end next) where
  pub walk_stops : (stop : Stop) → end ≡ Err stop → (next : ℕ → Content → Interaction) → plan_from leased v before (walk names next) ≡ plan_stopped reads stop
  walk_stops stop is next = subst (λ e. Ended leased v before names reads e next) is (ended next)

  pub walk_ends : (r : ℕ × Bor Content) → end ≡ Ok r → (next : ℕ → Content → Interaction) → plan_from leased v before (walk names next)
      ≡ plan_from leased v reads (next r.0 r.1.now)
  walk_ends r is next = subst (λ e. Ended leased v before names reads e next) is (ended next)

  -- ---- and on to an entry

  pub entry_walk_stops : (stop : Stop) → end ≡ Err stop → (name : List ℕ) (next : ℕ → ℕ → Content → Interaction) →
      plan_from leased v before (walk_to_entry names name next) ≡ plan_stopped reads stop
  entry_walk_stops stop is name next = walk_stops stop is (λ d content. then_or_error (link_of (Some content) name) (λ i. walk_from i [] (next d)))

  module _ (r : ℕ × Bor Content) (is : end ≡ Ok r) (name : List ℕ) where
    at_entry : (o : Result ℕ TreeError) → link_of (Some r.1.now) name ≡ o →
        (next : ℕ → ℕ → Content → Interaction) → plan_from leased v before (walk_to_entry names name next) ≡ plan_from leased v reads
        (then_or_error o (λ i. walk_from i [] (next r.0)))
    at_entry o leads next =
        walk_ends r is (λ d content. then_or_error (link_of (Some content) name) (λ i. walk_from i [] (next d)))
        ∙ ap (λ o. plan_from leased v reads (then_or_error o (λ i. walk_from i [] (next r.0)))) leads

    pub entry_fault : (error : TreeError) → link_of (Some r.1.now) name ≡ Err error → (next : ℕ → ℕ → Content → Interaction) →
        plan_from leased v before (walk_to_entry names name next) ≡ plan_stopped reads (Fault error)
    entry_fault error leads next = at_entry (Err error) leads next

    module _ (i : ℕ) (leads : link_of (Some r.1.now) name ≡ Ok i) (more : List ℕ) (last : Result (Bor Content) Stop)
        (reached : (next : ℕ → Content → Interaction) → Reached leased v reads more i last next) where
      pub entry_stops : (stop : Stop) → last ≡ Err stop → (next : ℕ → ℕ → Content → Interaction) → plan_from leased v before (walk_to_entry names name next)
          ≡ plan_stopped more stop
      entry_stops stop stopped next = at_entry (Ok i) leads next ∙ reach_stops leased v reads more i last reached stop stopped (next r.0)

      pub entry_ends : (content : Bor Content) → last ≡ Ok content → (next : ℕ → ℕ → Content → Interaction) →
          plan_from leased v before (walk_to_entry names name next) ≡ plan_from leased v more (next r.0 i content.now)
      entry_ends content found next = at_entry (Ok i) leads next ∙ reach_ends leased v reads more i last reached content found (next r.0)

-- a walk to an entry ended so
abbrev pub EndedAtEntry : LeaseView → Values → List ℕ → List (List ℕ) → List ℕ → List ℕ → Result Entry Stop → (ℕ → ℕ → Content → Interaction) → Type 0
EndedAtEntry leased v before parent name reads end next =
    MatchResult end
    (λ e. plan_from leased v before (walk_to_entry parent name next) ≡ plan_from leased v reads (next e.directory e.inode e.content.now))
    (λ stop. plan_from leased v before (walk_to_entry parent name next) ≡ plan_stopped reads stop)

-- ---- a call that begins with a walk

module _ (leased : LeaseView) (v : Values) (before : List ℕ) (names : List (List ℕ)) (reads : List ℕ) (end : Result (ℕ × Bor Content) Stop) (none : before ≡ [])
    (ended : (next : ℕ → Content → Interaction) → Ended leased v before names reads end next) where
  from_nothing : (next : ℕ → Content → Interaction) → plan_from leased v before (walk names next) ≡ plan_from leased v [] (walk names next)
  from_nothing next = ap (λ rs. plan_from leased v rs (walk names next)) none

  pub at_stop : (stop : Stop) → end ≡ Err stop → (next : ℕ → Content → Interaction) → plan_stopped reads stop ≡ plan_from leased v [] (walk names next)
  at_stop stop is next = sym (walk_stops leased v before names reads end ended stop is next) ∙ from_nothing next

  pub at_end : (r : ℕ × Bor Content) → end ≡ Ok r → (next : ℕ → Content → Interaction) → plan_from leased v reads (next r.0 r.1.now)
      ≡ plan_from leased v [] (walk names next)
  at_end r is next = sym (walk_ends leased v before names reads end ended r is next) ∙ from_nothing next

module _ (leased : LeaseView) (v : Values) (before : List ℕ) (parent : List (List ℕ)) (name : List ℕ) (reads : List ℕ) (end : Result Entry Stop)
    (none : before ≡ [])
    (ended : (next : ℕ → ℕ → Content → Interaction) → EndedAtEntry leased v before parent name reads end next) where
  entry_from_nothing : (next : ℕ → ℕ → Content → Interaction) → plan_from leased v before (walk_to_entry parent name next)
      ≡ plan_from leased v [] (walk_to_entry parent name next)
  entry_from_nothing next = ap (λ rs. plan_from leased v rs (walk_to_entry parent name next)) none

  pub at_entry_stop : (stop : Stop) → end ≡ Err stop → (next : ℕ → ℕ → Content → Interaction) →
      plan_stopped reads stop ≡ plan_from leased v [] (walk_to_entry parent name next)
  at_entry_stop stop is next = sym (subst (λ e. EndedAtEntry leased v before parent name reads e next) is (ended next)) ∙ entry_from_nothing next

  pub at_entry_end : (e : Entry) → end ≡ Ok e → (next : ℕ → ℕ → Content → Interaction) → plan_from leased v reads (next e.directory e.inode e.content.now)
      ≡ plan_from leased v [] (walk_to_entry parent name next)
  at_entry_end e is next = sym (subst (λ e. EndedAtEntry leased v before parent name reads e next) is (ended next)) ∙ entry_from_nothing next

-- ---- a call whose path isn't the root

pub name_is : (p : List (List ℕ)) (name : List ℕ) → 1 ≤ length p → name ≡ slice_index_or p (length p - 1) name → last_name p ≡ name
name_is p name some is = get_or_default p (length p - 1) [] name (omega (arith, some)) ∙ sym is

pub below_root : (leased : LeaseView) (v : Values) (at_root : Interaction) (below : List ℕ → Interaction) (p : List (List ℕ)) (name : List ℕ) → 1 ≤ length p →
    name ≡ slice_index_or p (length p - 1) name →
    plan_from leased v [] (below name) ≡ plan_from leased v [] (if length p == 0 then at_root else below (last_name p))
below_root leased v at_root below p name some is = grind (arith, name_is)
