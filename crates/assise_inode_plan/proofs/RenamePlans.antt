-- What is planned for renames.
use Rattle.assise_inode_plan.proofs.Common.{◌≡◌, ℕ, ◌-◌, ◌≤◌, Bool, true, false, if◌then◌else◌, List, [], ◌∷◌, length, slice_index_or, Result, Ok, Err, IfOk}
use Rattle.assise_inode_plan.proofs.Common.{Bor, ap, sym, ◌∙◌, arith, ne_eqb, is_proper_prefix, same_path, Done, Error, TreeError, Effect, Unlink, Free}
use Rattle.assise_inode_plan.proofs.Common.{parent_of, last_name, then_or_error, walk_to_entry, as_links, content_may_replace, move_effects, replace_target}
use Rattle.assise_inode_plan.proofs.Common.{receive, move_to, rename_call, Content, Links, Values, Interaction, finish, LeaseView, Plan, shown, plan_from}
use Rattle.assise_inode_plan.proofs.Common.{plan_stopped, Planned, Entry, Stop}
use Rattle.std.specs.FinMap as map
use Rattle.assise_inode_plan.proofs.WalkRest.{Reached, reach_ends, reach_stops}
use Rattle.assise_inode_plan.proofs.WalkEnds.{quiet, Ended, EndedAtEntry, at_entry_stop, at_entry_end, name_is, walk_ends, walk_stops}

-- what is planned is planned for whatever has the same plan
pub planned_for : {E : Type 0} (r : Result Planned E) (x y : Plan) → IfOk r (λ p. shown p ≡ x) → x ≡ y → IfOk r (λ p. shown p ≡ y)
planned_for (Ok p) x y planned same = planned ∙ same
planned_for (Err e) x y planned same = tt

-- ---- the inode that is replaced

-- what follows its visit
abbrev pub replacing : Content → ℕ → List ℕ → List Effect → ℕ → Content → Interaction
replacing moved e new moves g target = then_or_error (content_may_replace moved target) (λ _. finish Done (Unlink e new ∷ Free g ∷ moves))

module _ (leased : LeaseView) (v : Values) (reads more : List ℕ) (g : ℕ) (end : Result (Bor Content) Stop)
    (reached : (next : ℕ → Content → Interaction) → Reached leased v reads more g end next)
    (moved : Content) (e : ℕ) (new : List ℕ) (moves : List Effect) where
  pub target_stops : (stop : Stop) → end ≡ Err stop → plan_stopped more stop ≡ plan_from leased v reads (replace_target moved e new moves g)
  target_stops stop is = sym (reach_stops leased v reads more g end reached stop is (replacing moved e new moves))

  target_checked : (t : Bor Content) → end ≡ Ok t → (o : Result (Unit {0}) TreeError) → content_may_replace moved t.now ≡ o →
      plan_from leased v more (then_or_error o (λ _. finish Done (Unlink e new ∷ Free g ∷ moves))) ≡ plan_from leased v reads
      (replace_target moved e new moves g)
  target_checked t is o checked =
      ap (λ o. plan_from leased v more (then_or_error o (λ _. finish Done (Unlink e new ∷ Free g ∷ moves)))) (sym checked)
      ∙ sym (reach_ends leased v reads more g end reached t is (replacing moved e new moves))

  pub target_remains : (t : Bor Content) → end ≡ Ok t → (error : TreeError) → content_may_replace moved t.now ≡ Err error → quiet more (Error error)
      ≡ plan_from leased v reads (replace_target moved e new moves g)
  target_remains t is error checked = target_checked t is (Err error) checked

  pub target_goes : (t : Bor Content) → end ≡ Ok t → content_may_replace moved t.now ≡ Ok tt →
      plan_from leased v more (finish Done (Unlink e new ∷ Free g ∷ moves)) ≡ plan_from leased v reads (replace_target moved e new moves g)
  target_goes t is checked = target_checked t is (Ok tt) checked

-- ---- the directory that takes the moved inode

-- what follows the walk to it
abbrev pub receiving : List (List ℕ) → List (List ℕ) → ℕ → ℕ → Content → ℕ → Content → Interaction
receiving p q d i moved e content =
    then_or_error (as_links content) (λ links.
    if same_path p q then finish Done []
    else receive moved (same_path (parent_of p) (parent_of q)) e links (last_name q) (move_effects d (last_name p) e (last_name q) i)
    (map.get links (last_name q)))

module _ (leased : LeaseView) (v : Values) (reads : List ℕ) (p q : List (List ℕ)) (more : List ℕ) (end : Result (ℕ × Bor Content) Stop)
    (ended : (next : ℕ → Content → Interaction) → Ended leased v reads (parent_of q) more end next) (d i : ℕ) (moved : Content) where
  pub move_stops : (stop : Stop) → end ≡ Err stop → plan_stopped more stop ≡ plan_from leased v reads (move_to p q d i moved)
  move_stops stop is = sym (walk_stops leased v reads (parent_of q) more end ended stop is (receiving p q d i moved))

  module _ (r : ℕ × Bor Content) (is : end ≡ Ok r) where
    in_directory : (o : Result Links TreeError) → as_links r.1.now ≡ o →
        plan_from leased v more (then_or_error o (λ links.
        if same_path p q then finish Done []
        else receive moved (same_path (parent_of p) (parent_of q)) r.0 links (last_name q) (move_effects d (last_name p) r.0 (last_name q) i)
        (map.get links (last_name q))))
        ≡ plan_from leased v reads (move_to p q d i moved)
    in_directory o parent =
        ap (λ o. plan_from leased v more (then_or_error o (λ links.
        if same_path p q then finish Done []
        else receive moved (same_path (parent_of p) (parent_of q)) r.0 links (last_name q) (move_effects d (last_name p) r.0 (last_name q) i)
        (map.get links (last_name q))))) (sym parent)
        ∙ sym (walk_ends leased v reads (parent_of q) more end ended r is (receiving p q d i moved))

    pub move_under_file : (error : TreeError) → as_links r.1.now ≡ Err error → quiet more (Error error) ≡ plan_from leased v reads (move_to p q d i moved)
    move_under_file error parent = in_directory (Err error) parent

    module _ (links : Links) (parent : as_links r.1.now ≡ Ok links) where
      if_same : (b : Bool) → same_path p q ≡ b →
          plan_from leased v more (if b then finish Done []
          else receive moved (same_path (parent_of p) (parent_of q)) r.0 links (last_name q) (move_effects d (last_name p) r.0 (last_name q) i)
          (map.get links (last_name q)))
          ≡ plan_from leased v reads (move_to p q d i moved)
      if_same b same =
          ap (λ b. plan_from leased v more (if b then finish Done []
          else receive moved (same_path (parent_of p) (parent_of q)) r.0 links (last_name q) (move_effects d (last_name p) r.0 (last_name q) i)
          (map.get links (last_name q)))) (sym same)
          ∙ in_directory (Ok links) parent

      pub move_to_itself : same_path p q ≡ true → quiet more Done ≡ plan_from leased v reads (move_to p q d i moved)
      move_to_itself same = if_same true same

      pub move_elsewhere : same_path p q ≡ false → (stays : Bool) → stays ≡ same_path (parent_of p) (parent_of q) →
          (name new : List ℕ) → 1 ≤ length p → 1 ≤ length q → name ≡ slice_index_or p (length p - 1) name → new ≡ slice_index_or q (length q - 1) new →
          plan_from leased v more (receive moved stays r.0 links new (move_effects d name r.0 new i) (map.get links new)) ≡ plan_from leased v reads
          (move_to p q d i moved)
      move_elsewhere other stays beside name new some more_some name_at new_at =
          ap (λ b. plan_from leased v more (receive moved b r.0 links new (move_effects d name r.0 new i) (map.get links new))) beside
          ∙ ap (λ n. plan_from leased v more
          (receive moved (same_path (parent_of p) (parent_of q)) r.0 links new (move_effects d n r.0 new i) (map.get links new)))
          (sym (name_is p name some name_at))
          ∙ ap (λ n. plan_from leased v more
          (receive moved (same_path (parent_of p) (parent_of q)) r.0 links n (move_effects d (last_name p) r.0 n i) (map.get links n)))
          (sym (name_is q new more_some new_at))
          ∙ if_same false other

-- ---- the whole call

-- neither path is the root, and the second doesn't go on from the first
rename_below : (leased : LeaseView) (v : Values) (p q : List (List ℕ)) (name : List ℕ) → 1 ≤ length p → 1 ≤ length q →
    name ≡ slice_index_or p (length p - 1) name → is_proper_prefix p q ≡ false →
    plan_from leased v [] (walk_to_entry (parent_of p) name (move_to p q)) ≡ plan_from leased v [] (rename_call p q)
rename_below leased v p q name some more_some name_at outside = grind
    (arith, plan_from, walk_to_entry, parent_of, move_to, name_is, finish, last_name, is_proper_prefix, ne_eqb)

-- the names of both paths are looked at
module _ (leased : LeaseView) (v : Values) (before : List ℕ) (p q names new_names : List (List ℕ)) (name : List ℕ) (reads : List ℕ) (end : Result Entry Stop)
    (none : before ≡ [])
    (ended : (next : ℕ → ℕ → Content → Interaction) → EndedAtEntry leased v before (parent_of names) name reads end next)
    (names_are : names ≡ p) (new_names_are : new_names ≡ q) (some : 1 ≤ length names) (more_some : 1 ≤ length new_names)
    (name_at : name ≡ slice_index_or names (length names - 1) name)
    (outside : is_proper_prefix p q ≡ false) where
  of_names : plan_from leased v [] (walk_to_entry (parent_of names) name (move_to names new_names)) ≡ plan_from leased v [] (rename_call p q)
  of_names = grind (arith, rename_below)

  pub rename_stops : (stop : Stop) → end ≡ Err stop → plan_stopped reads stop ≡ plan_from leased v [] (rename_call p q)
  rename_stops stop stopped = at_entry_stop leased v before (parent_of names) name reads end none ended stop stopped (move_to names new_names) ∙ of_names

  pub rename_goes_on : (e : Entry) → end ≡ Ok e → plan_from leased v reads (move_to names new_names e.directory e.inode e.content.now)
      ≡ plan_from leased v [] (rename_call p q)
  rename_goes_on e found = at_entry_end leased v before (parent_of names) name reads end none ended e found (move_to names new_names) ∙ of_names
