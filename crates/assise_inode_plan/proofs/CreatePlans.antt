-- What is planned for the calls that make an inode.
use Rattle.assise_inode_plan.proofs.Common.{◌≡◌, ℕ, ◌-◌, ◌≤◌, List, [], ◌∷◌, length, slice_index_or, Result, Ok, Err, Bor, ap, sym, ◌∙◌, Done, Error, TreeError}
use Rattle.assise_inode_plan.proofs.Common.{Exists, Effect, Link, parent_of, then_or_error, walk, as_links, room_among, make_call, Content, Links, Values}
use Rattle.assise_inode_plan.proofs.Common.{Interaction, finish, LeaseView, plan_from, plan_stopped, Stop}
use Rattle.assise_inode_plan.proofs.WalkEnds.{quiet, Ended, at_stop, at_end, below_root}

-- what follows the walk to the parent
abbrev pub making : Effect → ℕ → List ℕ → ℕ → Content → Interaction
making new fresh name d content =
    then_or_error (as_links content) (λ links. then_or_error (room_among name links) (λ _. finish Done (new ∷ Link d name fresh ∷ [])))

module _ (leased : LeaseView) (v : Values) (before : List ℕ) (p : List (List ℕ)) (reads : List ℕ) (end : Result (ℕ × Bor Content) Stop) (none : before ≡ [])
    (ended : (next : ℕ → Content → Interaction) → Ended leased v before (parent_of p) reads end next)
    (new : Effect) (fresh : ℕ) (name : List ℕ) (some : 1 ≤ length p) (is : name ≡ slice_index_or p (length p - 1) name) where
  below : plan_from leased v [] (walk (parent_of p) (making new fresh name)) ≡ plan_from leased v [] (make_call new p fresh)
  below = below_root leased v (finish (Error Exists) []) (λ n. walk (parent_of p) (making new fresh n)) p name some is

  pub make_stops : (stop : Stop) → end ≡ Err stop → plan_stopped reads stop ≡ plan_from leased v [] (make_call new p fresh)
  make_stops stop stopped = at_stop leased v before (parent_of p) reads end none ended stop stopped (making new fresh name) ∙ below

  module _ (r : ℕ × Bor Content) (found : end ≡ Ok r) where
    in_parent : (o : Result Links TreeError) → as_links r.1.now ≡ o →
        plan_from leased v reads (then_or_error o (λ links. then_or_error (room_among name links) (λ _. finish Done (new ∷ Link r.0 name fresh ∷ []))))
        ≡ plan_from leased v [] (make_call new p fresh)
    in_parent o parent =
        ap (λ o. plan_from leased v reads
        (then_or_error o (λ links. then_or_error (room_among name links) (λ _. finish Done (new ∷ Link r.0 name fresh ∷ []))))) (sym parent)
        ∙ at_end leased v before (parent_of p) reads end none ended r found (making new fresh name) ∙ below

    pub make_under_file : (error : TreeError) → as_links r.1.now ≡ Err error → quiet reads (Error error) ≡ plan_from leased v [] (make_call new p fresh)
    make_under_file error parent = in_parent (Err error) parent

    with_room : (links : Links) → as_links r.1.now ≡ Ok links → (o : Result (Unit {0}) TreeError) → room_among name links ≡ o →
        plan_from leased v reads (then_or_error o (λ _. finish Done (new ∷ Link r.0 name fresh ∷ []))) ≡ plan_from leased v [] (make_call new p fresh)
    with_room links parent o room =
        ap (λ o. plan_from leased v reads (then_or_error o (λ _. finish Done (new ∷ Link r.0 name fresh ∷ [])))) (sym room) ∙ in_parent (Ok links) parent

    pub make_without_room : (links : Links) (error : TreeError) → as_links r.1.now ≡ Ok links → room_among name links ≡ Err error → quiet reads (Error error)
        ≡ plan_from leased v [] (make_call new p fresh)
    make_without_room links error parent room = with_room links parent (Err error) room

    pub make_ends : (links : Links) → as_links r.1.now ≡ Ok links → room_among name links ≡ Ok tt →
        plan_from leased v reads (finish Done (new ∷ Link r.0 name fresh ∷ [])) ≡ plan_from leased v [] (make_call new p fresh)
    make_ends links parent room = with_room links parent (Ok tt) room
