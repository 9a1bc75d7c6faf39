-- What is planned for the calls that remove an entry.
use Rattle.assise_inode_plan.proofs.Common.{◌≡◌, ℕ, ◌-◌, ◌≤◌, ◌==◌, Bool, true, false, if◌then◌else◌, List, [], ◌∷◌, length, slice_index_or, Result, Ok, Err}
use Rattle.assise_inode_plan.proofs.Common.{ap, sym, ◌∙◌, Done, Error, TreeError, IsDir, Invalid, NotEmpty, Unlink, Free, parent_of, then_or_error}
use Rattle.assise_inode_plan.proofs.Common.{walk_to_entry, as_regular, as_links, without_links, unlink_call, rmdir_call, Content, Links, Values, Interaction}
use Rattle.assise_inode_plan.proofs.Common.{finish, LeaseView, plan_from, plan_stopped, Entry, Stop}
use Rattle.std.specs.FinMap as map
use Rattle.assise_inode_plan.proofs.WalkEnds.{quiet, EndedAtEntry, at_entry_stop, at_entry_end, below_root}

-- the entry goes, and its inode
abbrev pub gone : List ℕ → ℕ → ℕ → Interaction
gone name d i = finish Done (Unlink d name ∷ Free i ∷ [])

-- what follows the walk to the entry
abbrev pub unlinking : List ℕ → ℕ → ℕ → Content → Interaction
unlinking name d i content = then_or_error (as_regular content) (λ _. gone name d i)

abbrev pub removing : List ℕ → ℕ → ℕ → Content → Interaction
removing name d i content = then_or_error (as_links content) (λ links. then_or_error (without_links links) (λ _. gone name d i))

module _ (leased : LeaseView) (v : Values) (before : List ℕ) (p : List (List ℕ)) (name : List ℕ) (reads : List ℕ) (end : Result Entry Stop) (none : before ≡ [])
    (ended : (next : ℕ → ℕ → Content → Interaction) → EndedAtEntry leased v before (parent_of p) name reads end next) (some : 1 ≤ length p)
    (is : name ≡ slice_index_or p (length p - 1) name) where
  -- ---- a file

  file_below : plan_from leased v [] (walk_to_entry (parent_of p) name (unlinking name)) ≡ plan_from leased v [] (unlink_call p)
  file_below = below_root leased v (finish (Error IsDir) []) (λ n. walk_to_entry (parent_of p) n (unlinking n)) p name some is

  pub unlink_stops : (stop : Stop) → end ≡ Err stop → plan_stopped reads stop ≡ plan_from leased v [] (unlink_call p)
  unlink_stops stop stopped = at_entry_stop leased v before (parent_of p) name reads end none ended stop stopped (unlinking name) ∙ file_below

  -- ---- a directory

  directory_below : plan_from leased v [] (walk_to_entry (parent_of p) name (removing name)) ≡ plan_from leased v [] (rmdir_call p)
  directory_below = below_root leased v (finish (Error Invalid) []) (λ n. walk_to_entry (parent_of p) n (removing n)) p name some is

  pub rmdir_stops : (stop : Stop) → end ≡ Err stop → plan_stopped reads stop ≡ plan_from leased v [] (rmdir_call p)
  rmdir_stops stop stopped = at_entry_stop leased v before (parent_of p) name reads end none ended stop stopped (removing name) ∙ directory_below

  module _ (e : Entry) (found : end ≡ Ok e) where
    unlink_checked : (o : Result (List ℕ) TreeError) → as_regular e.content.now ≡ o →
        plan_from leased v reads (then_or_error o (λ _. gone name e.directory e.inode)) ≡ plan_from leased v [] (unlink_call p)
    unlink_checked o file =
        ap (λ o. plan_from leased v reads (then_or_error o (λ _. gone name e.directory e.inode))) (sym file)
        ∙ at_entry_end leased v before (parent_of p) name reads end none ended e found (unlinking name) ∙ file_below

    pub unlink_fails : (error : TreeError) → as_regular e.content.now ≡ Err error → quiet reads (Error error) ≡ plan_from leased v [] (unlink_call p)
    unlink_fails error file = unlink_checked (Err error) file

    pub unlink_ends : (bytes : List ℕ) → as_regular e.content.now ≡ Ok bytes → plan_from leased v reads (gone name e.directory e.inode)
        ≡ plan_from leased v [] (unlink_call p)
    unlink_ends bytes file = unlink_checked (Ok bytes) file

    rmdir_checked : (o : Result Links TreeError) → as_links e.content.now ≡ o →
        plan_from leased v reads (then_or_error o (λ links. then_or_error (without_links links) (λ _. gone name e.directory e.inode)))
        ≡ plan_from leased v [] (rmdir_call p)
    rmdir_checked o dir =
        ap (λ o. plan_from leased v reads (then_or_error o (λ links. then_or_error (without_links links) (λ _. gone name e.directory e.inode)))) (sym dir)
        ∙ at_entry_end leased v before (parent_of p) name reads end none ended e found (removing name) ∙ directory_below

    pub rmdir_fails : (error : TreeError) → as_links e.content.now ≡ Err error → quiet reads (Error error) ≡ plan_from leased v [] (rmdir_call p)
    rmdir_fails error dir = rmdir_checked (Err error) dir

    module _ (links : Links) (dir : as_links e.content.now ≡ Ok links) where
      if_vacant : (b : Bool) → (length (map.keys links) == 0) ≡ b →
          plan_from leased v reads (then_or_error (if b then Ok (tt {0}) else Err NotEmpty) (λ _. gone name e.directory e.inode))
          ≡ plan_from leased v [] (rmdir_call p)
      if_vacant b empty =
          ap (λ b. plan_from leased v reads (then_or_error (if b then Ok (tt {0}) else Err NotEmpty) (λ _. gone name e.directory e.inode))) (sym empty)
          ∙ rmdir_checked (Ok links) dir

      pub rmdir_has_entries : (length (map.keys links) == 0) ≡ false → quiet reads (Error NotEmpty) ≡ plan_from leased v [] (rmdir_call p)
      rmdir_has_entries full = if_vacant false full

      pub rmdir_ends : (length (map.keys links) == 0) ≡ true → plan_from leased v reads (gone name e.directory e.inode) ≡ plan_from leased v [] (rmdir_call p)
      rmdir_ends empty = if_vacant true empty
