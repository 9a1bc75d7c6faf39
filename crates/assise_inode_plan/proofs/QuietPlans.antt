-- What is planned for the calls that change nothing.
use Rattle.assise_inode_plan.proofs.Common.{◌≡◌, ℕ, List, [], Result, Ok, Err, Bor, ap, sym, ◌∙◌, Bytes, Names, Error, TreeError, bytes_from, then_or_error}
use Rattle.assise_inode_plan.proofs.Common.{as_regular, as_links, stat_reply, read_call, list_call, stat_call, Content, Links, Values, Interaction, finish}
use Rattle.assise_inode_plan.proofs.Common.{LeaseView, plan_from, Stop}
use Rattle.std.specs.FinMap as map
use Rattle.assise_inode_plan.proofs.WalkEnds.{quiet, Ended, at_end}

module _ (leased : LeaseView) (v : Values) (before : List ℕ) (names : List (List ℕ)) (reads : List ℕ) (end : Result (ℕ × Bor Content) Stop) (none : before ≡ [])
    (ended : (next : ℕ → Content → Interaction) → Ended leased v before names reads end next) (r : ℕ × Bor Content) (is : end ≡ Ok r) where
  pub stat_ends : quiet reads (stat_reply r.1.now) ≡ plan_from leased v [] (stat_call names)
  stat_ends = at_end leased v before names reads end none ended r is (λ i content. finish (stat_reply content) [])

  module _ (offset most : ℕ) where
    read_checked : (o : Result (List ℕ) TreeError) → as_regular r.1.now ≡ o →
        plan_from leased v reads (then_or_error o (λ bytes. finish (Bytes (bytes_from offset most bytes)) []))
        ≡ plan_from leased v [] (read_call names offset most)
    read_checked o file =
        ap (λ o. plan_from leased v reads (then_or_error o (λ bytes. finish (Bytes (bytes_from offset most bytes)) []))) (sym file)
        ∙ at_end leased v before names reads end none ended r is
        (λ i content. then_or_error (as_regular content) (λ bytes. finish (Bytes (bytes_from offset most bytes)) []))

    pub read_ends : (bytes : List ℕ) → as_regular r.1.now ≡ Ok bytes → quiet reads (Bytes (bytes_from offset most bytes))
        ≡ plan_from leased v [] (read_call names offset most)
    read_ends bytes file = read_checked (Ok bytes) file

    pub read_fails : (error : TreeError) → as_regular r.1.now ≡ Err error → quiet reads (Error error) ≡ plan_from leased v [] (read_call names offset most)
    read_fails error file = read_checked (Err error) file

  list_checked : (o : Result Links TreeError) → as_links r.1.now ≡ o → plan_from leased v reads (then_or_error o (λ links. finish (Names (map.keys links)) []))
      ≡ plan_from leased v [] (list_call names)
  list_checked o dir =
      ap (λ o. plan_from leased v reads (then_or_error o (λ links. finish (Names (map.keys links)) []))) (sym dir)
      ∙ at_end leased v before names reads end none ended r is (λ i content. then_or_error (as_links content) (λ links. finish (Names (map.keys links)) []))

  pub list_ends : (links : Links) → as_links r.1.now ≡ Ok links → quiet reads (Names (map.keys links)) ≡ plan_from leased v [] (list_call names)
  list_ends links dir = list_checked (Ok links) dir

  pub list_fails : (error : TreeError) → as_links r.1.now ≡ Err error → quiet reads (Error error) ≡ plan_from leased v [] (list_call names)
  list_fails error dir = list_checked (Err error) dir
