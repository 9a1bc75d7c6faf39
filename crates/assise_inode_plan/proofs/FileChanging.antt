-- What is planned for the calls that change a file's bytes.
use Rattle.assise_inode_plan.proofs.Common.{◌≡◌, ℕ, true, false, if◌then◌else◌, nat_le, List, [], ◌∷◌, Result, Ok, Err, Bor, ap, sym, ◌∙◌, Done, Error}
use Rattle.assise_inode_plan.proofs.Common.{TreeError, TooBig, SetLen, is_within, then_or_error, as_regular, write_effects, write_call, truncate_call, Content}
use Rattle.assise_inode_plan.proofs.Common.{Values, Interaction, finish, LeaseView, plan_from, Stop}
use Rattle.assise_inode_plan.proofs.WalkEnds.{quiet, Ended, at_end}

module _ (leased : LeaseView) (v : Values) (before : List ℕ) (names : List (List ℕ)) (reads : List ℕ) (end : Result (ℕ × Bor Content) Stop) (none : before ≡ [])
    (ended : (next : ℕ → Content → Interaction) → Ended leased v before names reads end next) (r : ℕ × Bor Content) (is : end ≡ Ok r) where
  module _ (offset : ℕ) (new : List ℕ) where
    write_checked : (o : Result (List ℕ) TreeError) → as_regular r.1.now ≡ o →
        plan_from leased v reads (then_or_error o (λ _. if is_within offset new then finish Done (write_effects r.0 offset new) else finish (Error TooBig) []))
        ≡ plan_from leased v [] (write_call names offset new)
    write_checked o file =
        ap (λ o. plan_from leased v reads
        (then_or_error o (λ _. if is_within offset new then finish Done (write_effects r.0 offset new) else finish (Error TooBig) []))) (sym file)
        ∙ at_end leased v before names reads end none ended r is
        (λ i content. then_or_error (as_regular content)
        (λ _. if is_within offset new then finish Done (write_effects i offset new) else finish (Error TooBig) []))

    pub write_fails : (error : TreeError) → as_regular r.1.now ≡ Err error → quiet reads (Error error) ≡ plan_from leased v [] (write_call names offset new)
    write_fails error file = write_checked (Err error) file

    pub write_is_big : (bytes : List ℕ) → as_regular r.1.now ≡ Ok bytes → is_within offset new ≡ false → quiet reads (Error TooBig)
        ≡ plan_from leased v [] (write_call names offset new)
    write_is_big bytes file big =
        ap (λ b. plan_from leased v reads (if b then finish Done (write_effects r.0 offset new) else finish (Error TooBig) [])) (sym big)
        ∙ write_checked (Ok bytes) file

    pub write_ends : (bytes : List ℕ) → as_regular r.1.now ≡ Ok bytes → is_within offset new ≡ true →
        plan_from leased v reads (finish Done (write_effects r.0 offset new)) ≡ plan_from leased v [] (write_call names offset new)
    write_ends bytes file fits =
        ap (λ b. plan_from leased v reads (if b then finish Done (write_effects r.0 offset new) else finish (Error TooBig) [])) (sym fits)
        ∙ write_checked (Ok bytes) file

  module _ (size : ℕ) where
    truncate_checked : (o : Result (List ℕ) TreeError) → as_regular r.1.now ≡ o →
        plan_from leased v reads (then_or_error o (λ _. if nat_le size 1048576 then finish Done (SetLen r.0 size ∷ []) else finish (Error TooBig) []))
        ≡ plan_from leased v [] (truncate_call names size)
    truncate_checked o file =
        ap (λ o. plan_from leased v reads (then_or_error o (λ _. if nat_le size 1048576 then finish Done (SetLen r.0 size ∷ []) else finish (Error TooBig) [])))
        (sym file)
        ∙ at_end leased v before names reads end none ended r is
        (λ i content. then_or_error (as_regular content) (λ _. if nat_le size 1048576 then finish Done (SetLen i size ∷ []) else finish (Error TooBig) []))

    pub truncate_fails : (error : TreeError) → as_regular r.1.now ≡ Err error → quiet reads (Error error) ≡ plan_from leased v [] (truncate_call names size)
    truncate_fails error file = truncate_checked (Err error) file

    pub truncate_is_big : (bytes : List ℕ) → as_regular r.1.now ≡ Ok bytes → nat_le size 1048576 ≡ false → quiet reads (Error TooBig)
        ≡ plan_from leased v [] (truncate_call names size)
    truncate_is_big bytes file big =
        ap (λ b. plan_from leased v reads (if b then finish Done (SetLen r.0 size ∷ []) else finish (Error TooBig) [])) (sym big)
        ∙ truncate_checked (Ok bytes) file

    pub truncate_ends : (bytes : List ℕ) → as_regular r.1.now ≡ Ok bytes → nat_le size 1048576 ≡ true →
        plan_from leased v reads (finish Done (SetLen r.0 size ∷ [])) ≡ plan_from leased v [] (truncate_call names size)
    truncate_ends bytes file fits =
        ap (λ b. plan_from leased v reads (if b then finish Done (SetLen r.0 size ∷ []) else finish (Error TooBig) [])) (sym fits)
        ∙ truncate_checked (Ok bytes) file
