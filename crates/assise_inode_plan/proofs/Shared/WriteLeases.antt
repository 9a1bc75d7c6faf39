-- What is changed has to be leased for writing.
use Rattle.assise_inode_plan.proofs.Common.{◌≡◌, ℕ, ◌+◌, ◌<◌, ◌≤◌, true, false, List, ◌∷◌, length, drop, slice_index_or, Some, None, refl, ap, ◌∙◌, drop_more}
use Rattle.assise_inode_plan.proofs.Common.{drop_of_length-le, Write, Effect, touched, LeaseView, for_writing, first_missing, arith}
use Rattle.assise_record.specs.Touched.{touched_by}

lacking : (leased : LeaseView) (e : Effect) (es : List Effect) → leased (touched_by e) Write ≡ false → first_missing leased (for_writing (touched (e ∷ es)))
    ≡ Some (touched_by e, Write)
lacking leased e es bare = rw bare refl

holding : (leased : LeaseView) (e : Effect) (es : List Effect) → leased (touched_by e) Write ≡ true → first_missing leased (for_writing (touched (e ∷ es)))
    ≡ first_missing leased (for_writing (touched es))
holding leased e es held = rw held refl

-- the effects from the k-th on are looked at
abbrev pub LooksAt : LeaseView → List Effect → ℕ → Type 0
LooksAt leased es k = first_missing leased (for_writing (touched es)) ≡ first_missing leased (for_writing (touched (drop k es)))

at_effect : (leased : LeaseView) (es : List Effect) (k : ℕ) (e : Effect) → LooksAt leased es k → k < length es → e ≡ slice_index_or es k e →
    first_missing leased (for_writing (touched es)) ≡ first_missing leased (for_writing (touched (e ∷ drop (k + 1) es)))
at_effect leased es k e so_far few is = grind (arith, drop_more)

pub effect_lacks : (leased : LeaseView) (es : List Effect) (k : ℕ) (e : Effect) → LooksAt leased es k → k < length es → e ≡ slice_index_or es k e →
    leased (touched_by e) Write ≡ false →
    first_missing leased (for_writing (touched es)) ≡ Some (touched_by e, Write)
effect_lacks leased es k e so_far few is bare = at_effect leased es k e so_far few is ∙ lacking leased e (drop (k + 1) es) bare

pub all_leased : (leased : LeaseView) (es : List Effect) (k : ℕ) → LooksAt leased es k → length es ≤ k → first_missing leased (for_writing (touched es)) ≡ None
all_leased leased es k so_far all = so_far ∙ ap (λ fs. first_missing leased (for_writing (touched fs))) (drop_of_length-le es all)
