-- A plan by visits, and then by what is changed, is the plan of the whole step.
use Rattle.assise_inode_plan.proofs.Common.{◌≡◌, ℕ, List, [], ◌∷◌, ◌++◌, Option, Some, None, refl, inl, inr, cases_Bool, Mode, Read, Reply, Tree, Values}
use Rattle.assise_inode_plan.proofs.Common.{touched, Step, LeaseView, for_reading, for_writing, first_missing, CanBeMadeWhole, PlanAnswers, Plan, arith}
use Rattle.assise_inode_plan.proofs.Common.{changed_plan_of, effects_planned, missing, plan_lacking, plan_of, ready, visited_plan_of}

pub visits_then_changes : (leased : LeaseView) (s : Step) → changed_plan_of leased (visited_plan_of leased s) ≡ plan_of leased s
visits_then_changes leased s = go s.visits
  where
    go : (is : List ℕ) → changed_plan_of leased (plan_lacking s (first_missing leased (for_reading is)))
        ≡ plan_lacking s (first_missing leased (for_reading is ++ for_writing (touched s.effects)))
    go [] = refl
    go (i ∷ is) =
        elim (cases_Bool (leased i Read)) [
          | inl held ↦ rw held (go is)
          | inr bare ↦ rw bare refl
        ]

-- where a lease is missing, nothing is answered
pub answers_kept : (v : Values) (outcome : Reply × Tree) (leased : LeaseView) (p : Plan) → PlanAnswers v outcome p →
    PlanAnswers v outcome (changed_plan_of leased p)
answers_kept v outcome leased (missing i mode) h = tt
answers_kept v outcome leased (ready s) h = grind arith

-- and nothing is changed
pub whole_kept : (leased : LeaseView) (p : Plan) → CanBeMadeWhole (effects_planned p) → CanBeMadeWhole (effects_planned (changed_plan_of leased p))
whole_kept leased (missing i mode) h = h
whole_kept leased (ready s) h = go (first_missing leased (for_writing (touched s.effects)))
  where
    go : (o : Option (ℕ × Mode)) → CanBeMadeWhole (effects_planned (plan_lacking s o))
    go None = h
    go (Some w) = inr (inl tt)
