-- A plan made visit by visit is the plan of the whole step by its visits.
use Rattle.assise_inode_plan.proofs.Common.{◌≡◌, ◌≤◌, ℕ, length, arith, List, [], ◌∷◌, ◌++◌, Option, Some, None, Result, Ok, Err, IfOk, ap, sym, subst, ◌∙◌}
use Rattle.assise_inode_plan.proofs.Common.{inl, inr, append_assoc, append-nil, cases_Bool, Op, Mode, answer, Tree, interaction, step, Values, Interaction}
use Rattle.assise_inode_plan.proofs.Common.{visit, finish, visits_of, reply_of, effects_of, Step, step_by, CanBeMadeWhole, LeaseView, for_reading}
use Rattle.assise_inode_plan.proofs.Common.{first_missing, PlanAnswers, effects_planned, plan_lacking, visited_plan_of, ready, shown, plan_from, Planned}
use Rattle.assise_inode_table.specs.Spelled.{Spells}
use Rattle.assise_inode_table.proofs.Shared.CallEnds.{few_effects}
use Rattle.assise_inode_table.proofs.Shared.CallSteps.{step_replies, step_spells}
use Rattle.assise_inode_table.proofs.Shared.Wholeness.{effects_whole}

-- the step after some visits
after_visits : List ℕ → Values → Interaction → Step
after_visits before v x = record { visits = before ++ visits_of v x; reply = reply_of v x; effects = effects_of v x }

one_more_visit : (before : List ℕ) (i : ℕ) (v : Values) (next : Interaction) → after_visits (before ++ i ∷ []) v next
    ≡ record { visits = before ++ i ∷ visits_of v next; reply = reply_of v next; effects = effects_of v next }
unfolding after_visits
one_more_visit before i v next = grind (arith, append_assoc)

step_by_step : (leased : LeaseView) (v : Values) (before : List ℕ) (x : Interaction) → plan_from leased v before x ≡ plan_lacking (after_visits before v x)
    (first_missing leased (for_reading (visits_of v x)))
unfolding after_visits
step_by_step leased v before (finish reply es) = ap (λ is. ready (record { visits = is; reply = reply; effects = es })) (sym (append-nil before))
step_by_step leased v before (visit i next) = grind
    (arith, step_by_step leased v (before ++ i ∷ []) (next (v i)), cases_Bool, plan_lacking, first_missing, for_reading, visits_of, one_more_visit)

pub whole_plan : (leased : LeaseView) (v : Values) (x : Interaction) → plan_from leased v [] x ≡ visited_plan_of leased (step_by v x)
unfolding after_visits
whole_plan leased v x = step_by_step leased v [] x

pub exact_plan : {E : Type 0} (r : Result Planned E) (leased : LeaseView) (v : Values) (op : Op) (fresh : ℕ) →
    IfOk r (λ p. shown p ≡ plan_from leased v [] (interaction op fresh)) → IfOk r (λ p. shown p ≡ visited_plan_of leased (step v op fresh))
exact_plan (Ok p) leased v op fresh h = h ∙ whole_plan leased v (interaction op fresh)
exact_plan (Err e) leased v op fresh h = tt

-- ---- over inodes that spell a tree

plan_answers : (v : Values) (t : Tree) (op : Op) (fresh : ℕ) (lack : Option (ℕ × Mode)) → Spells v t → v fresh ≡ None →
    PlanAnswers v (answer t op) (plan_lacking (step v op fresh) lack)
plan_answers v t op fresh None s new = (step_replies v t op fresh s, step_spells v t op fresh s (λ _. new))
plan_answers v t op fresh (Some w) s new = tt

pub plan_answers_call : {E : Type 0} (r : Result Planned E) (leased : LeaseView) (v : Values) (op : Op) (fresh : ℕ) →
    IfOk r (λ p. shown p ≡ plan_from leased v [] (interaction op fresh)) → (t : Tree) → Spells v t → v fresh ≡ None →
    IfOk r (λ p. PlanAnswers v (answer t op) (shown p))
plan_answers_call (Ok p) leased v op fresh h t s new =
    subst (PlanAnswers v (answer t op)) (sym (h ∙ whole_plan leased v (interaction op fresh)))
    (plan_answers v t op fresh (first_missing leased (for_reading (step v op fresh).visits)) s new)
plan_answers_call (Err e) leased v op fresh h t s new = tt

-- ---- how many effects

few_planned : (leased : LeaseView) (v : Values) (op : Op) (fresh : ℕ) (lack : Option (ℕ × Mode)) →
    length (effects_planned (plan_lacking (step v op fresh) lack)) ≤ 4
few_planned leased v op fresh None = few_effects v op fresh
few_planned leased v op fresh (Some w) = omega arith

pub few_effects_planned : {E : Type 0} (r : Result Planned E) (leased : LeaseView) (v : Values) (op : Op) (fresh : ℕ) →
    IfOk r (λ p. shown p ≡ plan_from leased v [] (interaction op fresh)) →
    IfOk r (λ p. length (effects_planned (shown p)) ≤ 4)
few_effects_planned (Ok p) leased v op fresh h = grind (arith, whole_plan, few_planned)
few_effects_planned (Err e) leased v op fresh h = tt

-- ---- they can be made all or none

whole_planned : (v : Values) (op : Op) (fresh : ℕ) (lack : Option (ℕ × Mode)) → CanBeMadeWhole (effects_planned (plan_lacking (step v op fresh) lack))
whole_planned v op fresh None = effects_whole v op fresh
whole_planned v op fresh (Some w) = inr (inl tt)

pub whole_effects_planned : {E : Type 0} (r : Result Planned E) (leased : LeaseView) (v : Values) (op : Op) (fresh : ℕ) →
    IfOk r (λ p. shown p ≡ plan_from leased v [] (interaction op fresh)) →
    IfOk r (λ p. CanBeMadeWhole (effects_planned (shown p)))
whole_effects_planned (Ok p) leased v op fresh h = grind (arith, whole_plan, whole_planned)
whole_effects_planned (Err e) leased v op fresh h = tt
