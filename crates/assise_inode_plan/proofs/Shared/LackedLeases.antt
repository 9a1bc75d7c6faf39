-- Which leases a plan lacks.
use Rattle.assise_inode_plan.proofs.Common.{◌≡◌, ℕ, true, false, List, [], ◌∷◌, ◌++◌, Option, Some, None, refl, ap, sym, subst, ◌∙◌, inl, inr, cases_Bool, Op}
use Rattle.assise_inode_plan.proofs.Common.{Mode, Read, interaction, step, Values, Interaction, visit, finish, Step, AgreeOn, AreLeased, LeaseView, arith}
use Rattle.assise_inode_plan.proofs.Common.{first_missing, changed_plan_of, ready, missing, plan_lacking, plan_of, visited_plan_of, plan_from}
use Rattle.assise_inode_table.proofs.Shared.Local.{step_local}
use Rattle.assise_inode_plan.proofs.WholeStepPlan.{visits_then_changes}
use Rattle.assise_inode_plan.proofs.Exact.{whole_plan}

-- where the first one that is lacking stands
pub record Lacks (leased : LeaseView) (ws : List (ℕ × Mode)) (w : ℕ × Mode) : Type 0 where
  pub before : List (ℕ × Mode)
  pub after : List (ℕ × Mode)
  pub split : ws ≡ before ++ w ∷ after
  pub held : AreLeased leased before
  pub bare : leased w.0 w.1 ≡ false

lacks : (leased : LeaseView) (ws : List (ℕ × Mode)) (w : ℕ × Mode) → first_missing leased ws ≡ Some w → Lacks leased ws w
lacks leased [] w h = cc
lacks leased (x ∷ ws) w h =
    elim (cases_Bool (leased x.0 x.1)) [
      | inl held ↦
          let rest : Lacks leased ws w = lacks leased ws w (rw held at h) in
          record { before = x ∷ rest.before; after = rest.after; split = ap (λ ys. x ∷ ys) rest.split; held = (held, rest.held); bare = rest.bare }
      | inr bare ↦
          let one : x ≡ w = same_one x w (rw bare at h) in
          record { before = []; after = ws; split = ap (λ y. y ∷ ws) one; held = tt; bare = subst (λ y. leased y.0 y.1 ≡ false) one bare }
    ]
  where
    same_one : (x w : ℕ × Mode) → Some x ≡ Some w → x ≡ w
    same_one x w e = cc

all_leased : (leased : LeaseView) (ws : List (ℕ × Mode)) → first_missing leased ws ≡ None → AreLeased leased ws
all_leased leased [] h = tt
all_leased leased (x ∷ ws) h =
    elim (cases_Bool (leased x.0 x.1)) [
      | inl held ↦ (held, all_leased leased ws (rw held at h))
      | inr bare ↦ let no_more = rw bare at h in cc
    ]

missing_from : (s : Step) (o : Option (ℕ × Mode)) (i : ℕ) (mode : Mode) → plan_lacking s o ≡ missing i mode → o ≡ Some (i, mode)
missing_from s None i mode e = cc
missing_from s (Some w) i mode e = grind arith

-- of these leases that a step wants
pub missing_is_first : (leased : LeaseView) (s : Step) (ws : List (ℕ × Mode)) (i : ℕ) (mode : Mode) → plan_lacking s (first_missing leased ws)
    ≡ missing i mode →
    (before : List (ℕ × Mode)) × (after : List (ℕ × Mode)) × (ws ≡ before ++ (i, mode) ∷ after) × AreLeased leased before × (leased i mode ≡ false)
missing_is_first leased s ws i mode e = grind (arith, lacks leased ws (i, mode) (missing_from s (first_missing leased ws) i mode e))

ready_from : (s u : Step) (o : Option (ℕ × Mode)) → plan_lacking s o ≡ ready u → (o ≡ None) × (u ≡ s)
ready_from s u None e = (refl, cc)
ready_from s u (Some w) e = cc

pub ready_has_all : (leased : LeaseView) (s u : Step) (ws : List (ℕ × Mode)) → plan_lacking s (first_missing leased ws) ≡ ready u →
    (u ≡ s) × AreLeased leased ws
ready_has_all leased s u ws e = grind (arith, all_leased)

-- ---- inodes that agree

same_from : (leased : LeaseView) (v w : Values) (before : List ℕ) (x : Interaction) → ((i : ℕ) → leased i Read ≡ true → v i ≡ w i) → plan_from leased v before x
    ≡ plan_from leased w before x
same_from leased v w before (finish reply es) same = refl
same_from leased v w before (visit i next) same = grind (arith, same_from leased v w (before ++ i ∷ []) (next (v i)) same)

pub same_visits : (leased : LeaseView) (v w : Values) (op : Op) (fresh : ℕ) → ((i : ℕ) → leased i Read ≡ true → v i ≡ w i) →
    visited_plan_of leased (step v op fresh) ≡ visited_plan_of leased (step w op fresh)
same_visits leased v w op fresh same =
    sym (whole_plan leased v (interaction op fresh)) ∙ same_from leased v w [] (interaction op fresh) same ∙ whole_plan leased w (interaction op fresh)

pub same_leased : (leased : LeaseView) (v w : Values) (op : Op) (fresh : ℕ) → ((i : ℕ) → leased i Read ≡ true → v i ≡ w i) → plan_of leased (step v op fresh)
    ≡ plan_of leased (step w op fresh)
same_leased leased v w op fresh same =
    sym (visits_then_changes leased (step v op fresh)) ∙ ap (changed_plan_of leased) (same_visits leased v w op fresh same)
    ∙ visits_then_changes leased (step w op fresh)

pub same_visited : (leased : LeaseView) (v w : Values) (op : Op) (fresh : ℕ) → AgreeOn (step v op fresh).visits v w → plan_of leased (step v op fresh)
    ≡ plan_of leased (step w op fresh)
same_visited leased v w op fresh agree = ap (plan_of leased) (step_local v w op fresh agree)
