-- A walk that is made again visits the same inodes, and ends at the same.
use Rattle.assise_inode_plan.proofs.Common.{◌≡◌, ℕ, ◌≤◌, Bool, true, false, if◌then◌else◌, List, [], ◌∷◌, ◌++◌, length, take, ap, sym, refl, ◌∙◌, append_assoc}
use Rattle.assise_inode_plan.proofs.Common.{length-append, take_all, arith, take-append-le, Read, Content, Values, Interaction, visit, finish, LeaseView, Plan}
use Rattle.assise_inode_plan.proofs.Common.{ready, missing, EndsAt, plan_from}
use Rattle.std.proofs.Common.{append-nil}

-- the visits of a walk, before one more
module _ (visits more : List ℕ) (i count : ℕ) (all : count ≡ length visits) (is : more ≡ visits ++ i ∷ []) where
  pub first_visits : take count more ≡ visits
  first_visits = ap (take count) is ∙ take-append-le count visits (i ∷ []) (omega (arith, all)) ∙ take_all count visits (omega (arith, all))

  pub visits_before : count ≤ length more
  visits_before = (let longer : length more ≡ length (visits ++ i ∷ []) = ap length is in omega (arith, all, longer, length-append visits (i ∷ [])))

-- the plan with these visits before its own
abbrev behind : List ℕ → Plan → Plan
behind before (ready step) = ready (record { visits = before ++ step.visits; reply = step.reply; effects = step.effects })
behind before (missing i mode) = missing i mode

behind_both : (before more : List ℕ) (p : Plan) → behind before (behind more p) ≡ behind (before ++ more) p
behind_both before more (ready step) = grind (arith, append_assoc)
behind_both before more (missing i mode) = refl

module _ (leased : LeaseView) (v : Values) where
  by_lease : (before : List ℕ) (i : ℕ) (b : Bool) (all mine : Plan) → all ≡ behind before mine → (if b then all else missing i Read)
      ≡ behind before (if b then mine else missing i Read)
  by_lease before i true all mine same = same
  by_lease before i false all mine same = refl

  -- what was visited before changes nothing else
  later : (before : List ℕ) (x : Interaction) → plan_from leased v before x ≡ behind before (plan_from leased v [] x)
  later before (finish reply es) = ap (λ l. ready (record { visits = l; reply = reply; effects = es })) (sym (append-nil before))
  later before (visit i next) = grind (arith, later (before ++ i ∷ []) (next (v i)), later (i ∷ []) (next (v i)), behind_both)

  pub walk_again : (p : List (List ℕ)) (visits : List ℕ) (i : ℕ) (content : Content) → EndsAt leased v [] p visits i content → (before : List ℕ) →
      EndsAt leased v before p (before ++ visits) i content
  walk_again p visits i content first before next = grind (arith, later, behind_both)
