-- Plans by visits of what is left of a call, after some of them.
use Rattle.std.specs.Prelude.{◌≡◌, ℕ, if◌then◌else◌, List, [], ◌∷◌, ◌++◌}
use Rattle.assise_names.specs.declared.mode.Mode.TheVariants.{Read}
use Rattle.assise_names.specs.declared.reply.Reply.TheVariants.{Error}
use Rattle.assise_inode_table.specs.Calls.{walk}
use Rattle.assise_inode_table.specs.Contents.{Content, Values}
use Rattle.assise_inode_table.specs.Interaction.{Interaction, visit, finish}
use Rattle.assise_inode_plan.specs.Leased.{LeaseView}
use Rattle.assise_inode_plan.specs.Planning.{Plan, ready, missing}
use Rattle.assise_inode_plan.specs.declared.walk.Stop.{Stop}
use Rattle.assise_inode_plan.specs.declared.walk.Stop.TheVariants.{Fault, Unleased}

-- each inode is looked at only where it is leased
abbrev pub plan_from : LeaseView → Values → List ℕ → Interaction → Plan
plan_from leased v before (visit i next) = if leased i Read then plan_from leased v (before ++ i ∷ []) (next (v i)) else missing i Read
plan_from leased v before (finish reply es) = ready (record { visits = before; reply = reply; effects = es })

-- where a walk stopped
abbrev pub plan_stopped : List ℕ → Stop → Plan
plan_stopped before (Fault error) = ready (record { visits = before; reply = Error error; effects = [] })
plan_stopped before (Unleased i) = missing i Read

-- a walk along the path ends at this inode, behind these visits
abbrev pub EndsAt : LeaseView → Values → List ℕ → List (List ℕ) → List ℕ → ℕ → Content → Type 0
EndsAt leased v before p visits i content = (next : ℕ → Content → Interaction) → plan_from leased v before (walk p next) ≡ plan_from leased v visits (next i content)
