-- What is planned for a call.
use Rattle.std.specs.Prelude.{◌≡◌, ◌≤◌, ℕ, List, [], length, Option, Some, None}
use Rattle.assise_names.specs.declared.call.Op.{Op}
use Rattle.assise_names.specs.declared.call.Op.TheVariants.{Create, Mkdir, Read as ReadCall, Write as WriteCall, Truncate, Rename, Unlink, Rmdir, List as ListCall, Stat, Fsync, Dsync}
use Rattle.assise_names.specs.declared.mode.Mode.{Mode}
use Rattle.assise_names.specs.declared.reply.Reply.{Reply}
use Rattle.assise_record.specs.declared.effect.Effect.{Effect}
use Rattle.assise_seq_tree.specs.Tree.{Tree}
use Rattle.assise_inode_table.specs.Contents.{Values}
use Rattle.assise_inode_table.specs.Effects.{after, touched}
use Rattle.assise_inode_table.specs.Interaction.{Step}
use Rattle.assise_inode_table.specs.Spelled.{Spells}
use Rattle.assise_inode_plan.specs.Leased.{LeaseView, wants, for_reading, for_writing, first_missing}
use Rattle.assise_inode_plan.specs.declared.plan.Outcome.{Outcome}
use Rattle.assise_inode_plan.specs.declared.plan.Planned.{Planned}
use Rattle.assise_inode_plan.specs.declared.plan.Planned.TheVariants.{Ready, Missing}

-- the whole step, or the first lease that it lacks
pub data Plan : Type 0 where
  ready : Step → Plan
  missing : ℕ → Mode → Plan

abbrev pub plan_lacking : Step → Option (ℕ × Mode) → Plan
plan_lacking s None = ready s
plan_lacking s (Some w) = missing w.0 w.1

abbrev pub plan_of : LeaseView → Step → Plan
plan_of leased s = plan_lacking s (first_missing leased (wants s))

-- planned by the visits alone: what the step changes needn't be leased
abbrev pub visited_plan_of : LeaseView → Step → Plan
visited_plan_of leased s = plan_lacking s (first_missing leased (for_reading s.visits))

-- and then by what it changes
abbrev pub changed_plan_of : LeaseView → Plan → Plan
changed_plan_of leased (missing inode mode) = missing inode mode
changed_plan_of leased (ready s) = plan_lacking s (first_missing leased (for_writing (touched s.effects)))

-- what a plan changes; where a lease is missing, nothing
abbrev pub effects_planned : Plan → List Effect
effects_planned (ready s) = s.effects
effects_planned (missing inode mode) = []

-- the step that an outcome is
abbrev pub step_in : Outcome → Step
step_in o = record { visits = o.reads.items; reply = o.reply; effects = o.effects.items }

-- what the code answers
abbrev pub shown : Planned → Plan
shown (Ready outcome) = ready (step_in outcome)
shown (Missing inode mode) = missing inode mode

-- a plan that is ready has this reply, and after its effects the inodes spell this tree
abbrev pub PlanAnswers : Values → Reply × Tree → Plan → Type 0
PlanAnswers v outcome (missing inode mode) = Unit {0}
PlanAnswers v outcome (ready s) = (s.reply ≡ outcome.0) × Spells (after v s.effects) outcome.1

-- one write takes 65,536 bytes at most
abbrev pub IsWritable : Op → Type 0
IsWritable (WriteCall p offset new) = length new ≤ 65536
IsWritable (Create p) = Unit {0}
IsWritable (Mkdir p) = Unit {0}
IsWritable (ReadCall p offset most) = Unit {0}
IsWritable (Truncate p size) = Unit {0}
IsWritable (Rename p q) = Unit {0}
IsWritable (Unlink p) = Unit {0}
IsWritable (Rmdir p) = Unit {0}
IsWritable (ListCall p) = Unit {0}
IsWritable (Stat p) = Unit {0}
IsWritable Fsync = Unit {0}
IsWritable Dsync = Unit {0}
