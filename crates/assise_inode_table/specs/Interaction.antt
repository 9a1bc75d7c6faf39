-- How a call meets inodes: it visits one after another, each chosen by what those before it hold, and in the end it answers.
-- Assise, OSDI 2020, section 3 (CC-NVM, leases): what a call visits is leased for reading, and what it changes for writing.
use Rattle.std.specs.Prelude.{◌≡◌, ℕ, List, [], ◌∷◌, Option}
use Rattle.assise_names.specs.declared.reply.Reply.{Reply}
use Rattle.assise_record.specs.declared.effect.Effect.{Effect}
use Rattle.assise_inode_table.specs.Contents.{Content, Values}

pub data Interaction : Type 0 where
  -- looks at an inode, and goes on by its value
  visit : ℕ → (Option Content → Interaction) → Interaction
  -- answers, and makes effects
  finish : Reply → List Effect → Interaction

-- ---- over the values of inodes

abbrev pub visits_of : Values → Interaction → List ℕ
visits_of v (visit i next) = i ∷ visits_of v (next (v i))
visits_of v (finish reply es) = []

abbrev pub reply_of : Values → Interaction → Reply
reply_of v (visit i next) = reply_of v (next (v i))
reply_of v (finish reply es) = reply

abbrev pub effects_of : Values → Interaction → List Effect
effects_of v (visit i next) = effects_of v (next (v i))
effects_of v (finish reply es) = es

-- what a call is over values: the inodes that it visits, in order, its reply, and its effects, in order
pub record Step : Type 0 where
  pub visits : List ℕ
  pub reply : Reply
  pub effects : List Effect

abbrev pub step_by : Values → Interaction → Step
step_by v x = record { visits = visits_of v x; reply = reply_of v x; effects = effects_of v x }

-- the values agree on the inodes
abbrev pub AgreeOn : List ℕ → Values → Values → Type 0
AgreeOn [] v w = Unit {0}
AgreeOn (i ∷ is) v w = (v i ≡ w i) × AgreeOn is v w
