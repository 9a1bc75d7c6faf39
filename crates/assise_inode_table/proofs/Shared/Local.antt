-- A call depends on the inodes alone that it visits.
use Rattle.assise_inode_table.proofs.Common.{◌≡◌, ℕ, ◌∷◌, refl, ap, ◌∙◌, Op, Values, Interaction, visit, finish, visits_of, Step, step_by, AgreeOn, interaction}
use Rattle.assise_inode_table.proofs.Common.{step}

-- a visit more
visited : ℕ → Step → Step
visited i s = record { visits = i ∷ s.visits; reply = s.reply; effects = s.effects }

pub same_step : (v w : Values) (x : Interaction) → AgreeOn (visits_of v x) v w → step_by v x ≡ step_by w x
unfolding visited
same_step v w (visit i next) h = ap (visited i) (same_step v w (next (v i)) h.1) ∙ ap (λ o. visited i (step_by w (next o))) h.0
same_step v w (finish reply es) h = refl

pub step_local : (v w : Values) (op : Op) (fresh : ℕ) → AgreeOn (step v op fresh).visits v w → step v op fresh ≡ step w op fresh
step_local v w op fresh h = same_step v w (interaction op fresh) h
