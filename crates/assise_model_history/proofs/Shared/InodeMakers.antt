-- Which calls make an inode, and that a sync does nothing.
use Rattle.assise_model_history.proofs.Common.{◌≡◌, ℕ, true, false, List, [], ap, arith, list_any, Op, Durability, Done, Error, is_sync, step, Values, makes}
use Rattle.assise_model_history.proofs.Common.{Step, makes_inode}
use Rattle.std.proofs.lemmas.Bool.{eq-eqb}
use Rattle.assise_names.specs.declared.reply.Reply.{Reply}
use Rattle.assise_names.specs.declared.reply.TreeError.{TreeError}
use Rattle.assise_record.specs.declared.effect.Effect.{Effect}
use Rattle.assise_inode_table.proofs.Shared.CallEnds.{HoldsWhereDone, call_ends}

-- an inode is made exactly where the reply says so
abbrev AsReplied : Op → ℕ → Reply → List Effect → Type 0
AsReplied op fresh reply es = list_any (makes fresh) es ≡ makes_inode op reply

as_replied : (op : Op) (fresh : ℕ) → HoldsWhereDone (AsReplied op fresh) op fresh
as_replied op fresh = grind (arith, eq-eqb)

-- a call that fails makes none
none_by_error : (op : Op) (e : TreeError) → false ≡ makes_inode op (Error e)
none_by_error op e = grind arith

pub makes_where_done : (v : Values) (op : Op) (fresh : ℕ) → list_any (makes fresh) (step v op fresh).effects ≡ makes_inode op (step v op fresh).reply
makes_where_done v op fresh = call_ends v (AsReplied op fresh) (none_by_error op) op fresh (as_replied op fresh)

-- what a sync does
abbrev pub nothing_done : Step
nothing_done = record { visits = []; reply = Done; effects = [] }

pub sync_step : (v : Values) (op : Op) (fresh : ℕ) (u : Durability) → is_sync op u ≡ true → step v op fresh ≡ nothing_done
sync_step v op fresh u h = grind arith

pub sync_still : (v : Values) (op : Op) (fresh : ℕ) (u : Durability) → is_sync op u ≡ true → (step v op fresh).effects ≡ []
sync_still v op fresh u h = ap (λ s. s.effects) (sync_step v op fresh u h)
