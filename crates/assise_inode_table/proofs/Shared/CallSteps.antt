-- Over inodes that spell a tree a call is what it is on the tree.
use Rattle.assise_inode_table.proofs.Common.{◌≡◌, ℕ, true, None, list_any, Op, Create, Mkdir, Read, Truncate, Rename, Rmdir, ListCall, Stat, Fsync, Dsync, Tree}
use Rattle.assise_inode_table.proofs.Common.{answer, Values, after, makes, interaction, step, Spells}
use Rattle.assise_names.specs.declared.call.Op.TheVariants.{Write, Unlink}
use Rattle.assise_inode_table.proofs.CallsAgree.{Agrees}
use Rattle.assise_inode_table.proofs.WalkMeets.{settled}
use Rattle.assise_inode_table.proofs.QuietCalls.{stat_agrees, read_agrees, list_agrees, sync_agrees}
use Rattle.assise_inode_table.proofs.WritingCalls.{write_agrees, truncate_agrees}
use Rattle.assise_inode_table.proofs.MakingCalls.{create_agrees, mkdir_agrees}
use Rattle.assise_inode_table.proofs.RenamingCalls.{rename_agrees}
use Rattle.assise_inode_table.proofs.RemovingCalls.{unlink_agrees, rmdir_agrees}

agrees_all : (v : Values) (t : Tree) (op : Op) (fresh : ℕ) → Spells v t → Agrees v fresh (settled v (interaction op fresh)) (answer t op)
agrees_all v t (Create p) fresh s = create_agrees v t p fresh s
agrees_all v t (Mkdir p) fresh s = mkdir_agrees v t p fresh s
agrees_all v t (Read p offset most) fresh s = read_agrees v t p offset most fresh s
agrees_all v t (Write p offset new) fresh s = write_agrees v t p offset new fresh s
agrees_all v t (Truncate p size) fresh s = truncate_agrees v t p size fresh s
agrees_all v t (Rename p q) fresh s = rename_agrees v t p q fresh s
agrees_all v t (Unlink p) fresh s = unlink_agrees v t p fresh s
agrees_all v t (Rmdir p) fresh s = rmdir_agrees v t p fresh s
agrees_all v t (ListCall p) fresh s = list_agrees v t p fresh s
agrees_all v t (Stat p) fresh s = stat_agrees v t p fresh s
agrees_all v t Fsync fresh s = sync_agrees v t fresh s
agrees_all v t Dsync fresh s = sync_agrees v t fresh s

pub step_replies : (v : Values) (t : Tree) (op : Op) (fresh : ℕ) → Spells v t → (step v op fresh).reply ≡ (answer t op).0
step_replies v t op fresh s = (agrees_all v t op fresh s).0

pub step_spells : (v : Values) (t : Tree) (op : Op) (fresh : ℕ) → Spells v t → (list_any (makes fresh) (step v op fresh).effects ≡ true → v fresh ≡ None) →
    Spells (after v (step v op fresh).effects) (answer t op).1
step_spells v t op fresh s new = (agrees_all v t op fresh s).1 new
