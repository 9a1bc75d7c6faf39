-- Each call leaves an ordered tree ordered.
use Rattle.assise_seq_tree.proofs.Common.{◌≡◌, ℕ, Bool, true, false, cond, ◌==◌, nat_le, List, [], ◌∷◌, length, Result, Ok, Err, refl, sym, subst, same_path}
use Rattle.assise_seq_tree.proofs.Common.{Op, Create, Mkdir, Read, Write, Truncate, Rename, Unlink, Rmdir, ListCall, Stat, Fsync, Dsync, Done, TreeError}
use Rattle.assise_seq_tree.proofs.Common.{TooBig, ◌>>=◌, answer, room_at, file_at, entries_at, may_rename, may_unlink, may_rmdir, reply_and_tree, overwritten}
use Rattle.assise_seq_tree.proofs.Common.{is_within, resized, Tree, file, dir, no_entries, opening, at, put, without, IsOrdered}
use Rattle.assise_seq_tree.specs.Runs.{tree_after_calls}
use Rattle.assise_seq_tree.proofs.Shared.Calls.{read_leaves, list_leaves, stat_leaves}
use Rattle.assise_seq_tree.proofs.Shared.Moves.{Path, ordered-without}
use Rattle.assise_seq_tree.proofs.Order.{ordered-put}
use Rattle.assise_seq_tree.proofs.TreePlaced.{ordered-at}

-- create and mkdir
made : (t x : Tree) (p : Path) → IsOrdered t → IsOrdered x → (r : Result (Unit {0}) TreeError) →
    IsOrdered (reply_and_tree t (r >>= λ _. Ok (Done, put t p x))).1
made t x p s o (Ok y) = ordered-put p t x s o
made t x p s o (Err e) = s

written : (t : Tree) (p : Path) (offset : ℕ) (new : List ℕ) → IsOrdered t → (r : Result (List ℕ) TreeError) (fits none : Bool)
    → IsOrdered (reply_and_tree t (r >>= λ bytes. cond fits (Ok (Done, cond none t (put t p (file (overwritten bytes offset new))))) (Err TooBig))).1
written t p offset new s (Ok bytes) true true = s
written t p offset new s (Ok bytes) true false = ordered-put p t (file (overwritten bytes offset new)) s tt
written t p offset new s (Ok bytes) false none = s
written t p offset new s (Err e) fits none = s

truncated : (t : Tree) (p : Path) (size : ℕ) → IsOrdered t → (r : Result (List ℕ) TreeError) (fits : Bool)
    → IsOrdered (reply_and_tree t (r >>= λ bytes. cond fits (Ok (Done, put t p (file (resized bytes size)))) (Err TooBig))).1
truncated t p size s (Ok bytes) true = ordered-put p t (file (resized bytes size)) s tt
truncated t p size s (Ok bytes) false = s
truncated t p size s (Err e) fits = s

-- unlink and rmdir
removed : (t : Tree) (p : Path) → IsOrdered t → (r : Result (Unit {0}) TreeError) → IsOrdered (reply_and_tree t (r >>= λ _. Ok (Done, without t p))).1
removed t p s (Ok x) = ordered-without p t s
removed t p s (Err e) = s

renamed : (t : Tree) (p q : Path) → IsOrdered t → (may : Result (Unit {0}) TreeError) (found : Result Tree TreeError) (same : Bool) → at t p ≡ found
    → IsOrdered (reply_and_tree t (may >>= λ _. found >>= λ moved. Ok (Done, cond same t (put (without t p) q moved)))).1
renamed t p q s (Ok x) (Ok moved) true there = s
renamed t p q s (Ok x) (Ok moved) false there = ordered-put q (without t p) moved (ordered-without p t s) (ordered-at p t moved s there)
renamed t p q s (Ok x) (Err e) same there = s
renamed t p q s (Err e) found same there = s

pub ordered-answer : (t : Tree) (op : Op) → IsOrdered t → IsOrdered (answer t op).1
ordered-answer t (Create p) s = made t (file []) p s tt (room_at t p)
ordered-answer t (Mkdir p) s = made t (dir no_entries) p s tt (room_at t p)
ordered-answer t (Read p offset most) s = subst IsOrdered (sym (read_leaves t offset most (file_at t p))) s
ordered-answer t (Write p offset new) s = written t p offset new s (file_at t p) (is_within offset new) (length new == 0)
ordered-answer t (Truncate p size) s = truncated t p size s (file_at t p) (nat_le size 1048576)
ordered-answer t (Rename p q) s = renamed t p q s (may_rename t p q) (at t p) (same_path p q) refl
ordered-answer t (Unlink p) s = removed t p s (may_unlink t p)
ordered-answer t (Rmdir p) s = removed t p s (may_rmdir t p)
ordered-answer t (ListCall p) s = subst IsOrdered (sym (list_leaves t (entries_at t p))) s
ordered-answer t (Stat p) s = subst IsOrdered (sym (stat_leaves t (at t p))) s
ordered-answer t Fsync s = s
ordered-answer t Dsync s = s

ordered_after_calls : (t : Tree) (ops : List Op) → IsOrdered t → IsOrdered (tree_after_calls t ops)
ordered_after_calls t [] s = s
ordered_after_calls t (op ∷ more) s = ordered_after_calls (answer t op).1 more (ordered-answer t op s)

pub ordered_from_opening : (ops : List Op) → IsOrdered (tree_after_calls opening ops)
ordered_from_opening ops = ordered_after_calls opening ops tt
