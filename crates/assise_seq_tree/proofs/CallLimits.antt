-- No call leads out of the limits.
use Rattle.assise_seq_tree.proofs.Common.{◌≡◌, ◌<◌, arith, ℕ, Bool, true, false, cond, ◌==◌, nat_le, List, [], ◌∷◌, length, Result, Ok, Err, refl, sym, ◌∙◌}
use Rattle.assise_seq_tree.proofs.Common.{subst, Op, Create, Mkdir, Read, Write, Truncate, Rename, Unlink, Rmdir, ListCall, Stat, Fsync, Dsync, Reply, Done}
use Rattle.assise_seq_tree.proofs.Common.{TreeError, TooBig, ◌>>=◌, answer, as_directory, room_for, room_at, file_at, entries_at, may_rename, may_unlink}
use Rattle.assise_seq_tree.proofs.Common.{may_rmdir, reply_and_tree, overwritten, is_within, resized, Tree, file, dir, Entries, no_entries, count, at, put}
use Rattle.assise_seq_tree.proofs.Common.{without, IsWithinLimits, same_path}
use Rattle.assise_seq_tree.proofs.Shared.Moves.{Path, parent_and_last}
use Rattle.assise_seq_tree.proofs.Shared.BytesRead.{length-overwritten}
use Rattle.assise_seq_tree.proofs.Shared.Writes.{file_there}
use Rattle.assise_seq_tree.proofs.Shared.FileResized.{length-resized}
use Rattle.assise_seq_tree.proofs.Shared.Calls.{second, read_leaves, list_leaves, stat_leaves}
use Rattle.assise_seq_tree.proofs.Limits.{put_there, put_new, within-without, within-at}
use Rattle.assise_seq_tree.proofs.Shared.MovedTreeRoom.{received}

-- ---- what the checks found
has_room : (r : Result Tree TreeError) (name : List ℕ) → (r >>= λ found. as_directory found >>= λ es. room_for name es) ≡ Ok tt →
    (es : Entries) × ((r ≡ Ok (dir es)) × (count es < 4096))
has_room (Ok (file bytes)) name h = cc
has_room (Ok (dir es)) name h = grind arith
has_room (Err e) name h = cc

put_made : (t x : Tree) (p : Path) → room_at t p ≡ Ok tt → IsWithinLimits t → IsWithinLimits x → IsWithinLimits (put t p x)
put_made t x [] h s o = cc
put_made t x (n ∷ p) h s o = grind (arith, parent_and_last (n ∷ p) (omega arith), put_new)

-- ---- calls
-- create and mkdir
made : (t x : Tree) (p : Path) (r : Result (Unit {0}) TreeError) → room_at t p ≡ r → IsWithinLimits t → IsWithinLimits x →
    IsWithinLimits (reply_and_tree t (r >>= λ _. Ok (Done, put t p x))).1
made t x p (Ok y) is s o = put_made t x p is s o
made t x p (Err e) is s o = s

fits_in : (t : Tree) (p : Path) (offset : ℕ) (new bytes : List ℕ) → at t p ≡ Ok (file bytes) → is_within offset new ≡ true → IsWithinLimits t →
    IsWithinLimits (file bytes) → IsWithinLimits (put t p (file (overwritten bytes offset new)))
fits_in t p offset new bytes there fits s old = grind (arith, put_there, length-overwritten)

written : (t : Tree) (p : Path) (offset : ℕ) (new : List ℕ) (r : Result (List ℕ) TreeError) (fits none : Bool) → file_at t p ≡ r → is_within offset new ≡ fits →
    IsWithinLimits t
    → IsWithinLimits (reply_and_tree t (r >>= λ bytes. cond fits (Ok (Done, cond none t (put t p (file (overwritten bytes offset new))))) (Err TooBig))).1
written t p offset new (Ok bytes) true true is fits s = s
written t p offset new (Ok bytes) true false is fits s =
    let there = file_there (at t p) bytes is in
    fits_in t p offset new bytes there fits s (within-at p t (file bytes) there s)
written t p offset new (Ok bytes) false none is fits s = s
written t p offset new (Err e) fits none is f s = s

resized_within : (t : Tree) (p : Path) (size : ℕ) (bytes : List ℕ) → at t p ≡ Ok (file bytes) → nat_le size 1048576 ≡ true → IsWithinLimits t →
    IsWithinLimits (put t p (file (resized bytes size)))
resized_within t p size bytes there fits s = grind (arith, put_there, length-resized)

truncated : (t : Tree) (p : Path) (size : ℕ) (r : Result (List ℕ) TreeError) (fits : Bool) → file_at t p ≡ r → nat_le size 1048576 ≡ fits → IsWithinLimits t
    → IsWithinLimits (reply_and_tree t (r >>= λ bytes. cond fits (Ok (Done, put t p (file (resized bytes size)))) (Err TooBig))).1
truncated t p size (Ok bytes) true is fits s = resized_within t p size bytes (file_there (at t p) bytes is) fits s
truncated t p size (Ok bytes) false is fits s = s
truncated t p size (Err e) fits is f s = s

-- unlink and rmdir
removed : (t : Tree) (p : Path) (r : Result (Unit {0}) TreeError) → IsWithinLimits t → IsWithinLimits (reply_and_tree t (r >>= λ _. Ok (Done, without t p))).1
removed t p (Ok x) s = within-without p t s
removed t p (Err e) s = s

renamed : (t : Tree) (p q : Path) (found : Result Tree TreeError) (may : Result (Unit {0}) TreeError) (same : Bool) → at t p ≡ found → may_rename t p q ≡ may →
    same_path p q ≡ same → IsWithinLimits t
    → IsWithinLimits (reply_and_tree t (may >>= λ _. found >>= λ moved. Ok (Done, cond same t (put (without t p) q moved)))).1
renamed t p q (Ok moved) (Ok x) true there passes same s = s
renamed t p q (Ok moved) (Ok x) false there passes disjoint s = received t moved p q there passes disjoint s
renamed t p q (Err e) (Ok x) same there passes is s = s
renamed t p q found (Err e) same there passes is s = s

pub limits_kept : (t u : Tree) (op : Op) (reply : Reply) → answer t op ≡ (reply, u) → IsWithinLimits t → IsWithinLimits u
limits_kept t u (Create p) reply h s = subst IsWithinLimits (sym (second _ reply u h)) (made t (file []) p (room_at t p) refl s (omega arith))
limits_kept t u (Read p offset most) reply h s = subst IsWithinLimits (sym (second _ reply u h ∙ read_leaves t offset most (file_at t p))) s
limits_kept t u (Write p offset new) reply h s =
    subst IsWithinLimits (sym (second _ reply u h)) (written t p offset new (file_at t p) (is_within offset new) (length new == 0) refl refl s)
limits_kept t u (Stat p) reply h s = subst IsWithinLimits (sym (second _ reply u h ∙ stat_leaves t (at t p))) s
limits_kept t u (Mkdir p) reply h s = subst IsWithinLimits (sym (second _ reply u h)) (made t (dir no_entries) p (room_at t p) refl s (omega arith, tt))
limits_kept t u (Truncate p size) reply h s = grind (arith, truncated t p size (file_at t p) (nat_le size 1048576) refl refl s)
limits_kept t u (Unlink p) reply h s = subst IsWithinLimits (sym (second _ reply u h)) (removed t p (may_unlink t p) s)
limits_kept t u (Rmdir p) reply h s = subst IsWithinLimits (sym (second _ reply u h)) (removed t p (may_rmdir t p) s)
limits_kept t u (ListCall p) reply h s = subst IsWithinLimits (sym (second _ reply u h ∙ list_leaves t (entries_at t p))) s
limits_kept t u Fsync reply h s = subst IsWithinLimits (sym (second _ reply u h)) s
limits_kept t u Dsync reply h s = subst IsWithinLimits (sym (second _ reply u h)) s
limits_kept t u (Rename p q) reply h s = grind (arith, renamed t p q (at t p) (may_rename t p q) (same_path p q) refl refl refl s)
