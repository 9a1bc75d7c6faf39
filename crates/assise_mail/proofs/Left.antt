-- What a call leaves as it was.
use Rattle.assise_mail.proofs.Common.{◌≡◌, inl, inr, ℕ, Bool, true, false, cond, ◌==◌, nat_le, List, [], ◌∷◌, length, Result, Ok, Err, Contains, refl, ap, sym}
use Rattle.assise_mail.proofs.Common.{◌∙◌, arith, Contains-append_right, same_path, Op, Create, Mkdir, Read, Write, Truncate, Rename, Unlink, Rmdir, ListCall}
use Rattle.assise_mail.proofs.Common.{Stat, Fsync, Dsync, Done, Error, TreeError, TooBig, Call, IsRun, tree_after, ◌>>=◌, answer, room_at, file_at, entries_at}
use Rattle.assise_mail.proofs.Common.{may_rename, may_unlink, may_rmdir, reply_and_tree, overwritten, is_within, resized, Tree, file, dir, no_entries, at, put}
use Rattle.assise_mail.proofs.Common.{without, AllLeave, Leaves, only_looks}
use Rattle.assise_seq_tree.proofs.Shared.Calls.{list_leaves, read_leaves, rest_is_left, stat_leaves}

-- ---- a call that only looks

looking_leaves : (t : Tree) (op : Op) → only_looks op ≡ true → (answer t op).1 ≡ t
looking_leaves t (Read p offset most) is = read_leaves t offset most (file_at t p)
looking_leaves t (ListCall p) is = list_leaves t (entries_at t p)
looking_leaves t (Stat p) is = stat_leaves t (at t p)
looking_leaves t Fsync is = refl
looking_leaves t Dsync is = refl
looking_leaves t (Create p) is = cc
looking_leaves t (Mkdir p) is = cc
looking_leaves t (Write p offset new) is = cc
looking_leaves t (Truncate p size) is = cc
looking_leaves t (Rename p q) is = cc
looking_leaves t (Unlink p) is = cc
looking_leaves t (Rmdir p) is = cc

-- ---- a call that failed

done_or_stays : (t u : Tree) (r : Result (Unit {0}) TreeError) (e : TreeError) → (reply_and_tree t (r >>= λ _. Ok (Done, u))).0 ≡ Error e →
    (reply_and_tree t (r >>= λ _. Ok (Done, u))).1 ≡ t
done_or_stays t u (Ok x) e is = cc
done_or_stays t u (Err f) e is = refl

write_or_stays : (t : Tree) (changed : List ℕ → Tree) (r : Result (List ℕ) TreeError) (b : Bool) (e : TreeError) →
    (reply_and_tree t (r >>= λ bytes. cond b (Ok (Done, changed bytes)) (Err TooBig))).0 ≡ Error e →
    (reply_and_tree t (r >>= λ bytes. cond b (Ok (Done, changed bytes)) (Err TooBig))).1 ≡ t
write_or_stays t changed (Ok bytes) true e is = cc
write_or_stays t changed (Ok bytes) false e is = refl
write_or_stays t changed (Err f) b e is = refl

rename_or_stays : (t : Tree) (changed : Tree → Tree) (may : Result (Unit {0}) TreeError) (found : Result Tree TreeError) (e : TreeError) →
    (reply_and_tree t (may >>= λ _. found >>= λ moved. Ok (Done, changed moved))).0 ≡ Error e →
    (reply_and_tree t (may >>= λ _. found >>= λ moved. Ok (Done, changed moved))).1 ≡ t
rename_or_stays t changed (Ok x) (Ok moved) e is = cc
rename_or_stays t changed (Ok x) (Err f) e is = refl
rename_or_stays t changed (Err f) found e is = refl

failing_leaves : (t : Tree) (op : Op) (e : TreeError) → (answer t op).0 ≡ Error e → (answer t op).1 ≡ t
failing_leaves t (Read p offset most) e is = read_leaves t offset most (file_at t p)
failing_leaves t (ListCall p) e is = list_leaves t (entries_at t p)
failing_leaves t (Stat p) e is = stat_leaves t (at t p)
failing_leaves t Fsync e is = refl
failing_leaves t Dsync e is = refl
failing_leaves t (Create p) e is = done_or_stays t (put t p (file [])) (room_at t p) e is
failing_leaves t (Mkdir p) e is = done_or_stays t (put t p (dir no_entries)) (room_at t p) e is
failing_leaves t (Write p offset new) e is =
    write_or_stays t (λ bytes. cond (length new == 0) t (put t p (file (overwritten bytes offset new)))) (file_at t p) (is_within offset new) e is
failing_leaves t (Truncate p size) e is = write_or_stays t (λ bytes. put t p (file (resized bytes size))) (file_at t p) (nat_le size 1048576) e is
failing_leaves t (Rename p q) e is = rename_or_stays t (λ moved. cond (same_path p q) t (put (without t p) q moved)) (may_rename t p q) (at t p) e is
failing_leaves t (Unlink p) e is = done_or_stays t (without t p) (may_unlink t p) e is
failing_leaves t (Rmdir p) e is = done_or_stays t (without t p) (may_rmdir t p) e is

-- ---- an answered call, and many

pub one_leaves : (t : Tree) (p : List (List ℕ)) (x : Call) → x.reply ≡ (answer t x.op).0 → Leaves p x → at (answer t x.op).1 p ≡ at t p
one_leaves t p x right (inl disjoint) = rest_is_left t (answer t x.op).1 x.op (answer t x.op).0 p refl disjoint
one_leaves t p x right (inr (inl looks)) = ap (λ u. at u p) (looking_leaves t x.op looks)
one_leaves t p x right (inr (inr failed)) = ap (λ u. at u p) (failing_leaves t x.op failed.0 (sym right ∙ failed.1))

first_in : (xs : List Call) (x : Call) → Contains (x ∷ xs) x
first_in xs x = (0, omega arith, refl)

behind_in : (xs : List Call) (y x : Call) → Contains xs x → Contains (y ∷ xs) x
behind_in xs y x there = Contains-append_right (y ∷ []) xs x there

pub all_leave : (t : Tree) (p : List (List ℕ)) (xs : List Call) → IsRun t xs → AllLeave p xs → at (tree_after t xs) p ≡ at t p
all_leave t p [] run leave = refl
all_leave t p (x ∷ xs) run leave =
    all_leave (answer t x.op).1 p xs run.1 (λ y there. leave y (behind_in xs x y there)) ∙ one_leaves t p x run.0 (leave x (first_in xs x))
