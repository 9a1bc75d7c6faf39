-- A call leaves each path that is disjoint from its own.
use Rattle.assise_seq_tree.proofs.Common.{◌≡◌, ℕ, Bool, true, false, cond, ◌==◌, nat_le, List, [], length, Result, Ok, Err, refl, ap, sym, ◌∙◌, same_path, Op}
use Rattle.assise_seq_tree.proofs.Common.{Create, Mkdir, Read, Write, Truncate, Rename, Unlink, Rmdir, ListCall, Stat, Fsync, Dsync, Reply, Done, Bytes, Names}
use Rattle.assise_seq_tree.proofs.Common.{TreeError, TooBig, ◌>>=◌, IsDisjointFrom, answer, room_at, file_at, entries_at, may_rename, may_unlink, may_rmdir}
use Rattle.assise_seq_tree.proofs.Common.{reply_and_tree, description_of, bytes_from, overwritten, is_within, resized, Tree, file, dir, Entries, no_entries}
use Rattle.assise_seq_tree.proofs.Common.{names_of, at, put, without, AreDisjointPaths, arith}
use Rattle.assise_seq_tree.proofs.Shared.Moves.{Path, at-put_disjoint, at-without_disjoint}
use Rattle.assise_seq_tree.proofs.Shared.Paths.{step_disjoint, turned_disjoint}

-- the tree after a call
pub second : {A B : Type 0} (r : A × B) (x : A) (y : B) → r ≡ (x, y) → y ≡ r.1
second r x y h = sym (ap (λ s. s.1) h)

-- create and mkdir
making_leaves : (t x : Tree) (p q : Path) → AreDisjointPaths p q → (r : Result (Unit {0}) TreeError) → at (reply_and_tree t (r >>= λ _. Ok (Done, put t p x))).1
    q ≡ at t q
making_leaves t x p q h (Ok y) = at-put_disjoint q p t x (turned_disjoint p q h)
making_leaves t x p q h (Err e) = refl

pub read_leaves : (t : Tree) (offset most : ℕ) (r : Result (List ℕ) TreeError) →
    (reply_and_tree t (r >>= λ bytes. Ok (Bytes (bytes_from offset most bytes), t))).1 ≡ t
read_leaves t offset most (Ok x) = refl
read_leaves t offset most (Err e) = refl

pub stat_leaves : (t : Tree) (r : Result Tree TreeError) → (reply_and_tree t (r >>= λ found. Ok (description_of found, t))).1 ≡ t
stat_leaves t (Ok x) = refl
stat_leaves t (Err e) = refl

pub list_leaves : (t : Tree) (r : Result Entries TreeError) → (reply_and_tree t (r >>= λ es. Ok (Names (names_of es), t))).1 ≡ t
list_leaves t (Ok es) = refl
list_leaves t (Err e) = refl

write_leaves : (t : Tree) (p q : Path) (offset : ℕ) (new : List ℕ) → AreDisjointPaths p q → (r : Result (List ℕ) TreeError) → (fits none : Bool)
    → at (reply_and_tree t (r >>= λ bytes. cond fits (Ok (Done, cond none t (put t p (file (overwritten bytes offset new))))) (Err TooBig))).1 q ≡ at t q
write_leaves t p q offset new h (Ok bytes) true true = refl
write_leaves t p q offset new h (Ok bytes) true false = at-put_disjoint q p t (file (overwritten bytes offset new)) (turned_disjoint p q h)
write_leaves t p q offset new h (Ok bytes) false none = refl
write_leaves t p q offset new h (Err e) fits none = refl

truncate_leaves : (t : Tree) (p q : Path) (size : ℕ) → AreDisjointPaths p q → (r : Result (List ℕ) TreeError) → (fits : Bool)
    → at (reply_and_tree t (r >>= λ bytes. cond fits (Ok (Done, put t p (file (resized bytes size)))) (Err TooBig))).1 q ≡ at t q
truncate_leaves t p q size h (Ok bytes) true = at-put_disjoint q p t (file (resized bytes size)) (turned_disjoint p q h)
truncate_leaves t p q size h (Ok bytes) false = refl
truncate_leaves t p q size h (Err e) fits = refl

-- unlink and rmdir
removal_leaves : (t : Tree) (p q : Path) → AreDisjointPaths p q → (r : Result (Unit {0}) TreeError) →
    at (reply_and_tree t (r >>= λ _. Ok (Done, without t p))).1 q ≡ at t q
removal_leaves t p q h (Ok x) = at-without_disjoint p q t (step_disjoint p q h)
removal_leaves t p q h (Err e) = refl

rename_leaves : (t : Tree) (p r q : Path) → AreDisjointPaths p q → AreDisjointPaths r q → (may : Result (Unit {0}) TreeError) (found : Result Tree TreeError)
    (same : Bool)
    → at (reply_and_tree t (may >>= λ _. found >>= λ moved. Ok (Done, cond same t (put (without t p) r moved)))).1 q ≡ at t q
rename_leaves t p r q h k (Ok x) (Ok moved) true = refl
rename_leaves t p r q h k (Ok x) (Ok moved) false = grind (arith, at-put_disjoint, turned_disjoint, at-without_disjoint)
rename_leaves t p r q h k (Ok x) (Err e) same = refl
rename_leaves t p r q h k (Err e) found same = refl

pub rest_is_left : (t u : Tree) (op : Op) (reply : Reply) (q : Path) → answer t op ≡ (reply, u) → IsDisjointFrom op q → at u q ≡ at t q
rest_is_left t u (Create p) reply q h disjoint = ap (λ v. at v q) (second _ reply u h) ∙ making_leaves t (file []) p q disjoint (room_at t p)
rest_is_left t u (Read p offset most) reply q h disjoint = ap (λ v. at v q) (second _ reply u h ∙ read_leaves t offset most (file_at t p))
rest_is_left t u (Write p offset new) reply q h disjoint =
    ap (λ v. at v q) (second _ reply u h) ∙ write_leaves t p q offset new disjoint (file_at t p) (is_within offset new) (length new == 0)
rest_is_left t u (Stat p) reply q h disjoint = ap (λ v. at v q) (second _ reply u h ∙ stat_leaves t (at t p))
rest_is_left t u (Mkdir p) reply q h disjoint = ap (λ v. at v q) (second _ reply u h) ∙ making_leaves t (dir no_entries) p q disjoint (room_at t p)
rest_is_left t u (Truncate p size) reply q h disjoint =
    ap (λ v. at v q) (second _ reply u h) ∙ truncate_leaves t p q size disjoint (file_at t p) (nat_le size 1048576)
rest_is_left t u (Unlink p) reply q h disjoint = ap (λ v. at v q) (second _ reply u h) ∙ removal_leaves t p q disjoint (may_unlink t p)
rest_is_left t u (Rmdir p) reply q h disjoint = ap (λ v. at v q) (second _ reply u h) ∙ removal_leaves t p q disjoint (may_rmdir t p)
rest_is_left t u (ListCall p) reply q h disjoint = ap (λ v. at v q) (second _ reply u h ∙ list_leaves t (entries_at t p))
rest_is_left t u Fsync reply q h disjoint = ap (λ v. at v q) (second _ reply u h)
rest_is_left t u Dsync reply q h disjoint = ap (λ v. at v q) (second _ reply u h)
rest_is_left t u (Rename p r) reply q h disjoint =
    ap (λ v. at v q) (second _ reply u h) ∙ rename_leaves t p r q disjoint.0 disjoint.1 (may_rename t p r) (at t p) (same_path p r)
