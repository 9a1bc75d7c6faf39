-- A delivered message stands.
use Rattle.assise_mail.proofs.Common.{◌≡◌, ℕ, Bool, true, false, cond, ◌==◌, List, [], ◌∷◌, ◌++◌, length, Result, Ok, Err, refl, ap, sym, subst, ◌∙◌}
use Rattle.assise_mail.proofs.Common.{append-nil, arith, drop_of_length-le, ne_eqb, same_path, Done, TreeError, Exists, Call, IsRun, tree_after, ◌>>=◌, answer}
use Rattle.assise_mail.proofs.Common.{as_directory, create_answer, last_name, parent_of, reply_and_tree, rename_answer, room_at, room_for, write_answer, Tree}
use Rattle.assise_mail.proofs.Common.{Entries, at, dir, file, put, bytes_after, wrote, AllLeave, IsDelivery}
use Rattle.assise_seq_tree.proofs.Shared.Paths.{put_stands}
use Rattle.assise_seq_tree.proofs.Shared.Renamed.{stands_at_its_new_path}
use Rattle.assise_mail.proofs.Left.{all_leave}

-- ---- the three calls

-- where there is room for an entry its parent is a directory
parent_there : (b : Bool) (r : Result Tree TreeError) (f : Entries → Result (Unit {0}) TreeError) (x : Unit {0}) →
    cond b (Err Exists) (r >>= λ found. as_directory found >>= λ es. f es) ≡ Ok x → (es : Entries) × (r ≡ Ok (dir es))
parent_there true r f x h = cc
parent_there false (Ok (dir es)) f x h = (es, refl)
parent_there false (Ok (file bytes)) f x h = cc
parent_there false (Err e) f x h = cc

created : (t : Tree) (p : List (List ℕ)) → (create_answer t p).0 ≡ Done → at (create_answer t p).1 p ≡ Ok (file [])
created t p = go (room_at t p) refl
  where
    go : (r : Result (Unit {0}) TreeError) → room_at t p ≡ r → (reply_and_tree t (r >>= λ _. Ok (Done, put t p (file [])))).0 ≡ Done →
        at (reply_and_tree t (r >>= λ _. Ok (Done, put t p (file [])))).1 p ≡ Ok (file [])
    go (Ok x) is done = let parent =
        parent_there (length p == 0) (at t (parent_of p)) (room_for (last_name p)) x is in put_stands t (file []) p parent.0 parent.1
    go (Err e) is done = cc

all_written : (bytes message : List ℕ) → bytes ≡ [] → bytes_after bytes 0 message ≡ message
all_written bytes [] none = none
all_written bytes (b ∷ bs) none =
    let some = ne_eqb (length (b ∷ bs)) 0 (λ zero. absurd (omega (arith, zero))) in
    ap (λ old. bytes_after old 0 (b ∷ bs)) none ∙ rw some (ap (λ l. (b ∷ bs) ++ l) (drop_of_length-le [] (omega arith)) ∙ append-nil (b ∷ bs))

written_whole : (t : Tree) (p : List (List ℕ)) (message : List ℕ) → (write_answer t p 0 message).0 ≡ Done → at t p ≡ Ok (file []) →
    at (write_answer t p 0 message).1 p ≡ Ok (file message)
written_whole t p message done empty =
    let w = wrote t (write_answer t p 0 message).1 p 0 message (ap (λ reply. (reply, (write_answer t p 0 message).1)) done) in
    let none : Ok (file w.bytes) ≡ Ok (file []) = sym w.there ∙ empty in
    w.after ∙ ap (λ bytes. Ok (file bytes)) (all_written w.bytes message (cc))

moved_whole : (t : Tree) (p q : List (List ℕ)) (message : List ℕ) → same_path p q ≡ false → (rename_answer t p q).0 ≡ Done → at t p ≡ Ok (file message) →
    at (rename_answer t p q).1 q ≡ Ok (file message)
moved_whole t p q message other done there =
    stands_at_its_new_path t (rename_answer t p q).1 p q (file message) (ap (λ reply. (reply, (rename_answer t p q).1)) done) other there

-- ---- a run in two parts

run_behind : (t : Tree) (xs ys : List Call) → IsRun t (xs ++ ys) → IsRun (tree_after t xs) ys
run_behind t [] ys run = run
run_behind t (x ∷ xs) ys run = run_behind (answer t x.op).1 xs ys run.1

run_front : (t : Tree) (xs ys : List Call) → IsRun t (xs ++ ys) → IsRun t xs
run_front t [] ys run = tt
run_front t (x ∷ xs) ys run = (run.0, run_front (answer t x.op).1 xs ys run.1)

tree_behind : (t : Tree) (xs ys : List Call) → tree_after t (xs ++ ys) ≡ tree_after (tree_after t xs) ys
tree_behind t [] ys = refl
tree_behind t (x ∷ xs) ys = tree_behind (answer t x.op).1 xs ys

-- ---- a delivery

module _ (draft place : List (List ℕ)) (message : List ℕ) (make write move : Call) (d : IsDelivery draft place message make write move) where
  after_make : (t : Tree) → make.reply ≡ (answer t make.op).0 → at (answer t make.op).1 draft ≡ Ok (file [])
  after_make t right = subst (λ op. (answer t op).0 ≡ Done → at (answer t op).1 draft ≡ Ok (file [])) (sym d.makes) (created t draft) (sym right ∙ d.made)

  after_write : (t : Tree) → write.reply ≡ (answer t write.op).0 → at t draft ≡ Ok (file []) → at (answer t write.op).1 draft ≡ Ok (file message)
  after_write t right = subst (λ op. (answer t op).0 ≡ Done → at t draft ≡ Ok (file []) → at (answer t op).1 draft ≡ Ok (file message)) (sym d.writes)
      (written_whole t draft message) (sym right ∙ d.written)

  after_move : (t : Tree) → move.reply ≡ (answer t move.op).0 → at t draft ≡ Ok (file message) → at (answer t move.op).1 place ≡ Ok (file message)
  after_move t right = subst (λ op. (answer t op).0 ≡ Done → at t draft ≡ Ok (file message) → at (answer t op).1 place ≡ Ok (file message)) (sym d.moves)
      (moved_whole t draft place message d.elsewhere) (sym right ∙ d.moved)

  -- behind each of the three, and calls that leave what it made
  made_stands : (t : Tree) (between : List Call) → IsRun t (make ∷ between) → AllLeave draft between → at (tree_after t (make ∷ between)) draft ≡ Ok (file [])
  made_stands t between run leave = all_leave (answer t make.op).1 draft between run.1 leave ∙ after_make t run.0

  written_stands : (t : Tree) (between : List Call) → at t draft ≡ Ok (file []) → IsRun t (write ∷ between) → AllLeave draft between →
      at (tree_after t (write ∷ between)) draft ≡ Ok (file message)
  written_stands t between there run leave = all_leave (answer t write.op).1 draft between run.1 leave ∙ after_write t run.0 there

  moved_stands : (t : Tree) (between : List Call) → at t draft ≡ Ok (file message) → IsRun t (move ∷ between) → AllLeave place between →
      at (tree_after t (move ∷ between)) place ≡ Ok (file message)
  moved_stands t between there run leave = all_leave (answer t move.op).1 place between run.1 leave ∙ after_move t run.0 there

  pub delivered : (t : Tree) (before created written moved : List Call) → IsRun t (before ++ make ∷ (created ++ write ∷ (written ++ move ∷ moved))) →
      AllLeave draft created → AllLeave draft written → AllLeave place moved →
      at (tree_after t (before ++ make ∷ (created ++ write ∷ (written ++ move ∷ moved)))) place ≡ Ok (file message)
  delivered t before created written moved run first second third =
      let t₁ = tree_after t before in
      let run₁ = run_behind t before (make ∷ (created ++ write ∷ (written ++ move ∷ moved))) run in
      let t₂ = tree_after t₁ (make ∷ created) in
      let run₂ = run_behind t₁ (make ∷ created) (write ∷ (written ++ move ∷ moved)) run₁ in
      let t₃ = tree_after t₂ (write ∷ written) in
      let run₃ = run_behind t₂ (write ∷ written) (move ∷ moved) run₂ in
      let empty = made_stands t₁ created (run_front t₁ (make ∷ created) (write ∷ (written ++ move ∷ moved)) run₁) first in
      let whole = written_stands t₂ written empty (run_front t₂ (write ∷ written) (move ∷ moved) run₂) second in
      ap (λ u. at u place)
      (tree_behind t before (make ∷ (created ++ write ∷ (written ++ move ∷ moved)))
      ∙ tree_behind t₁ (make ∷ created) (write ∷ (written ++ move ∷ moved))
      ∙ tree_behind t₂ (write ∷ written) (move ∷ moved))
      ∙ moved_stands t₃ moved whole run₃ third
