-- How calls may end: with an error and no effects, or with what each call does.
use Rattle.assise_inode_table.proofs.Common.{◌≡◌, ◌≤◌, ℕ, Bool, true, false, List, [], ◌∷◌, length, cond, ◌||◌, ◌==◌, Option, Some, None, Result, Ok, Err, refl}
use Rattle.assise_inode_table.proofs.Common.{sym, arith, ok_or, list_any, eqb-true, Op, Create, Mkdir, Read, WriteCall, Truncate, Rename, UnlinkCall, Rmdir}
use Rattle.assise_inode_table.proofs.Common.{ListCall, Stat, Fsync, Dsync, Reply, Done, Bytes, Names, Error, TreeError, NoEnt, Effect, NewFile, NewDir, SetLen}
use Rattle.assise_inode_table.proofs.Common.{Link, Unlink, Free, last_name, bytes_from, then_or_error, walk_from, walk_to_entry, as_regular, as_links}
use Rattle.assise_inode_table.proofs.Common.{stat_reply, room_beside, receive, move_effects, make_call, write_effects, interaction, step, Content, Links}
use Rattle.assise_inode_table.proofs.Common.{Values, makes, Interaction, reply_of, effects_of, makes_inode, link_of}
use Rattle.std.specs.FinMap as map

-- what holds of the reply and the effects of a call, where it is done
abbrev pub HoldsWhereDone : (Reply → List Effect → Type 0) → Op → ℕ → Type 0
HoldsWhereDone P (Create p) fresh = (d : ℕ) → P Done (NewFile fresh ∷ Link d (last_name p) fresh ∷ [])
HoldsWhereDone P (Mkdir p) fresh = (d : ℕ) → P Done (NewDir fresh ∷ Link d (last_name p) fresh ∷ [])
HoldsWhereDone P (Read p offset most) fresh = (bytes : List ℕ) → P (Bytes bytes) []
HoldsWhereDone P (WriteCall p offset new) fresh = (i : ℕ) → P Done (write_effects i offset new)
HoldsWhereDone P (Truncate p size) fresh = (i : ℕ) → P Done (SetLen i size ∷ [])
HoldsWhereDone P (Rename p q) fresh =
    P Done [] × ((d e i : ℕ) → P Done (move_effects d (last_name p) e (last_name q) i))
    × ((d e i g : ℕ) → P Done (Unlink e (last_name q) ∷ Free g ∷ move_effects d (last_name p) e (last_name q) i))
HoldsWhereDone P (UnlinkCall p) fresh = (d i : ℕ) → P Done (Unlink d (last_name p) ∷ Free i ∷ [])
HoldsWhereDone P (Rmdir p) fresh = (d i : ℕ) → P Done (Unlink d (last_name p) ∷ Free i ∷ [])
HoldsWhereDone P (ListCall p) fresh = (names : List (List ℕ)) → P (Names names) []
HoldsWhereDone P (Stat p) fresh = (content : Content) → P (stat_reply content) []
HoldsWhereDone P Fsync fresh = P Done []
HoldsWhereDone P Dsync fresh = P Done []

module _ (v : Values) (P : Reply → List Effect → Type 0) (faults : (e : TreeError) → P (Error e) []) where
  abbrev Ends : Interaction → Type 0
  Ends x = P (reply_of v x) (effects_of v x)

  or_error : {A : Type 0} (r : Result A TreeError) (next : A → Interaction) → ((x : A) → Ends (next x)) → Ends (then_or_error r next)
  or_error (Ok x) next h = h x
  or_error (Err e) next h = faults e

  chosen : (b : Bool) (x y : Interaction) → Ends x → Ends y → Ends (cond b x y)
  chosen true x y p q = p
  chosen false x y p q = q

  walked : (i : ℕ) (p : List (List ℕ)) (next : ℕ → Content → Interaction) → ((j : ℕ) (content : Content) → Ends (next j content)) → Ends (walk_from i p next)
  walked i [] next h = or_error (ok_or (v i) NoEnt) (λ content. next i content) (λ content. h i content)
  walked i (name ∷ p) next h = or_error (link_of (v i) name) (λ j. walk_from j p next) (λ j. walked j p next h)

  walked_to_entry : (p : List (List ℕ)) (name : List ℕ) (next : ℕ → ℕ → Content → Interaction) → ((d i : ℕ) (content : Content) → Ends (next d i content)) →
      Ends (walk_to_entry p name next)
  walked_to_entry p name next h = grind (arith, walked)

  made : (new : Effect) (p : List (List ℕ)) (fresh : ℕ) → ((d : ℕ) → P Done (new ∷ Link d (last_name p) fresh ∷ [])) → Ends (make_call new p fresh)
  made new p fresh h = grind (arith, walked)

  received : (moved : Content) (stays : Bool) (e : ℕ) (links : Links) (new : List ℕ) (moves : List Effect) (o : Option ℕ) → P Done moves →
      ((g : ℕ) → P Done (Unlink e new ∷ Free g ∷ moves)) →
      Ends (receive moved stays e links new moves o)
  received moved stays e links new moves None h k = or_error (room_beside stays links) _ (λ _. h)
  received moved stays e links new moves (Some g) h k = grind arith

  renamed : (p q : List (List ℕ)) (fresh : ℕ) → HoldsWhereDone P (Rename p q) fresh → Ends (interaction (Rename p q) fresh)
  renamed p q fresh h = grind (arith, walked)

  pub call_ends : (op : Op) (fresh : ℕ) → HoldsWhereDone P op fresh → Ends (interaction op fresh)
  call_ends (Create p) fresh h = made (NewFile fresh) p fresh h
  call_ends (Mkdir p) fresh h = made (NewDir fresh) p fresh h
  call_ends (Read p offset most) fresh h = walked 0 p _ (λ i content. or_error (as_regular content) _ (λ bytes. h (bytes_from offset most bytes)))
  call_ends (WriteCall p offset new) fresh h = grind (arith, walked)
  call_ends (Truncate p size) fresh h = grind (arith, walked)
  call_ends (Rename p q) fresh h = renamed p q fresh h
  call_ends (UnlinkCall p) fresh h = grind (arith, walked_to_entry)
  call_ends (Rmdir p) fresh h = grind (arith, walked_to_entry)
  call_ends (ListCall p) fresh h = walked 0 p _ (λ i content. or_error (as_links content) _ (λ links. h (map.keys links)))
  call_ends (Stat p) fresh h = walked 0 p _ (λ i content. h content)
  call_ends Fsync fresh h = h
  call_ends Dsync fresh h = h

-- ---- a call has at most four effects

abbrev AreFew : Reply → List Effect → Type 0
AreFew reply es = length es ≤ 4

few_where_done : (op : Op) (fresh : ℕ) → HoldsWhereDone AreFew op fresh
few_where_done (Create p) fresh = λ d. omega arith
few_where_done (Mkdir p) fresh = λ d. omega arith
few_where_done (Read p offset most) fresh = λ bytes. omega arith
few_where_done (WriteCall p offset new) fresh = grind arith
few_where_done (Truncate p size) fresh = λ i. omega arith
few_where_done (Rename p q) fresh = (omega arith, λ d e i. omega arith, λ d e i g. omega arith)
few_where_done (UnlinkCall p) fresh = λ d i. omega arith
few_where_done (Rmdir p) fresh = λ d i. omega arith
few_where_done (ListCall p) fresh = λ names. omega arith
few_where_done (Stat p) fresh = λ content. omega arith
few_where_done Fsync fresh = omega arith
few_where_done Dsync fresh = omega arith

pub few_effects : (v : Values) (op : Op) (fresh : ℕ) → length (step v op fresh).effects ≤ 4
few_effects v op fresh = call_ends v AreFew (λ e. omega arith) op fresh (few_where_done op fresh)

-- ---- a call makes no inode but its own, and that only where it is a create or a mkdir that is done

abbrev MakesOwn : Op → ℕ → Reply → List Effect → Type 0
MakesOwn op fresh reply es = (i : ℕ) → list_any (makes i) es ≡ true → (i ≡ fresh) × (makes_inode op reply ≡ true)

own : (b : Bool) (i fresh : ℕ) → (b ≡ true → i ≡ fresh) → (b || (false || false)) ≡ true → i ≡ fresh
own true i fresh f h = f refl
own false i fresh f h = cc

own_where_done : (op : Op) (fresh : ℕ) → HoldsWhereDone (MakesOwn op fresh) op fresh
own_where_done (Create p) fresh = λ d i h. (own (fresh == i) i fresh (λ t. sym (eqb-true fresh i t)) h, refl)
own_where_done (Mkdir p) fresh = λ d i h. (own (fresh == i) i fresh (λ t. sym (eqb-true fresh i t)) h, refl)
own_where_done (Read p offset most) fresh = λ bytes i h. cc
own_where_done (WriteCall p offset new) fresh = grind arith
own_where_done (Truncate p size) fresh = λ i j h. cc
own_where_done (Rename p q) fresh = (λ j h. cc, λ d e i j h. cc, λ d e i g j h. cc)
own_where_done (UnlinkCall p) fresh = λ d i j h. cc
own_where_done (Rmdir p) fresh = λ d i j h. cc
own_where_done (ListCall p) fresh = λ names j h. cc
own_where_done (Stat p) fresh = λ content j h. cc
own_where_done Fsync fresh = λ j h. cc
own_where_done Dsync fresh = λ j h. cc

pub makes_own : (v : Values) (op : Op) (fresh i : ℕ) → list_any (makes i) (step v op fresh).effects ≡ true →
    (i ≡ fresh) × (makes_inode op (step v op fresh).reply ≡ true)
makes_own v op fresh = call_ends v (MakesOwn op fresh) (λ e i h. cc) op fresh (own_where_done op fresh)
