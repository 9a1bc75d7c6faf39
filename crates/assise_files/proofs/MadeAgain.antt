-- Changes that are made again, one more, and the tree that they make.
use Rattle.assise_files.proofs.Common.{◌≡◌, ◌∙◌, ℕ, [], ◌∷◌, ◌++◌, List, Result, Ok, Err, reverse, refl, ap, sym, subst, append_assoc, append-nil, ⊤, ∥∥₁_elim}
use Rattle.assise_files.proofs.Common.{Op, Refusal, Reply, Done, answer, EntryValue, IsLegal, calls_made, number_in, Machine, Told, LostChange, IsTriedOut}
use Rattle.assise_files.proofs.Common.{ends_full, ends_waiting, settles_at_last, spends_all, IsNumbered, tree_with, MakesEach, MakesAgain, makes_all, stops_at}
use Rattle.assise_files.proofs.Common.{unmade, FaithfulAt}
use Rattle.std.proofs.lemmas.List.{reverse-append, reverse-reverse}
use Rattle.std.proofs.Math.Nat.{ℕ_set}
use Rattle.assise_link.specs.Kinds.{Kind}
use Rattle.assise_files.proofs.QuietRounds.{call_tree, machine_tree, vain_tree}

pub numbered : (h : List EntryValue) → ∥ IsLegal h ∥₁ → IsNumbered h
numbered h legal before later x split = ∥∥₁_elim legal (ℕ_set x.number (calls_made x.client before)) (λ l. number_in h before later x l split)

-- ---- one more

pub made_more : (faithful : ℕ → Type 0) (turns c : ℕ) (made : List LostChange) (x : LostChange) (m v m' : Machine) (es fs : Told) →
    MakesEach faithful turns c made m es v → IsTriedOut faithful turns c x.op (Ok Done) v fs m' →
    (gs : Told) × MakesEach faithful turns c (made ++ x ∷ []) m gs m'
made_more faithful turns c [] x m v m' es fs none h = (
  fs ++ [],
  record {
    between = m';
    before = fs;
    after = [];
    told = refl;
    first = subst (λ u. IsTriedOut faithful turns c x.op (Ok Done) u fs m') none.stays
        h;
    second = record { told = refl; stays = refl };
  },
)
made_more faithful turns c (y ∷ ys) x m v m' es fs made h =
    let rest = made_more faithful turns c ys x made.between v m' made.after fs made.second h in
    (made.before ++ rest.0, record { between = made.between; before = made.before; after = rest.0; told = refl; first = made.first; second = rest.1 })

-- a call is tried over links and as often as it is where they are the same
pub tried_as : (links kept : List Kind) (turns left c : ℕ) (op : Op) (r : Result Reply Refusal) (m m' : Machine) → kept ≡ links → left ≡ turns →
    (es : Told) × IsTriedOut (FaithfulAt kept) left c op r m es m' → (es : Told) × IsTriedOut (FaithfulAt links) turns c op r m es m'
tried_as links kept turns left c op r m m' over often h = rw (sym over, sym often) h

-- these are made, and those that are left stand behind them, the last first
pub record AreMadeSoFar (faithful : ℕ → Type 0) (turns c : ℕ) (xs left : List LostChange) (m v : Machine) : Type 0 where
  pub made : List LostChange
  pub split : made ++ reverse left ≡ xs
  pub events : Told
  pub are : MakesEach faithful turns c made m events v

pub none_made : (faithful : ℕ → Type 0) (turns c : ℕ) (xs left : List LostChange) (m : Machine) → left ≡ reverse xs → AreMadeSoFar faithful turns c xs left m m
none_made faithful turns c xs left m is =
    record { made = []; split = ap reverse is ∙ reverse-reverse xs; events = []; are = record { told = refl; stays = refl } }

next_split : (made rest left xs : List LostChange) (x : LostChange) → made ++ reverse left ≡ xs → left ≡ rest ++ x ∷ [] → made ++ x ∷ reverse rest ≡ xs
next_split made rest left xs x split is = ap (λ ys. made ++ ys) (sym (ap reverse is ∙ reverse-append rest (x ∷ []))) ∙ split

pub made_next : (faithful : ℕ → Type 0) (turns c : ℕ) (xs left rest : List LostChange) (x : LostChange) (r : Result Reply Refusal) (m v m' : Machine) →
    AreMadeSoFar faithful turns c xs left m v → left ≡ rest ++ x ∷ [] →
    (fs : Told) × IsTriedOut faithful turns c x.op r v fs m' → r ≡ Ok Done → AreMadeSoFar faithful turns c xs rest m m'
made_next faithful turns c xs left rest x r m v m' so_far is (fs, h) done =
    let more = made_more faithful turns c so_far.made x m v m' so_far.events fs so_far.are (subst (λ q. IsTriedOut faithful turns c x.op q v fs m') done h) in
    record {
      made = so_far.made ++ x ∷ [];
      split = append_assoc so_far.made (x ∷ []) (reverse rest) ∙ next_split so_far.made rest left xs x so_far.split is;
      events = more.0;
      are = more.1;
    }

pub stopped : (faithful : ℕ → Type 0) (turns first c : ℕ) (xs left rest : List LostChange) (x : LostChange) (r : Result Reply Refusal) (m v m' : Machine) →
    AreMadeSoFar faithful turns c xs left m v → left ≡ rest ++ x ∷ [] →
    (fs : Told) × IsTriedOut faithful turns c x.op r v fs m' → (r ≡ Ok Done → ⊥) → (es : Told) × MakesAgain faithful turns first c xs (Err (unmade x.number r))
    m es m'
stopped faithful turns first c xs left rest x r m v m' so_far is (fs, h) other = (
  _,
  stops_at so_far.made x (reverse rest) r (sym (next_split so_far.made rest left xs x so_far.split is)) other refl record
      { between = v; before = so_far.events; after = fs; told = refl; first = so_far.are; second = h },
)

all_of : (faithful : ℕ → Type 0) (turns c : ℕ) (xs left : List LostChange) (m v : Machine) → AreMadeSoFar faithful turns c xs left m v → left ≡ [] →
    (es : Told) × MakesEach faithful turns c xs m es v
all_of faithful turns c xs left m v so_far none =
    let all : so_far.made ≡ xs = sym (append-nil so_far.made) ∙ ap (λ ys. so_far.made ++ reverse ys) (sym none) ∙ so_far.split in
    (so_far.events, subst (λ ys. MakesEach faithful turns c ys m so_far.events v) all so_far.are)

pub all_made : (faithful : ℕ → Type 0) (turns first c : ℕ) (xs left : List LostChange) (m v : Machine) (done : ⊤) → AreMadeSoFar faithful turns c xs left m v →
    left ≡ [] → (es : Told) × MakesAgain faithful turns first c xs (Ok done) m es v
all_made faithful turns first c xs left m v done so_far none = let all = all_of faithful turns c xs left m v so_far none in (all.0, makes_all done refl all.1)

-- ---- the tree

tried_tree : (faithful : ℕ → Type 0) (turns c : ℕ) (op : Op) (reply : Reply) (m : Machine) (es : Told) (m' : Machine) →
    IsTriedOut faithful turns c op (Ok reply) m es m' → machine_tree m' ≡ (answer (machine_tree m) op).1
tried_tree faithful turns c op reply m es m' (settles_at_last k few other h) =
    call_tree c op reply h.between h.after m' h.second ∙ ap (λ t. (answer t op).1) (vain_tree faithful c op k m h.before h.between h.first)
tried_tree faithful turns c op reply m es m' (ends_waiting k few is h) = cc
tried_tree faithful turns c op reply m es m' (ends_full k few is h) = cc
tried_tree faithful turns c op reply m es m' (spends_all is h) = cc

pub made_tree : (faithful : ℕ → Type 0) (turns c : ℕ) (xs : List LostChange) (m : Machine) (es : Told) (m' : Machine) → MakesEach faithful turns c xs m es m' →
    machine_tree m' ≡ tree_with (machine_tree m) xs
made_tree faithful turns c [] m es m' h = ap machine_tree h.stays
made_tree faithful turns c (x ∷ xs) m es m' h =
    made_tree faithful turns c xs h.between h.after m' h.second ∙ ap (λ t. tree_with t xs) (tried_tree faithful turns c x.op Done m h.before h.between h.first)

pub all_tree : (faithful : ℕ → Type 0) (turns c : ℕ) (xs left : List LostChange) (m v : Machine) → AreMadeSoFar faithful turns c xs left m v → left ≡ [] →
    machine_tree v ≡ tree_with (machine_tree m) xs
all_tree faithful turns c xs left m v so_far none = let all = all_of faithful turns c xs left m v so_far none in made_tree faithful turns c xs m all.0 v all.1
