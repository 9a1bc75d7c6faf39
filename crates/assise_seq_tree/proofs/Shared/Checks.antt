-- Where a rename passes its checks, neither path begins with the other.
use Rattle.assise_seq_tree.proofs.Common.{◌≡◌, ◌≢◌, ℕ, ◌<◌, Bool, true, false, not, cond, List, [], ◌∷◌, ◌++◌, length, take, Some, Result, Ok, Err, ◌==◌, refl}
use Rattle.assise_seq_tree.proofs.Common.{ap, sym, ◌∙◌, ◌⊎◌, inl, inr, arith, ◌||◌, if◌then◌else◌, or_parts, nat_tests, is_proper_prefix, same_path, TreeError}
use Rattle.assise_seq_tree.proofs.Common.{Invalid, Tree, file, dir, Entries, no_entries, entry, find, count, at, AreDisjointPaths, ◌>>=◌, parent_of, last_name}
use Rattle.assise_seq_tree.proofs.Common.{as_directory, entries_at, may_receive, may_rename}
use Rattle.std.specs.Bool.{Decides}
use Rattle.std.proofs.lemmas.Slice.Eq.{slice_eq-Decides, bytes_eq-Decides, starts_is}
use Rattle.std.proofs.lemmas.List.{append-nil}
use Rattle.assise_seq_tree.proofs.Shared.TreePut.{through_entry, last_entry}
use Rattle.assise_seq_tree.proofs.Shared.Moves.{Path, parent_and_last}

-- ---- what the tests of paths say
pub same_is : (p q : Path) → Decides (same_path p q) (p ≡ q)
same_is p q = slice_eq-Decides bytes_eq-Decides p q (same_path p q) refl

longer : (p rest : Path) → (p ≡ p ++ rest) ⊎ (length p < length (p ++ rest))
longer [] [] = inl refl
longer [] (n ∷ rest) = inr (omega arith)
longer (n ∷ p) rest = grind (arith, longer p rest)

pub not_begins : (p q : Path) → is_proper_prefix p q ≡ false → p ≢ q → (rest : Path) → q ≢ p ++ rest
not_begins p q below disjoint rest e = grind (arith, starts_is bytes_eq-Decides q p (same_path p (take (length p) q)) refl, longer p rest)

-- ---- what stands on the way
on_the_way : (q rest : Path) (r : List ℕ) (t u : Tree) → at t (q ++ r ∷ rest) ≡ Ok u → (es : Entries) × (at t q ≡ Ok (dir es)) × (count es ≢ 0)
unfolding at
on_the_way [] rest r (file bytes) u h = cc
on_the_way [] rest r (dir no_entries) u h = cc
on_the_way [] rest r (dir (entry n t es)) u h = (entry n t es, refl, λ e. omega arith)
on_the_way (n ∷ q) rest r (file bytes) u h = cc
on_the_way (n ∷ q) rest r (dir es) u h = through_entry es n (q ++ r ∷ rest) u h (λ t found there. rw found (on_the_way q rest r t u there))

last_step : (q : Path) (n : List ℕ) (t u : Tree) (es : Entries) → at t q ≡ Ok (dir es) → at t (q ++ n ∷ []) ≡ Ok u → find n es ≡ Some u
unfolding at
last_step [] n (file bytes) u es h k = cc
last_step [] n (dir fs) u es h k = let one : fs ≡ es = cc in ap (find n) (sym one) ∙ last_entry fs n u k
last_step (m ∷ q) n (file bytes) u es h k = cc
last_step (m ∷ q) n (dir fs) u es h k = through_entry fs m q (dir es) h (λ t found there. last_step q n t u es there (rw found at k))

-- nothing takes the place of a directory with entries
no_place : (moved : Tree) (stays : Bool) (es fs : Entries) → count fs ≢ 0 → may_receive moved stays es (Some (dir fs)) ≡ Ok tt → ⊥
no_place (file bytes) stays es fs some h = cc
no_place (dir ms) stays es fs some h = grind arith

pub then_ok : {A B : Type 0} (r : Result A TreeError) (f : A → Result B TreeError) (y : B) → (r >>= f) ≡ Ok y → (x : A) × (r ≡ Ok x) × (f x ≡ Ok y)
then_ok (Ok x) f y h = (x, refl, h)
then_ok (Err e) f y h = cc

-- what the checks found
pub record Passed (p q : Path) (t : Tree) : Type 0 where
  pub disjoint : AreDisjointPaths p q
  pub entries : Entries
  pub parent : at t (parent_of q) ≡ Ok (dir entries)
  pub moved : Tree
  pub source : at t p ≡ Ok moved
  pub receives : may_receive moved (same_path (parent_of p) (parent_of q)) entries (find (last_name q) entries) ≡ Ok tt
  pub from_name : 0 < length p
  pub to_name : 0 < length q

pub is_directory : (t : Tree) (es : Entries) → as_directory t ≡ Ok es → t ≡ dir es
is_directory (file bytes) es h = cc
is_directory (dir fs) es h = cc

pub no_error : {A : Type 0} (b : Bool) (e : TreeError) (r : Result A TreeError) (y : A) → cond b (Err e) r ≡ Ok y → (b ≡ false) × (r ≡ Ok y)
no_error true e r y h = cc
no_error false e r y h = (refl, h)

is_some_name : (n : ℕ) → (n == 0) ≡ false → 0 < n
is_some_name n h = grind (arith, nat_tests)

pub not_true : (b c : Bool) → b ≡ not c → b ≡ true → c ≡ false
not_true b true e h = cc
not_true b false e h = refl

abbrev entered : Path → Path → Tree → Entries → Result (Unit {0}) TreeError
entered p q moved es = if same_path p q then Ok tt else may_receive moved (same_path (parent_of p) (parent_of q)) es (find (last_name q) es)

pub passed : (p q : Path) (t : Tree) → may_rename t p q ≡ Ok tt → same_path p q ≡ false → Passed p q t
passed p q t h other =
    let below = no_error (length p == 0 || length q == 0) Invalid
    (if is_proper_prefix p q then Err Invalid else (at t p >>= λ moved. entries_at t (parent_of q) >>= λ es. entered p q moved es)) tt h in
    let checked = no_error (is_proper_prefix p q) Invalid (at t p >>= λ moved. entries_at t (parent_of q) >>= λ es. entered p q moved es) tt below.1 in
    let roots = or_parts (length p == 0) (length q == 0) below.0 in
    let source = then_ok (at t p) (λ moved. entries_at t (parent_of q) >>= λ es. entered p q moved es) tt checked.1 in
    walked (is_some_name (length p) roots.0) (is_some_name (length q) roots.1) checked.0 source.0 source.1 source.2
  where
    differ : p ≢ q
    differ e = let same = (same_is p q).1 e in cc

    prefix_of : (rest : Path) → p ≡ q ++ rest → (moved : Tree) (es : Entries) → 0 < length q → at t p ≡ Ok moved → at t (parent_of q) ≡ Ok (dir es) →
        may_receive moved (same_path (parent_of p) (parent_of q)) es (find (last_name q) es) ≡ Ok tt → ⊥
    prefix_of [] e moved es some source parent received = differ (e ∙ append-nil q)
    prefix_of (r ∷ rest) e moved es some source parent received =
        let way = on_the_way q rest r t moved (ap (at t) (sym e) ∙ source) in
        let target = last_step (parent_of q) (last_name q) t (dir way.0) es parent (ap (at t) (sym (parent_and_last q some)) ∙ way.1) in
        no_place moved (same_path (parent_of p) (parent_of q)) es way.0 way.2 (ap (may_receive moved (same_path (parent_of p) (parent_of q)) es) (sym target)
        ∙ received)

    entering : 0 < length p → 0 < length q → is_proper_prefix p q ≡ false → (moved : Tree) (es : Entries) → at t p ≡ Ok moved →
        at t (parent_of q) ≡ Ok (dir es) → may_receive moved (same_path (parent_of p) (parent_of q)) es (find (last_name q) es) ≡ Ok tt → Passed p q t
    entering from to below moved es source parent received = record {
      disjoint = record {
        first = λ begins. prefix_of begins.0 begins.1 moved es to source parent received;
        second = λ begins. not_begins p q below differ begins.0 begins.1;
      };
      entries = es;
      parent = parent;
      moved = moved;
      source = source;
      receives = received;
      from_name = from;
      to_name = to;
    }

    walked : 0 < length p → 0 < length q → is_proper_prefix p q ≡ false → (moved : Tree) → at t p ≡ Ok moved →
        (entries_at t (parent_of q) >>= entered p q moved) ≡ Ok tt → Passed p q t
    walked from to below moved source rest =
        let inside = then_ok (entries_at t (parent_of q)) (entered p q moved) tt rest in
        let parent = then_ok (at t (parent_of q)) as_directory inside.0 inside.1 in
        entering from to below moved inside.0 source (parent.1 ∙ ap Ok (is_directory parent.0 inside.0 parent.2))
        (sym (ap (λ b. cond b (Ok tt) (may_receive moved (same_path (parent_of p) (parent_of q)) inside.0 (find (last_name q) inside.0))) other) ∙ inside.2)
