-- Runs, one call at a time, and what an entry more keeps.
use Rattle.assise_history.proofs.Common.{◌≡◌, ℕ, nat_lt, Bool, true, false, not, List, [], ◌∷◌, ◌++◌, filter, map, refl, ap, ◌∙◌, if◌then◌else◌, inl, inr, Bor}
use Rattle.assise_history.proofs.Common.{take, length, get_or, ◌+◌, ◌<◌, ◌≤◌, arith, take_more, map-append, take-append-drop, cases_Bool, Tree, answer, Call}
use Rattle.assise_history.proofs.Common.{EntryValue, calls, fails, loses, is_lost, kept, kept_more, IsRun, tree_after}

or_false : (b : Bool) → (if b then true else false) ≡ b
or_false true = refl
or_false false = refl

-- a call more is kept
pub is_lost-append : (es fs : List EntryValue) (call : Call) → is_lost (es ++ fs) call ≡ (if is_lost es call then true else is_lost fs call)
is_lost-append [] fs call = refl
is_lost-append (fails n losses ∷ es) fs call = grind (arith, is_lost-append es fs call)
is_lost-append (_ ∷ es) fs call = is_lost-append es fs call

pub kept-call : (es : List EntryValue) (call : Call) → kept (es ++ calls call ∷ []) ≡ kept es ++ call ∷ []
kept-call [] call = refl
kept-call (calls other ∷ es) call = grind (arith, kept-call es call, is_lost-append)
kept-call (_ ∷ es) call = kept-call es call

-- a failure more keeps what it doesn't lose
pub kept-fail : (es : List EntryValue) (n : ℕ) (losses : _) → kept (es ++ fails n losses ∷ []) ≡ filter (λ call. not (loses losses call)) (kept es)
kept-fail [] n losses = refl
kept-fail (calls other ∷ es) n losses = grind (arith, kept-fail es n losses, is_lost-append)
kept-fail (_ ∷ es) n losses = kept-fail es n losses

-- a run, and a call more
pub run-push : (t : Tree) (cs : List Call) (call : Call) → IsRun t cs → call.reply ≡ (answer (tree_after t cs) call.op).0 → IsRun t (cs ++ call ∷ [])
run-push t [] call run right = (right, tt)
run-push t (c ∷ cs) call run right = (run.0, run-push (answer t c.op).1 cs call run.1 right)

pub map-filter : {X Y : Type 0} (f : X → Y) (p : Y → Bool) (xs : List X) → map f (filter (λ x. p (f x)) xs) ≡ filter p (map f xs)
map-filter f p [] = refl
map-filter f p (x ∷ xs) = grind (arith, map-filter f p xs)

filter_short : {X : Type 0} (p : X → Bool) (xs : List X) → length (filter p xs) ≤ length xs
filter_short p [] = omega arith
filter_short p (x ∷ xs) = grind (arith, filter_short p xs)

-- where a filter leaves as many, it leaves all
pub filter_whole : {X : Type 0} (p : X → Bool) (xs : List X) → (length (filter p xs) < length xs → ⊥) → filter p xs ≡ xs
filter_whole p [] h = refl
filter_whole p (x ∷ xs) h =
    elim (cases_Bool (p x)) [
      | inl stays ↦ rw stays (ap (λ ys. x ∷ ys) (filter_whole p xs (λ less. h (rw stays (omega (arith, less))))))
      | inr goes ↦ let rest = filter_short p xs in absurd (h (rw goes (omega (arith, rest))))
    ]

pub filter_mapped : {X Y : Type 0} (f : X → Y) (p : X → Bool) (xs ys : List X) → ys ≡ filter p xs → nat_lt (length ys) (length xs) ≡ false → map f ys ≡ map f xs
filter_mapped f p xs ys is long = grind (arith, filter_whole)

-- an entry more that is no call and loses none
kept-quiet : (es : List EntryValue) (e : EntryValue) → ((call : Call) → is_lost (e ∷ []) call ≡ false) → kept (e ∷ []) ≡ [] → kept (es ++ e ∷ []) ≡ kept es
kept-quiet [] e h none = none
kept-quiet (calls other ∷ es) e h none = grind (arith, kept-quiet es e h none, is_lost-append)
kept-quiet (_ ∷ es) e h none = kept-quiet es e h none

pub kept-push : (es : List EntryValue) (e : EntryValue) → kept (es ++ e ∷ []) ≡ kept_more (kept es) e
kept-push es (calls call) = kept-call es call
kept-push es (fails n losses) = kept-fail es n losses
kept-push es e = kept-quiet es e (λ call. refl) refl

-- a run's prefix is a run
pub run-prefix : (t : Tree) (cs ds : List Call) → IsRun t (cs ++ ds) → IsRun t cs
run-prefix t [] ds run = tt
run-prefix t (c ∷ cs) ds run = (run.0, run-prefix (answer t c.op).1 cs ds run.1)

-- the reply of its last call
pub run-last : (t : Tree) (cs : List Call) (x : Call) → IsRun t (cs ++ x ∷ []) → x.reply ≡ (answer (tree_after t cs) x.op).0
run-last t [] x run = run.0
run-last t (c ∷ cs) x run = run-last (answer t c.op).1 cs x run.1

pub tree_after-push : (t : Tree) (cs : List Call) (x : Call) → tree_after t (cs ++ x ∷ []) ≡ (answer (tree_after t cs) x.op).1
tree_after-push t [] x = refl
tree_after-push t (c ∷ cs) x = tree_after-push (answer t c.op).1 cs x

-- one call more was played, and its reply is right
pub played_right : (s : Tree) (cs : List Call) (t t' : Tree) (reply : _) (x : Call) → IsRun s cs → t ≡ tree_after s cs → (reply, t') ≡ answer t x.op →
    reply ≡ x.reply → IsRun s (cs ++ x ∷ []) × (t' ≡ tree_after s (cs ++ x ∷ []))
played_right s cs t t' reply x run is step right = grind (arith, run-push, tree_after-push)

-- its reply is wrong
pub played_wrong : (s : Tree) (cs : List Call) (t t' : Tree) (reply : _) (x : Call) → t ≡ tree_after s cs → (reply, t') ≡ answer t x.op →
    (reply ≡ x.reply → ⊥) → IsRun s (cs ++ x ∷ []) → ⊥
played_wrong s cs t t' reply x is step wrong run = grind (arith, run-last)

-- one call more of a list of references
pub calls_more : (cs : List (Bor Call)) (i : ℕ) (d : Bor Call) → i < length cs → map (λ x. x.now) (take (i + 1) cs)
    ≡ map (λ x. x.now) (take i cs) ++ (get_or cs i d).now ∷ []
calls_more cs i d h = ap (map (λ x. x.now)) (take_more cs i d h) ∙ map-append (λ x. x.now) (take i cs) (get_or cs i d ∷ [])

-- no prefix that ends with a wrong call is part of a run
pub stops : (s : Tree) (cs : List (Bor Call)) (i : ℕ) (d : Bor Call) → i < length cs →
    (IsRun s (map (λ x. x.now) (take i cs) ++ (get_or cs i d).now ∷ []) → ⊥) → IsRun s (map (λ x. x.now) cs) → ⊥
stops s cs i d h wrong run = grind (arith, take-append-drop (i + 1) cs, map-append, calls_more cs i d h, run-prefix)
