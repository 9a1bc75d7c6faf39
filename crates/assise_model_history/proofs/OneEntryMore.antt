-- What is said of a history, one entry more.
use Rattle.assise_model_history.proofs.Common.{◌≡◌, ℕ, suc, ◌+◌, ◌<◌, ◌≤◌, Bool, true, false, not, ◌&&◌, ◌||◌, List, [], ◌∷◌, ◌++◌, filter, length, refl, ap}
use Rattle.assise_model_history.proofs.Common.{sym, subst, ◌∙◌, arith, append_assoc, list_any, filter-append, Call, Durability, EntryValue, opens, calls}
use Rattle.assise_model_history.proofs.Common.{crashes, fails, returns, IsDown, IsPastSyncs, is_call_of, is_crash_of, is_failure_of, is_opening, is_return_of}
use Rattle.assise_model_history.proofs.Common.{syncs, down-push, down-last, past_syncs-push, contains, SameClients, World, Full, is_making_of, WasOpened}
use Rattle.std.proofs.lemmas.List.{length-append}
use Rattle.std.proofs.lemmas.List.Folds.{list_any-append}

-- ---- counts

count_push : (p : EntryValue → Bool) (h : List EntryValue) (e : EntryValue) → length (filter p (h ++ e ∷ [])) ≡ length (filter p h) + length (filter p (e ∷ []))
count_push p h e = ap length (filter-append p h (e ∷ [])) ∙ length-append (filter p h) (filter p (e ∷ []))

pub count_same : (p : EntryValue → Bool) (h : List EntryValue) (e : EntryValue) → p e ≡ false → length (filter p (h ++ e ∷ [])) ≡ length (filter p h)
count_same p h e none = let all = count_push p h e in let is : length (filter p (e ∷ [])) ≡ 0 = rw none refl in omega (arith, all, is)

pub count_more : (p : EntryValue → Bool) (h : List EntryValue) (e : EntryValue) → p e ≡ true → length (filter p (h ++ e ∷ [])) ≡ suc (length (filter p h))
count_more p h e one = let all = count_push p h e in let is : length (filter p (e ∷ [])) ≡ 1 = rw one refl in omega (arith, all, is)

-- ---- kinds of entries

-- neither an opening nor a call
abbrev pub IsAside : EntryValue → Type 0
IsAside (opens c n u) = ⊥
IsAside (calls x) = ⊥
IsAside (crashes c) = Unit {0}
IsAside (fails n losses) = Unit {0}
IsAside (returns n) = Unit {0}

pub aside_opening : (e : EntryValue) → IsAside e → is_opening e ≡ false
aside_opening e a = grind arith

pub aside_call : (e : EntryValue) (c : ℕ) → IsAside e → is_call_of c e ≡ false
aside_call e c a = grind arith

pub aside_making : (e : EntryValue) (c : ℕ) → IsAside e → is_making_of c e ≡ false
aside_making e c a = grind arith

pub aside_no_call : (e : EntryValue) (x : Call) → IsAside e → e ≡ calls x → ⊥
aside_no_call e x a is = subst IsAside is a

-- neither a failure nor a return
abbrev pub IsOfClient : EntryValue → Type 0
IsOfClient (opens c n u) = Unit {0}
IsOfClient (calls x) = Unit {0}
IsOfClient (crashes c) = Unit {0}
IsOfClient (fails n losses) = ⊥
IsOfClient (returns n) = ⊥

of_client_return : (e : EntryValue) (n : ℕ) → IsOfClient e → is_return_of n e ≡ false
of_client_return e n o = grind arith

-- ---- clients

pub or_false : (b : Bool) → (b || false) ≡ b
or_false true = refl
or_false false = refl

pub and_true : (b : Bool) → (b && true) ≡ b
and_true true = refl
and_true false = refl

not_or : (a b : Bool) → not (a || b) ≡ (not a && not b)
not_or true b = refl
not_or false b = refl

any_push : (p : EntryValue → Bool) (h : List EntryValue) (e : EntryValue) → list_any p (h ++ e ∷ []) ≡ (list_any p h || p e)
any_push p h e = list_any-append p h (e ∷ []) ∙ ap (λ b. list_any p h || b) (or_false (p e))

-- the entry may be the client's crash or its node's failure
pub opened_more : (h : List EntryValue) (e : EntryValue) (w w' : World) (c : ℕ) → w'.home c ≡ w.home c → w'.crashed c ≡ (w.crashed c || is_crash_of c e) →
    w'.lives c ≡ (w.lives c && not (is_failure_of (w.home c) e)) → WasOpened h w c → WasOpened (h ++ e ∷ []) w' c
opened_more h e w w' c home crashed lives was = let o = was.opened in record {
  opened = search (append_assoc, arith) parts 3;
  crashed = crashed ∙ ap (λ b. b || is_crash_of c e) was.crashed ∙ sym (any_push (is_crash_of c) o.since e);
  lives = subst (λ n. w'.lives c ≡ not (list_any (is_failure_of n) (o.since ++ e ∷ []))) (sym home)
      (grind (arith, any_push));
}

-- it is neither
pub opened_aside : (h : List EntryValue) (e : EntryValue) (w w' : World) (c : ℕ) → SameClients w w' → is_crash_of c e ≡ false → is_failure_of (w.home c) e
    ≡ false → WasOpened h w c → WasOpened (h ++ e ∷ []) w' c
opened_aside h e w w' c same crash failure o =
    opened_more h e w w' c (same.home c) (same.crashed c ∙ rw crash (sym (or_false (w.crashed c)))) (same.lives c ∙ rw failure (sym (and_true (w.lives c)))) o

-- there is none
pub opened_still : (h : List EntryValue) (w w' : World) (c : ℕ) → SameClients w w' → WasOpened h w c → WasOpened h w' c
opened_still h w w' c same was = let o = was.opened in record {
  opened = grind arith;
  crashed = same.crashed c ∙ was.crashed;
  lives = subst (λ n. w'.lives c ≡ not (list_any (is_failure_of n) o.since)) (sym (same.home c)) (same.lives c ∙ was.lives);
}

-- it is the client's opening
pub opened_now : (h : List EntryValue) (w' : World) (c n : ℕ) (u : Durability) → w'.home c ≡ n → w'.crashed c ≡ false → w'.lives c ≡ true →
    WasOpened (h ++ opens c n u ∷ []) w' c
opened_now h w' c n u home crashed lives = record {
  opened = record { durability = u; before = h; since = []; split = subst (λ m. h ++ opens c n u ∷ [] ≡ h ++ opens c m u ∷ []) (sym home) refl };
  crashed = crashed;
  lives = lives;
}

-- ---- nodes

-- of nodes 1 to k those are full that are up
pub record AreUp (k : ℕ) (h : List EntryValue) (w : World) : Type 0 where
  pub nodes : (n : ℕ) → Full w n → (1 ≤ n) × (n ≤ k)
  pub up : (n : ℕ) → Full w n → IsDown h n → ⊥
  pub down : (n : ℕ) → (1 ≤ n) × (n ≤ k) → (Full w n → ⊥) → IsDown h n

pub full_moves : (w w' : World) (n : ℕ) → w'.full ≡ w.full → Full w' n → Full w n
full_moves w w' n same full = subst (λ ns. contains ns n ≡ true) same full

-- the same nodes are full, and down
pub up_same : (k : ℕ) (h h' : List EntryValue) (w w' : World) → w'.full ≡ w.full → ((n : ℕ) → IsDown h' n → IsDown h n) → ((n : ℕ) → IsDown h n → IsDown h' n) →
    AreUp k h w → AreUp k h' w'
up_same k h h' w w' same back forth a = search (full_moves, arith) parts 3

down_before : (h : List EntryValue) (e : EntryValue) (n : ℕ) → IsOfClient e → IsDown (h ++ e ∷ []) n → IsDown h n
down_before h e n o d = grind (arith, down-last)

-- an entry of a client leaves them
pub up_client : (k : ℕ) (h : List EntryValue) (e : EntryValue) (w w' : World) → IsOfClient e → w'.full ≡ w.full → AreUp k h w → AreUp k (h ++ e ∷ []) w'
up_client k h e w w' o same a = up_same k h (h ++ e ∷ []) w w' same (λ n d. down_before h e n o d) (λ n d. down-push h e n d (of_client_return e n o)) a

-- ---- syncs

-- the client's syncs are numbered below
abbrev pub Synced : List EntryValue → ℕ → ℕ → Type 0
Synced h c j = IsPastSyncs h (record { client = c; first = j })

pub synced_still : (h : List EntryValue) (c i j : ℕ) → i ≤ j → Synced h c i → Synced h c j
synced_still h c i j le old before since x split client sync = let less : x.number < i = old before since x split client sync in omega (arith, less, le)

pub synced_more : (h : List EntryValue) (e : EntryValue) (c i j : ℕ) → i ≤ j → ((x : Call) → e ≡ calls x → x.client ≡ c → syncs h x ≡ true → x.number < j) →
    Synced h c i → Synced (h ++ e ∷ []) c j
synced_more h e c i j le new old = past_syncs-push h e (record { client = c; first = j }) new (synced_still h c i j le old)
