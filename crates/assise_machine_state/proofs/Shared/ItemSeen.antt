-- What is seen of a list after a change of the item of one number.
use Rattle.assise_machine_state.proofs.Common.{◌≡◌, ◌≢◌, ℕ, zero, suc, ◌-◌, ◌<◌, List, [], ◌∷◌, ◌++◌, get_or, length, set, inl, inr, refl, sym, subst, arith}
use Rattle.assise_machine_state.proofs.Common.{cases_eq, cases_lt, get_or-set_other, get_or-set_same, get_or_append_left, get_or_default, get_or_past}
use Rattle.assise_machine_state.proofs.Common.{get_or_push, length-set, length_push, set-get_or, set-set, set_past, ClientValue, client_in, no_client}
use Rattle.assise_machine_state.proofs.Common.{with_client, IsNumber, item_at, with_item}

-- what holds of one number, and of any other, holds of each
pub each_number : (P : ℕ → Type 0) (n k : ℕ) → P n → (k ≢ n → P k) → P k
each_number P n k here else = elim (cases_eq k n) [ inl is ↦ subst P (sym is) here | inr other ↦ else other ]

pub less_one : (k : ℕ) → suc k - 1 ≡ k
less_one k = omega arith

-- the place of a number is the one before it
pub is_seen : {X : Type 0} (none : X) (xs : List X) (n : ℕ) → IsNumber xs n → item_at none xs n ≡ get_or xs (n - 1) none
unfolding item_at
is_seen none xs n h1 = grind (arith, less_one)

pub is_set : {X : Type 0} (x : X) (xs : List X) (n : ℕ) → IsNumber xs n → set xs (n - 1) x ≡ with_item xs n x
is_set x xs n h1 = grind (arith, less_one)

-- a change leaves how many there are, and a later one stands
pub length-with : {X : Type 0} (xs : List X) (n : ℕ) (x : X) → length (with_item xs n x) ≡ length xs
length-with xs n x = grind (arith, length-set)

pub with-with : {X : Type 0} (xs : List X) (n : ℕ) (x y : X) → with_item (with_item xs n x) n y ≡ with_item xs n y
with-with xs n x y = grind (arith, set-set)

pub seen_here : {X : Type 0} (none x : X) (xs : List X) (n : ℕ) → IsNumber xs n → item_at none (with_item xs n x) n ≡ x
unfolding item_at
seen_here none x xs n h1 = grind (arith, get_or-set_same)

pub seen_else : {X : Type 0} (none x : X) (xs : List X) (n d : ℕ) → IsNumber xs n → d ≢ n → item_at none (with_item xs n x) d ≡ item_at none xs d
unfolding item_at
seen_else none x xs n d h1 h2 = grind (arith, get_or-set_other)

-- an item that is found at the place of a number
pub seen_found : {X : Type 0} (none x : X) (items xs : List X) (n : ℕ) → items ≡ xs → IsNumber xs n → x ≡ get_or items (n - 1) x → x ≡ item_at none xs n
unfolding item_at
seen_found none x items xs n h1 h2 h3 = grind (arith, less_one, get_or_default)

-- an item that is put where it is
pub seen_back : {X : Type 0} (none : X) (xs : List X) (n : ℕ) → with_item xs n (item_at none xs n) ≡ xs
unfolding item_at
seen_back none xs n = grind (arith, set-get_or)

-- what the change leaves of the item it leaves everywhere, also where no item has the number

kept_at : {X A : Type 0} (f : X → A) (none x : X) (xs : List X) (k j : ℕ) → f x ≡ f (get_or xs k none) → f (get_or (set xs k x) j none) ≡ f (get_or xs j none)
kept_at f none x xs k j same = grind (arith, cases_eq, cases_lt, get_or-set_same, set_past, get_or-set_other)

-- the same of a place
pub place_kept : {X A : Type 0} (f : X → A) (none x : X) (xs : List X) (k d : ℕ) → f x ≡ f (get_or xs k none) →
    f (item_at none (set xs k x) d) ≡ f (item_at none xs d)
unfolding item_at
place_kept f none x xs k zero same = refl
place_kept f none x xs k (suc j) same = kept_at f none x xs k j same

pub seen_kept : {X A : Type 0} (f : X → A) (none x : X) (xs : List X) (n d : ℕ) → f x ≡ f (item_at none xs n) →
    f (item_at none (with_item xs n x) d) ≡ f (item_at none xs d)
unfolding item_at
seen_kept f none x xs zero d same = refl
seen_kept f none x xs (suc k) d same = place_kept f none x xs k d same

-- ---- where there is no item

pub seen_past : {X : Type 0} (none : X) (xs : List X) (d : ℕ) → length xs < d → item_at none xs d ≡ none
unfolding item_at
seen_past none xs d h1 = grind (arith, get_or_past)

pub seen_nothing : {X : Type 0} (none : X) (k : ℕ) → item_at none [] k ≡ none
unfolding item_at
seen_nothing none k = grind arith

-- where something is seen, there is one
pub seen_number : {X : Type 0} (none : X) (xs : List X) (n : ℕ) → item_at none xs n ≢ none → IsNumber xs n
unfolding item_at
seen_number none xs n h1 = grind (arith, cases_lt, get_or_past)

-- ---- one client changes

pub client_found : (cs items : List ClientValue) (c : ℕ) {x : ClientValue} → items ≡ cs → IsNumber cs c → x ≡ get_or items (c - 1) x → x ≡ client_in cs c
unfolding client_in
client_found cs items c {x} same there is = seen_found no_client x items cs c same there is

pub client_here : (cs : List ClientValue) (c : ℕ) (x : ClientValue) → IsNumber cs c → client_in (with_client cs c x) c ≡ x
unfolding client_in
client_here cs c x there = seen_here no_client x cs c there

pub client_else : (cs : List ClientValue) (c : ℕ) (x : ClientValue) → IsNumber cs c → (d : ℕ) → d ≢ c → client_in (with_client cs c x) d ≡ client_in cs d
unfolding client_in
client_else cs c x there d other = seen_else no_client x cs c d there other

pub client_same : {A : Type 0} (f : ClientValue → A) (cs : List ClientValue) (c : ℕ) (x : ClientValue) → f x ≡ f (client_in cs c) → (d : ℕ) →
    f (client_in (with_client cs c x) d) ≡ f (client_in cs d)
unfolding client_in
client_same f cs c x same d = seen_kept f no_client x cs c d same

-- ---- one item more

pub pushed_here : {X : Type 0} (none y : X) (xs : List X) → item_at none (xs ++ y ∷ []) (suc (length xs)) ≡ y
unfolding item_at
pushed_here none y xs = get_or_push xs y none (length xs) refl

pub pushed_else : {X : Type 0} (none y : X) (xs : List X) (d : ℕ) → d ≢ suc (length xs) → item_at none (xs ++ y ∷ []) d ≡ item_at none xs d
unfolding item_at
pushed_else none y xs d h1 = grind (arith, cases_lt, get_or_append_left, length_push, get_or_past)

pub pushed_kept : {X A : Type 0} (f : X → A) (none y : X) (xs : List X) (d : ℕ) → f y ≡ f none → f (item_at none (xs ++ y ∷ []) d) ≡ f (item_at none xs d)
pushed_kept f none y xs d same = grind (arith, each_number, pushed_here, seen_past, pushed_else)
