-- What two parts are as one map.
use Rattle.assise_area.proofs.Common.{◌≡◌, ℕ, true, false, cond, [], ◌∷◌, ◌++◌, Option, Some, None, IsSome, Result, Ok, Err, OnOk, OnErr, refl, sym, ap, ◌∙◌}
use Rattle.assise_area.proofs.Common.{eqb, is_some, true≢false, option_or, nat_cmp, nat_cmp_total, nat_eq_equiv, list_any, keys_of, LruCache, Content}
use Rattle.assise_area.proofs.Common.{with_value, alike, or_cond, AreaValue, is_hot, Entries, HoldSame, both_parts, value_in, hot_at, cold_at, area_seen, arith}
use Rattle.std.proofs.lemmas.Map.Lookups.{exact_unsigned}
use Rattle.std.specs.FinMap as map
use Rattle.assise_inode_table.proofs.Shared.EffectValues.{get-with_value}

-- ---- numbers

pub turned : (k q : ℕ) → eqb k q ≡ eqb q k
turned k q = nat_eq_equiv.symm k q

-- ---- options

pub some≢none : {X : Type 0} (x : X) → Some x ≡ None → ⊥
some≢none x e = true≢false (ap is_some e)

pub from_some : {X A : Type 0} (o : Option X) → IsSome o → ((x : X) → o ≡ Some x → A) → A
from_some None s f = absurd (true≢false (sym s))
from_some (Some x) s f = f x refl

pub nothing : {X : Type 0} (o : Option X) → false ≡ is_some o → o ≡ None
nothing None e = refl
nothing (Some x) e = absurd (true≢false (sym e))

pub some_or : {X : Type 0} (o c : Option X) → IsSome c → IsSome (option_or o c)
some_or None c s = s
some_or (Some x) c s = refl

-- ---- the map

find-joined : (hot cold : Entries) (q : ℕ) → map.find nat_cmp q (hot ++ cold) ≡ value_in hot cold q
find-joined [] [] q = refl
find-joined [] (e ∷ cold) q = λ i. cond (alike q e.0 i) (Some e.1) (find-joined [] cold q i)
find-joined (e ∷ hot) cold q = (λ i. cond (alike q e.0 i) (Some e.1) (find-joined hot cold q i)) ∙ sym (or_cond (eqb q e.0) e.1 (hot_at hot q) (cold_at cold q))

pub get-joined : (hot cold : Entries) (q : ℕ) → map.get (both_parts hot cold) q ≡ value_in hot cold q
get-joined hot cold q = map.get-from_entries nat_cmp_total (hot ++ cold) q ∙ find-joined hot cold q

-- parts that hold the same are the same map
pub same_joined : (hot cold hot' cold' : Entries) → HoldSame hot cold hot' cold' → both_parts hot' cold' ≡ both_parts hot cold
same_joined hot cold hot' cold' same = map.same_map nat_cmp_total exact_unsigned _ _ (λ q. get-joined hot' cold' q ∙ same q ∙ sym (get-joined hot cold q))

-- parts that hold another value of one inode
pub with_value-joined : (hot cold hot' cold' : Entries) (k : ℕ) (w : Option Content)
    → ((q : ℕ) → value_in hot' cold' q ≡ cond (eqb k q) w (value_in hot cold q)) → both_parts hot' cold' ≡ with_value (both_parts hot cold) k w
with_value-joined hot cold hot' cold' k w values = map.same_map nat_cmp_total exact_unsigned _ _ (grind (arith, get-joined, get-with_value))

-- what an area has of a number
pub value_of : (a : AreaValue) (hot : LruCache ℕ Content) (cold : Entries) (q : ℕ) → area_seen hot cold ≡ a → map.get a.inodes q ≡ value_in hot.entries cold q
value_of a hot cold q view = ap (λ b. map.get b.inodes q) (sym view) ∙ get-joined hot.entries cold q

-- a number that isn't hot has what the cold part has
pub value_of_cold : (a : AreaValue) (hot : LruCache ℕ Content) (cold : Entries) (q : ℕ) → area_seen hot cold ≡ a → hot_at hot.entries q ≡ None →
    map.get a.inodes q ≡ cold_at cold q
value_of_cold a hot cold q view none = value_of a hot cold q view ∙ ap (λ o. option_or o (cold_at cold q)) none

pub value_of_hot : (a : AreaValue) (hot : LruCache ℕ Content) (cold : Entries) (q : ℕ) (v : Content) → area_seen hot cold ≡ a → hot_at hot.entries q ≡ Some v →
    map.get a.inodes q ≡ Some v
value_of_hot a hot cold q v view is = value_of a hot cold q view ∙ ap (λ o. option_or o (cold_at cold q)) is

-- the number of what is hot is among the keys
pub is_some-lookup : (i : ℕ) (es : Entries) → is_some (hot_at es i) ≡ list_any (λ j. eqb i j) (keys_of es)
is_some-lookup i [] = refl
is_some-lookup i (e ∷ es) = grind (arith, is_some-lookup i es)

pub hot_now : (a : AreaValue) (hot : LruCache ℕ Content) (cold : Entries) (i : ℕ) → area_seen hot cold ≡ a → is_hot a i ≡ is_some (hot_at hot.entries i)
hot_now a hot cold i view = ap (λ b. is_hot b i) (sym view) ∙ sym (is_some-lookup i hot.entries)

-- ---- results

pub either : {T E A B P : Type 0} (r : Result T E) → OnOk r A → OnErr r B → (A → P) → (B → P) → P
either (Ok x) a b f g = f a
either (Err e) a b f g = g b

pub ok_map : {T E A B : Type 0} (r : Result T E) → OnOk r A → (A → B) → OnOk r B
ok_map (Ok x) a f = f a
ok_map (Err e) a f = tt

pub err_map : {T E A B : Type 0} (r : Result T E) → OnErr r A → (A → B) → OnErr r B
err_map (Ok x) a f = tt
err_map (Err e) a f = f a

pub either_two : {T E A B C P : Type 0} (r : Result T E) → OnOk r A → OnErr r B → OnErr r C → (A → P) → (B → C → P) → P
either_two (Ok x) a b c f g = f a
either_two (Err e) a b c f g = g b c
