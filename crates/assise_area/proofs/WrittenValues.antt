-- A value that is written or taken out.
use Rattle.assise_area.proofs.Common.{◌≡◌, ◌≤◌, ℕ, Bool, true, false, cond, [], ◌∷◌, Option, Some, None, IsSome, refl, sym, ap, subst, ◌∙◌, eqb, nat_eq}
use Rattle.assise_area.proofs.Common.{eqb-true, lookup-set_value, lookup-remove_entry, keys-set_value, option_or, nat_eq_equiv, IsDistinct, keys_of, set_value}
use Rattle.assise_area.proofs.Common.{remove_entry, LruCache, lru_cache, Content, with_value, or_cond, AreaValue, with_inodes, without_number, removed, Entries}
use Rattle.assise_area.proofs.Common.{AreDisjoint, AreaInvariant, value_in, hot_at, cold_at, area_seen, arith}
use Rattle.std.specs.FinMap as map
use Rattle.assise_area.proofs.Shared.Seen.{some≢none, with_value-joined}

pub one_class : (k x y : ℕ) → nat_eq k x ≡ true → nat_eq k y ≡ nat_eq x y
one_class k x y e = ap (λ j. nat_eq j y) (eqb-true k x e)

pub hot-set : (hot : Entries) (k : ℕ) (w : Content) (q : ℕ) → IsSome (hot_at hot k) → hot_at (set_value (nat_eq k) hot w) q ≡ cond (eqb k q) (Some w)
    (hot_at hot q)
hot-set hot k w q there = lookup-set_value nat_eq_equiv (nat_eq k) (one_class k) q w hot there

pub hot-removed : (hot : Entries) (k q : ℕ) → IsDistinct nat_eq (keys_of hot) → hot_at (remove_entry (nat_eq k) hot) q ≡ cond (eqb k q) None (hot_at hot q)
hot-removed hot k q d = lookup-remove_entry nat_eq_equiv (nat_eq k) (one_class k) q hot d

-- ---- what both hold

pub disjoint_at : (hot cold : Entries) → AreDisjoint hot cold → (q : ℕ) (v : Content) → hot_at hot q ≡ Some v → cold_at cold q ≡ None
unfolding AreDisjoint
disjoint_at hot cold disjoint = disjoint

-- a hot inode gets another value
pub set_hot : (hot cold : Entries) (k : ℕ) (w : Content) → IsSome (hot_at hot k) → (q : ℕ) → value_in (set_value (nat_eq k) hot w) cold q
    ≡ cond (eqb k q) (Some w) (value_in hot cold q)
set_hot hot cold k w there q = ap (λ o. option_or o (cold_at cold q)) (hot-set hot k w q there) ∙ or_cond (eqb k q) w (hot_at hot q) (cold_at cold q)

-- a number that isn't hot gets another value, or none
pub write_cold : (hot cold cold' : Entries) (k : ℕ) (w : Option Content) → hot_at hot k ≡ None
    → ((q : ℕ) → cold_at cold' q ≡ cond (nat_eq k q) w (cold_at cold q)) → (q : ℕ) → value_in hot cold' q ≡ cond (eqb k q) w (value_in hot cold q)
write_cold hot cold cold' k w none updates q = grind arith

-- a hot inode is taken out
pub remove_hot : (hot cold : Entries) (k : ℕ) → IsDistinct nat_eq (keys_of hot) → AreDisjoint hot cold → IsSome (hot_at hot k)
    → (q : ℕ) → value_in (remove_entry (nat_eq k) hot) cold q ≡ cond (eqb k q) None (value_in hot cold q)
remove_hot hot cold k d disjoint there q = grind (arith, hot-removed, disjoint_at)

-- ---- no inode is in both

pub disjoint_set : (hot cold : Entries) (k : ℕ) (w : Content) → IsSome (hot_at hot k) → AreDisjoint hot cold → AreDisjoint (set_value (nat_eq k) hot w) cold
unfolding AreDisjoint
disjoint_set hot cold k w there disjoint q v is = grind (arith, hot-set)

pub disjoint_write : (hot cold cold' : Entries) (k : ℕ) (w : Option Content) → hot_at hot k ≡ None
    → ((q : ℕ) → cold_at cold' q ≡ cond (nat_eq k q) w (cold_at cold q)) → AreDisjoint hot cold → AreDisjoint hot cold'
unfolding AreDisjoint
disjoint_write hot cold cold' k w none updates disjoint q v is = grind arith

pub disjoint_remove : (hot cold : Entries) (k : ℕ) → IsDistinct nat_eq (keys_of hot) → AreDisjoint hot cold → AreDisjoint (remove_entry (nat_eq k) hot) cold
unfolding AreDisjoint
disjoint_remove hot cold k d disjoint q v is = grind (arith, hot-removed)

-- parts of which the cold one has the same look-ups
pub disjoint_same : (hot cold cold' : Entries) → ((q : ℕ) → cold_at cold' q ≡ cold_at cold q) → AreDisjoint hot cold → AreDisjoint hot cold'
unfolding AreDisjoint
disjoint_same hot cold cold' same disjoint q v is = same q ∙ disjoint q v is

-- ---- the keys of what is hot

pub keys-removed : (k : ℕ) (es : Entries) → keys_of (remove_entry (nat_eq k) es) ≡ without_number (keys_of es) k
keys-removed k [] = refl
keys-removed k (e ∷ es) = grind (arith, keys-removed k es)

pub removed_none : (k : ℕ) (es : Entries) → hot_at es k ≡ None → remove_entry (nat_eq k) es ≡ es
removed_none k [] none = refl
removed_none k (e ∷ es) none = go (eqb k e.0) (λ h. removed_none k es h) none
  where
    go : (b : Bool) → (hot_at es k ≡ None → remove_entry (nat_eq k) es ≡ es) → cond b (Some e.1) (hot_at es k) ≡ None →
        cond b es (e ∷ remove_entry (nat_eq k) es) ≡ e ∷ es
    go true ih h = absurd (some≢none e.1 h)
    go false ih h = ap (λ l. e ∷ l) (ih h)

-- ---- areas

-- one inode has another value, or none, and the same numbers are hot
pub seen_written : (a : AreaValue) (hot hot' : LruCache ℕ Content) (cold cold' : Entries) (k : ℕ) (w : Option Content) → area_seen hot cold ≡ a
    → keys_of hot'.entries ≡ keys_of hot.entries → hot'.cap ≡ hot.cap →
    ((q : ℕ) → value_in hot'.entries cold' q ≡ cond (eqb k q) w (value_in hot.entries cold q))
    → area_seen hot' cold' ≡ with_inodes a (with_value a.inodes k w)
seen_written a hot hot' cold cold' k w view keys cap values = grind (arith, with_value-joined)

-- a hot inode has another value
pub seen_set : (a : AreaValue) (hot : LruCache ℕ Content) (cold : Entries) (k : ℕ) (w : Content) → area_seen hot cold ≡ a → IsSome (hot_at hot.entries k)
    → area_seen (lru_cache (set_value (nat_eq k) hot.entries w) hot.cap) cold ≡ with_inodes a (map.insert a.inodes k w)
seen_set a hot cold k w view there =
    seen_written a hot (lru_cache (set_value (nat_eq k) hot.entries w) hot.cap) cold cold k (Some w) view (keys-set_value (nat_eq k) hot.entries w) refl
    (set_hot hot.entries cold k w there)

-- a number that isn't hot has another value, or none
pub seen_cold : (a : AreaValue) (hot : LruCache ℕ Content) (cold cold' : Entries) (k : ℕ) (w : Option Content) → area_seen hot cold ≡ a →
    hot_at hot.entries k ≡ None
    → ((q : ℕ) → cold_at cold' q ≡ cond (nat_eq k q) w (cold_at cold q)) → area_seen hot cold' ≡ with_inodes a (with_value a.inodes k w)
seen_cold a hot cold cold' k w view none updates = seen_written a hot hot cold cold' k w view refl refl (write_cold hot.entries cold cold' k w none updates)

-- an inode is taken out
seen_out : (a : AreaValue) (hot hot' : LruCache ℕ Content) (cold cold' : Entries) (k : ℕ) → area_seen hot cold ≡ a →
    hot' ≡ lru_cache (remove_entry (nat_eq k) hot.entries) hot.cap
    → ((q : ℕ) → value_in hot'.entries cold' q ≡ cond (eqb k q) None (value_in hot.entries cold q)) → area_seen hot' cold' ≡ removed a k
seen_out a hot hot' cold cold' k view left values = grind (arith, with_value-joined hot.entries cold hot'.entries cold' k None values, keys-removed)

pub seen_out_of_hot : (a : AreaValue) (hot hot' : LruCache ℕ Content) (cold : Entries) (k : ℕ) → area_seen hot cold ≡ a →
    hot' ≡ lru_cache (remove_entry (nat_eq k) hot.entries) hot.cap
    → IsDistinct nat_eq (keys_of hot.entries) → AreDisjoint hot.entries cold → IsSome (hot_at hot.entries k) → area_seen hot' cold ≡ removed a k
seen_out_of_hot a hot hot' cold k view left d disjoint there = grind (arith, seen_out, remove_hot)

pub seen_out_of_cold : (a : AreaValue) (hot hot' : LruCache ℕ Content) (cold cold' : Entries) (k : ℕ) → area_seen hot cold ≡ a →
    hot' ≡ lru_cache (remove_entry (nat_eq k) hot.entries) hot.cap
    → hot_at hot.entries k ≡ None → ((q : ℕ) → cold_at cold' q ≡ cond (nat_eq k q) None (cold_at cold q)) → area_seen hot' cold' ≡ removed a k
seen_out_of_cold a hot hot' cold cold' k view left none updates = grind (arith, seen_out, removed_none)

-- ---- what holds of parts

disjoint_empty : (cold : Entries) → AreDisjoint [] cold
unfolding AreDisjoint
disjoint_empty cold q v is = absurd (some≢none v (sym is))

pub sound_new : (hot : LruCache ℕ Content) (cold : Entries) (n : ℕ) → hot ≡ lru_cache [] n → n ≤ 4096 → AreaInvariant hot cold
sound_new hot cold n is most = subst (λ h. AreaInvariant h cold) (sym is) (record { disjoint = disjoint_empty cold; most = most })

pub sound_set : (hot : LruCache ℕ Content) (cold : Entries) (k : ℕ) (w : Content) → IsSome (hot_at hot.entries k) → AreaInvariant hot cold →
    AreaInvariant (lru_cache (set_value (nat_eq k) hot.entries w) hot.cap) cold
sound_set hot cold k w there s = record { disjoint = disjoint_set hot.entries cold k w there s.disjoint; most = s.most }

pub sound_cold : (hot : LruCache ℕ Content) (cold cold' : Entries) (k : ℕ) (w : Option Content) → hot_at hot.entries k ≡ None
    → ((q : ℕ) → cold_at cold' q ≡ cond (nat_eq k q) w (cold_at cold q)) → AreaInvariant hot cold → AreaInvariant hot cold'
sound_cold hot cold cold' k w none updates s = record { disjoint = disjoint_write hot.entries cold cold' k w none updates s.disjoint; most = s.most }

pub sound_out_of_hot : (hot hot' : LruCache ℕ Content) (cold : Entries) (k : ℕ) → hot' ≡ lru_cache (remove_entry (nat_eq k) hot.entries) hot.cap
    → IsDistinct nat_eq (keys_of hot.entries) → AreaInvariant hot cold → AreaInvariant hot' cold
sound_out_of_hot hot hot' cold k left d s = grind (arith, disjoint_remove)

pub sound_out_of_cold : (hot hot' : LruCache ℕ Content) (cold cold' : Entries) (k : ℕ) → hot' ≡ lru_cache (remove_entry (nat_eq k) hot.entries) hot.cap
    → hot_at hot.entries k ≡ None → ((q : ℕ) → cold_at cold' q ≡ cond (nat_eq k q) None (cold_at cold q)) → AreaInvariant hot cold → AreaInvariant hot' cold'
sound_out_of_cold hot hot' cold cold' k left none updates s = grind
    (arith, removed_none k hot.entries none, disjoint_write hot.entries cold cold' k None none updates s.disjoint)
