-- A use of an inode that is hot, and what is said of any use.
use Rattle.assise_area.proofs.Common.{◌≡◌, ◌≤◌, ◌-◌, ℕ, suc, Bool, true, false, cond, List, [], ◌∷◌, ◌||◌, length, Some, None, IsSome, refl, sym, ap, subst}
use Rattle.assise_area.proofs.Common.{◌∙◌, inr, eqb, nat_eq, is_some, true≢false, arith, take_all, eqb-true, length-map, list_any, lookup_entry, keys_of}
use Rattle.assise_area.proofs.Common.{remove_entry, LruCache, lru_cache, promoted, Content, AreaValue, IsTouched, after_use, used, without_number, Entries}
use Rattle.assise_area.proofs.Common.{AreDisjoint, AreaInvariant, IsWarmed, hot_at, cold_at, area_seen}
use Rattle.assise_area.proofs.Shared.Seen.{some≢none, same_joined, hot_now, is_some-lookup, value_of_hot, value_of_cold}
use Rattle.assise_area.proofs.WrittenValues.{keys-removed, disjoint_same}

removed_other : (n q : ℕ) (es : Entries) → eqb q n ≡ false → hot_at (remove_entry (nat_eq n) es) q ≡ hot_at es q
removed_other n q [] differs = refl
removed_other n q (e ∷ es) differs = grind (arith, removed_other n q es differs)

pub found : (n : ℕ) (es : Entries) (f : ℕ × Content) → lookup_entry (nat_eq n) es ≡ Some f → (n ≡ f.0) × (hot_at es n ≡ Some f.1)
found n [] f e = cc
found n (d ∷ es) f e = go (λ h. found n es f h) (eqb n d.0) refl e
  where
    go : (lookup_entry (nat_eq n) es ≡ Some f → (n ≡ f.0) × (hot_at es n ≡ Some f.1)) → (b : Bool) → eqb n d.0 ≡ b →
        cond b (Some d) (lookup_entry (nat_eq n) es) ≡ Some f → (n ≡ f.0) × (cond b (Some d.1) (hot_at es n) ≡ Some f.1)
    go ih true is h = let same : d ≡ f = cc in (eqb-true n d.0 is ∙ ap (λ p. p.0) same, ap (λ p. Some p.1) same)
    go ih false is h = ih h

missed : (n : ℕ) (es : Entries) → lookup_entry (nat_eq n) es ≡ None → hot_at es n ≡ None
missed n [] e = refl
missed n (d ∷ es) e = go (λ h. missed n es h) (eqb n d.0) e
  where
    go : (lookup_entry (nat_eq n) es ≡ None → hot_at es n ≡ None) → (b : Bool) → cond b (Some d) (lookup_entry (nat_eq n) es) ≡ None →
        cond b (Some d.1) (hot_at es n) ≡ None
    go ih true h = absurd (some≢none d h)
    go ih false h = ih h

-- ---- what is used goes first

pub hot-promoted : (n : ℕ) (es : Entries) (q : ℕ) → hot_at (promoted (nat_eq n) es) q ≡ hot_at es q
hot-promoted n es q = grind (arith, removed_other, found)

pub promoted_none : (n : ℕ) (es : Entries) → hot_at es n ≡ None → promoted (nat_eq n) es ≡ es
promoted_none n es none = grind (arith, found)

length-without : (i : ℕ) (ks : List ℕ) → list_any (λ j. eqb i j) ks ≡ true → suc (length (without_number ks i)) ≡ length ks
length-without i [] h = absurd (true≢false (sym h))
length-without i (k ∷ ks) h = go (λ t. length-without i ks t) (eqb i k) h
  where
    go : (list_any (λ j. eqb i j) ks ≡ true → suc (length (without_number ks i)) ≡ length ks) → (b : Bool) → (b || list_any (λ j. eqb i j) ks) ≡ true →
        suc (length (cond b ks (k ∷ without_number ks i))) ≡ suc (length ks)
    go ih true t = refl
    go ih false t = ap suc (ih t)

pub without_none : (i : ℕ) (es : Entries) → hot_at es i ≡ None → without_number (keys_of es) i ≡ keys_of es
without_none i [] none = refl
without_none i (e ∷ es) none = go (λ h. without_none i es h) (eqb i e.0) none
  where
    go : (hot_at es i ≡ None → without_number (keys_of es) i ≡ keys_of es) → (b : Bool) → cond b (Some e.1) (hot_at es i) ≡ None →
        cond b (keys_of es) (e.0 ∷ without_number (keys_of es) i) ≡ e.0 ∷ keys_of es
    go ih true h = absurd (some≢none e.1 h)
    go ih false h = ap (λ l. e.0 ∷ l) (ih h)

shorter : (i cap : ℕ) (es : Entries) → IsSome (hot_at es i) → length es ≤ cap → length (without_number (keys_of es) i) ≤ cap - 1
shorter i cap es there within = grind (arith, length-without, is_some-lookup, length-map)

keys-promoted : (i cap : ℕ) (es : Entries) → IsSome (hot_at es i) → length es ≤ cap → keys_of (promoted (nat_eq i) es) ≡ used (keys_of es) i cap
keys-promoted i cap es there within = grind (arith, keys-removed, take_all, shorter, missed, found)

-- ---- areas

pub seen_promoted : (a : AreaValue) (hot hot' : LruCache ℕ Content) (cold : Entries) (i : ℕ) → area_seen hot cold ≡ a →
    hot' ≡ lru_cache (promoted (nat_eq i) hot.entries) hot.cap
    → IsSome (hot_at hot.entries i) → length hot.entries ≤ hot.cap → area_seen hot' cold ≡ after_use a i
seen_promoted a hot hot' cold i view moved there within = grind (arith, hot-promoted, same_joined, keys-promoted)

disjoint_promoted : (hot cold : Entries) (i : ℕ) → AreDisjoint hot cold → AreDisjoint (promoted (nat_eq i) hot) cold
unfolding AreDisjoint
disjoint_promoted hot cold i disjoint q v is = disjoint q v (sym (hot-promoted i hot q) ∙ is)

pub sound_promoted : (hot hot' : LruCache ℕ Content) (cold : Entries) (i : ℕ) → hot' ≡ lru_cache (promoted (nat_eq i) hot.entries) hot.cap →
    AreaInvariant hot cold → AreaInvariant hot' cold
sound_promoted hot hot' cold i moved s = grind (arith, disjoint_promoted)

-- nothing was promoted
pub unmoved : (hot hot' : LruCache ℕ Content) (i : ℕ) → hot' ≡ lru_cache (promoted (nat_eq i) hot.entries) hot.cap → hot_at hot.entries i ≡ None → hot' ≡ hot
unmoved hot hot' i moved none = moved ∙ ap (λ es. lru_cache es hot.cap) (promoted_none i hot.entries none)

pub seen_warmed : (a : AreaValue) (hot hot' : LruCache ℕ Content) (cold cold' : Entries) (i : ℕ) → area_seen hot cold ≡ a → hot_at hot.entries i ≡ None →
    IsWarmed i hot hot' cold cold' → area_seen hot' cold' ≡ after_use a i
seen_warmed a hot hot' cold cold' i view none w = grind (arith, same_joined, without_none)

pub sound_warmed : (hot hot' : LruCache ℕ Content) (cold cold' : Entries) (i : ℕ) → IsWarmed i hot hot' cold cold' → AreaInvariant hot cold →
    AreaInvariant hot' cold'
sound_warmed hot hot' cold cold' i w s = record { disjoint = w.disjoint; most = subst (λ n. n ≤ 4096) (sym w.cap) s.most }

pub sound_same : (hot hot' : LruCache ℕ Content) (cold cold' : Entries) → hot' ≡ hot → ((q : ℕ) → cold_at cold' q ≡ cold_at cold q) → AreaInvariant hot cold →
    AreaInvariant hot' cold'
sound_same hot hot' cold cold' same values s = grind (arith, disjoint_same)

-- the cold part has the same look-ups
pub seen_same : (a : AreaValue) (hot hot' : LruCache ℕ Content) (cold cold' : Entries) → area_seen hot cold ≡ a → hot' ≡ hot →
    ((q : ℕ) → cold_at cold' q ≡ cold_at cold q) → area_seen hot' cold' ≡ a
seen_same a hot hot' cold cold' view same values = grind (arith, same_joined)

-- ---- what a use is

pub touched_hot : (a b : AreaValue) (hot : LruCache ℕ Content) (cold : Entries) (i : ℕ) → area_seen hot cold ≡ a → IsSome (hot_at hot.entries i) →
    b ≡ after_use a i → IsTouched a i b
touched_hot a b hot cold i view there now = grind (arith, value_of_hot)

pub touched_warm : (a b : AreaValue) (hot : LruCache ℕ Content) (cold : Entries) (i : ℕ) → area_seen hot cold ≡ a → hot_at hot.entries i ≡ None →
    IsSome (cold_at cold i) → b ≡ after_use a i → IsTouched a i b
touched_warm a b hot cold i view none there now = grind (arith, value_of_cold)

pub touched_kept : (a b : AreaValue) (hot : LruCache ℕ Content) (cold : Entries) (i : ℕ) → area_seen hot cold ≡ a → hot_at hot.entries i ≡ None → b ≡ a →
    IsTouched a i b
touched_kept a b hot cold i view none now = record {
  either = inr now;
  hot = λ h. absurd (true≢false (sym h ∙ hot_now a hot cold i view ∙ ap is_some none));
  missing = λ _. now;
}
