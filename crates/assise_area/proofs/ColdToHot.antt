-- A cold inode that becomes the first of the hot ones, and the last of them that becomes cold.
use Rattle.assise_area.proofs.Common.{◌≡◌, ◌≤◌, ◌<◌, ◌-◌, ℕ, zero, suc, Bool, true, false, cond, [], ◌∷◌, ◌++◌, length, take, Option, Some, None, IsSome, refl}
use Rattle.assise_area.proofs.Common.{sym, ap, subst, ◌∙◌, eqb, nat_eq, arith, option_to_list, option_map, cond_both, eqb-true, eq-eqb, false_from_ne_true}
use Rattle.assise_area.proofs.Common.{option_or, option_map_or, AllByRecursion, IsDistinct, slice_get, lookup_entry, keys_of, remove_entry, LruCache, IsValid}
use Rattle.assise_area.proofs.Common.{Content, lookup-append, Entries, AreDisjoint, HoldSame, IsPushed, IsWarmed, hot_at, cold_at}
use Rattle.assise_area.proofs.Shared.Seen.{turned, some≢none}
use Rattle.assise_area.proofs.HotUse.{found}
use Rattle.assise_area.proofs.WrittenValues.{disjoint_at}

-- ---- lists

no_entries : (es : Entries) → length es ≤ 0 → [] ≡ es
no_entries [] h = refl
no_entries (e ∷ es) h = absurd (omega (arith, h))

-- all entries but one that is too many, and that one
split : (n : ℕ) (es : Entries) → length es ≤ suc n → take n es ++ option_to_list (slice_get es n) ≡ es
split zero [] h = refl
split (suc n) [] h = refl
split zero (e ∷ es) h = ap (λ l. e ∷ l) (no_entries es (omega (arith, h)))
split (suc n) (e ∷ es) h = ap (λ l. e ∷ l) (split n es (omega (arith, h)))

pub hot-append : (es fs : Entries) (q : ℕ) → hot_at (es ++ fs) q ≡ option_or (hot_at es q) (hot_at fs q)
hot-append es fs q = lookup-append (nat_eq q) es fs

other_key : (k n : ℕ) (es : Entries) (e : ℕ × Content) → AllByRecursion (λ y. nat_eq k y ≡ false) (keys_of es) → slice_get es n ≡ Some e → eqb k e.0 ≡ false
other_key k n [] e all is = absurd (some≢none e (sym is))
other_key k zero (d ∷ es) e all is = let same : d ≡ e = cc in subst (λ p. eqb k p.0 ≡ false) same all.0
other_key k (suc n) (d ∷ es) e all is = other_key k n es e all.1 is

prefix_lacks : (n : ℕ) (es : Entries) (e : ℕ × Content) → IsDistinct nat_eq (keys_of es) → slice_get es n ≡ Some e → hot_at (take n es) e.0 ≡ None
unfolding IsDistinct
prefix_lacks zero es e d is = refl
prefix_lacks (suc n) [] e d is = refl
prefix_lacks (suc n) (x ∷ es) e d is = grind (arith, prefix_lacks n es e d.1 is, turned, other_key)

-- ---- what a look-up finds

-- with the last one, of as many as may be
hot_split : (hot : Entries) (cap : ℕ) (q : ℕ) → length hot ≤ cap → 0 < cap → hot_at hot q ≡ option_or (hot_at (take (cap - 1) hot) q)
    (hot_at (option_to_list (slice_get hot (cap - 1))) q)
hot_split hot cap q within some = grind (arith, split, hot-append (take (cap - 1) hot) (option_to_list (slice_get hot (cap - 1))) q)

twice : {X : Type 0} (b : Bool) (x y c : X) → cond b x (cond b y c) ≡ cond b x c
twice true x y c = refl
twice false x y c = refl

moved : {X : Type 0} (a c : Option X) (b : Bool) (x : X) → option_or a (cond b (Some x) c) ≡ option_or (option_or a (cond b (Some x) None)) c
moved None c true x = refl
moved None c false x = refl
moved (Some y) c b x = refl

pub keys_take : (n : ℕ) (es : Entries) → take n (keys_of es) ≡ keys_of (take n es)
keys_take zero es = refl
keys_take (suc n) [] = refl
keys_take (suc n) (e ∷ es) = ap (λ ks. e.0 ∷ ks) (keys_take n es)

keys_pushed : (hot hot' : LruCache ℕ Content) (cold : Entries) (i : ℕ) → IsPushed i hot hot' cold →
    keys_of hot'.entries ≡ i ∷ take (hot.cap - 1) (keys_of hot.entries)
keys_pushed hot hot' cold i p = ap keys_of p.entries ∙ ap (λ ks. i ∷ ks) (sym (keys_take (hot.cap - 1) hot.entries))

-- ---- a cold inode gets hot where there is room

module _ (i : ℕ) (hot hot' : LruCache ℕ Content) (cold cold' : Entries) (valid : IsValid nat_eq hot) (disjoint : AreDisjoint hot.entries cold)
    (absent : hot_at hot.entries i ≡ None)
    (room : slice_get hot.entries (hot.cap - 1) ≡ None) (pushed : IsPushed i hot hot' cold)
    (taken : (q : ℕ) → cold_at cold' q ≡ cond (nat_eq i q) None (cold_at cold q)) where
  room_prefix : (q : ℕ) → hot_at hot.entries q ≡ hot_at (take (hot.cap - 1) hot.entries) q
  room_prefix q = grind (arith, hot_split hot.entries hot.cap q valid.1 valid.2)

  room_hot : (q : ℕ) → hot_at hot'.entries q ≡ cond (eqb q i) (Some pushed.content) (hot_at hot.entries q)
  room_hot q = ap (λ es. hot_at es q) pushed.entries ∙ ap (cond (eqb q i) (Some pushed.content)) (sym (room_prefix q))

  room_cold : (q : ℕ) → cold_at cold' q ≡ cond (eqb q i) None (cold_at cold q)
  room_cold q = taken q ∙ ap (λ b. cond b None (cold_at cold q)) (turned i q)

  room_same : HoldSame hot.entries cold hot'.entries cold'
  room_same q = grind (arith, room_hot)

  room_disjoint : AreDisjoint hot'.entries cold'
  unfolding AreDisjoint
  room_disjoint q v is = grind (arith, room_hot)

  pub warmed_in_room : IsWarmed i hot hot' cold cold'
  warmed_in_room = record { keys = keys_pushed hot hot' cold i pushed; cap = pushed.cap; same = room_same; disjoint = room_disjoint }

-- ---- the last one, where as many are hot as may be

module _ (hot : LruCache ℕ Content) (e : ℕ × Content) (valid : IsValid nat_eq hot) (is_last : slice_get hot.entries (hot.cap - 1) ≡ Some e) where
  at_prefix : (q : ℕ) → hot_at hot.entries q ≡ option_or (hot_at (take (hot.cap - 1) hot.entries) q) (cond (eqb q e.0) (Some e.1) None)
  at_prefix q = grind (arith, hot_split hot.entries hot.cap q valid.1 valid.2)

  lacks : hot_at (take (hot.cap - 1) hot.entries) e.0 ≡ None
  lacks = prefix_lacks (hot.cap - 1) hot.entries e valid.0 is_last

  pub last_is_hot : hot_at hot.entries e.0 ≡ Some e.1
  last_is_hot = at_prefix e.0 ∙ ap (λ o. option_or o (cond (eqb e.0 e.0) (Some e.1) None)) lacks ∙ ap (λ b. cond b (Some e.1) None) (eq-eqb e.0 e.0 refl)

  pub not_last : (i : ℕ) → hot_at hot.entries i ≡ None → eqb e.0 i ≡ false
  not_last i absent = false_from_ne_true (eqb e.0 i) (λ h. some≢none e.1 (sym last_is_hot ∙ ap (hot_at hot.entries) (eqb-true e.0 i h) ∙ absent))

-- the place that was made for it is there
pub place_there : (hot : LruCache ℕ Content) (cold c1 c2 : Entries) (i last : ℕ) (e : ℕ × Content) (w : Content) → IsValid nat_eq hot →
    hot_at hot.entries i ≡ None
    → slice_get hot.entries (hot.cap - 1) ≡ Some e → last ≡ e.0
    → ((q : ℕ) → cold_at c1 q ≡ cond (nat_eq last q) (Some w) (cold_at cold q)) → ((q : ℕ) → cold_at c2 q ≡ cond (nat_eq i q) None (cold_at c1 q))
    → IsSome (cold_at c2 e.0)
place_there hot cold c1 c2 i last e w valid absent is_last key first second = grind (arith, not_last)

-- the last one, of which the number is known
pub with_last : {P : Type 0} (o : Option (ℕ × Content)) (last : ℕ) → Some last ≡ option_map (λ e. e.0) o → ((e : ℕ × Content) → o ≡ Some e → last ≡ e.0 → P) → P
with_last None last h f = absurd (some≢none last h)
with_last (Some e) last h f = let same : last ≡ e.0 = cc in f e refl same

pub no_last : (o : Option (ℕ × Content)) → None ≡ option_map (λ e. e.0) o → o ≡ None
no_last None h = refl
no_last (Some e) h = absurd (some≢none e.0 (sym h))

pub last_key : (o : Option (ℕ × Content)) (last : ℕ) (e : ℕ × Content) → Some last ≡ option_map (λ d. d.0) o → o ≡ Some e → last ≡ e.0
last_key o last e h is = let both : Some last ≡ Some e.0 = h ∙ ap (option_map (λ d. d.0)) is in cc

-- the place that was made for it is let go
pub undone : (hot : LruCache ℕ Content) (cold c1 c2 c3 : Entries) (last : ℕ) (e : ℕ × Content) (w : Content) → IsValid nat_eq hot → AreDisjoint hot.entries cold
    → slice_get hot.entries (hot.cap - 1) ≡ Some e → last ≡ e.0
    → ((q : ℕ) → cold_at c1 q ≡ cond (nat_eq last q) (Some w) (cold_at cold q)) → ((q : ℕ) → cold_at c2 q ≡ cold_at c1 q)
    → ((q : ℕ) → cold_at c3 q ≡ cond (nat_eq last q) None (cold_at c2 q)) → (q : ℕ) → cold_at c3 q ≡ cold_at cold q
undone hot cold c1 c2 c3 last e w valid disjoint is_last key first same third q =
    third q ∙ ap (cond (eqb last q) None) (same q ∙ first q) ∙ go (eqb last q) refl
  where
    none : cold_at cold last ≡ None
    none = ap (cold_at cold) key ∙ disjoint_at hot.entries cold disjoint e.0 e.1 (last_is_hot hot e valid is_last)

    go : (b : Bool) → eqb last q ≡ b → cond b None (cond b (Some w) (cold_at cold q)) ≡ cold_at cold q
    go true h = sym (ap (cold_at cold) (sym (eqb-true last q h)) ∙ none)
    go false h = refl

-- ---- a cold inode gets hot in place of the last one, for which a place was made

module _ (i last : ℕ) (e : ℕ × Content) (w : Content) (hot hot' : LruCache ℕ Content) (cold c1 c2 c3 : Entries) (valid : IsValid nat_eq hot)
    (disjoint : AreDisjoint hot.entries cold) (absent : hot_at hot.entries i ≡ None)
    (is_last : slice_get hot.entries (hot.cap - 1) ≡ Some e) (key : last ≡ e.0) (pushed : IsPushed i hot hot' c1)
    (first : (q : ℕ) → cold_at c1 q ≡ cond (nat_eq last q) (Some w) (cold_at cold q))
    (second : (q : ℕ) → cold_at c2 q ≡ cond (nat_eq i q) None (cold_at c1 q))
    (third : (q : ℕ) → cold_at c3 q ≡ cond (nat_eq e.0 q) (Some e.1) (cold_at c2 q)) where
  place : (q : ℕ) → cold_at c1 q ≡ cond (eqb e.0 q) (Some w) (cold_at cold q)
  place q = first q ∙ ap (λ m. cond (eqb m q) (Some w) (cold_at cold q)) key

  after : (q : ℕ) → cold_at c3 q ≡ cond (eqb e.0 q) (Some e.1) (cond (eqb i q) None (cond (eqb e.0 q) (Some w) (cold_at cold q)))
  after q = third q ∙ ap (cond (eqb e.0 q) (Some e.1)) (second q ∙ ap (cond (eqb i q) None) (place q))

  was_there : cold_at cold i ≡ Some pushed.content
  was_there = sym (place i ∙ ap (λ b. cond b (Some w) (cold_at cold i)) (not_last hot e valid is_last i absent)) ∙ pushed.there

  not_used : (q : ℕ) → eqb q i ≡ false → cold_at c3 q ≡ cond (eqb q e.0) (Some e.1) (cold_at cold q)
  not_used q h = grind arith

  gone : cold_at c3 i ≡ None
  gone = grind (arith, not_last)

  new_hot : (q : ℕ) → hot_at hot'.entries q ≡ cond (eqb q i) (Some pushed.content) (hot_at (take (hot.cap - 1) hot.entries) q)
  new_hot q = ap (λ es. hot_at es q) pushed.entries

  trade_same : HoldSame hot.entries cold hot'.entries c3
  trade_same q = grind (arith, was_there, not_used, moved, at_prefix)

  trade_disjoint : AreDisjoint hot'.entries c3
  unfolding AreDisjoint
  trade_disjoint q v is = go (eqb q i) refl (sym (new_hot q) ∙ is)
    where
      go : (b : Bool) → eqb q i ≡ b → cond b (Some pushed.content) (hot_at (take (hot.cap - 1) hot.entries) q) ≡ Some v → cold_at c3 q ≡ None
      go true h s = ap (cold_at c3) (eqb-true q i h) ∙ gone
      go false h s = not_used q h ∙ cond_both (eqb q e.0) (Some e.1) (cold_at cold q) (λ o. o ≡ None)
          (λ l. absurd (some≢none v (sym s ∙ ap (hot_at (take (hot.cap - 1) hot.entries)) (eqb-true q e.0 l) ∙ lacks hot e valid is_last)))
          (λ _. disjoint_at hot.entries cold disjoint q v (at_prefix hot e valid is_last q ∙ ap (λ o. option_or o (cond (eqb q e.0) (Some e.1) None)) s))

  pub warmed_in_place : IsWarmed i hot hot' cold c3
  warmed_in_place = record { keys = keys_pushed hot hot' c1 i pushed; cap = pushed.cap; same = trade_same; disjoint = trade_disjoint }

-- a new first entry, of a number that isn't hot
pub put_new : (hot : Entries) (i cap : ℕ) (v : Content) → hot_at hot i ≡ None → option_map_or (λ d. (d.0, v) ∷ remove_entry (nat_eq i) hot)
    (lookup_entry (nat_eq i) hot) ((i, v) ∷ take (cap - 1) hot) ≡ (i, v) ∷ take (cap - 1) hot
put_new hot i cap v none = grind (arith, found)
