-- Hot inodes that become cold, in places that were made for them.
use Rattle.assise_area.proofs.Common.{◌≡◌, ◌≤◌, ◌<◌, ◌+◌, ◌-◌, ℕ, zero, suc, Bool, true, false, cond, List, [], ◌∷◌, ◌||◌, length, take, drop, Option, Some}
use Rattle.assise_area.proofs.Common.{None, IsSome, refl, sym, ap, ◌∙◌, eqb, nat_eq, is_some, arith, get_or, cond_both, eqb-true, eq-eqb, or_parts, or_from}
use Rattle.assise_area.proofs.Common.{length-take-le, take-append-drop, take_more, option_or, AllByRecursion, IsDistinct, list_any, slice_get, keys_of}
use Rattle.assise_area.proofs.Common.{LruCache, lru_cache, Content, AreaValue, with_capacity, Entries, AreDisjoint, AreWritten, HoldSame, IsCooled, hot_at}
use Rattle.assise_area.proofs.Common.{cold_at, area_seen}
use Rattle.std.proofs.lemmas.List.Folds.{list_any-append}
use Rattle.assise_area.proofs.Shared.Seen.{some_or, some≢none, from_some, same_joined, is_some-lookup}
use Rattle.assise_area.proofs.WrittenValues.{disjoint_at}
use Rattle.assise_area.proofs.ColdToHot.{hot-append, keys_take}

-- ---- places

one_more : {X : Type 0} (a b : Bool) (v x : X) → cond b v (cond a v x) ≡ cond (a || (b || false)) v x
one_more true true v x = refl
one_more true false v x = refl
one_more false true v x = refl
one_more false false v x = refl

-- another number is written
pub written_next : (numbers : List ℕ) (k d : ℕ) (value : Option Content) (cold c1 c2 : Entries) → k < length numbers → AreWritten (take k numbers) value cold c1
    → ((q : ℕ) → cold_at c2 q ≡ cond (nat_eq (get_or numbers k d) q) value (cold_at c1 q)) → AreWritten (take (k + 1) numbers) value cold c2
written_next numbers k d value cold c1 c2 within so_far step q = grind (arith, take_more numbers k d within, list_any-append)

none_in_prefix : (p : ℕ → Bool) (k : ℕ) (ns : List ℕ) → list_any p ns ≡ false → list_any p (take k ns) ≡ false
none_in_prefix p zero ns h = refl
none_in_prefix p (suc k) [] h = refl
none_in_prefix p (suc k) (n ∷ ns) h =
    let parts = or_parts (p n) (list_any p ns) h in or_from (p n) (list_any p (take k ns)) parts.0 (none_in_prefix p k ns parts.1)

-- a number that is not among those that may be written
pub not_written : (numbers : List ℕ) (k : ℕ) (value : Option Content) (cold c1 : Entries) → AreWritten (take k numbers) value cold c1
    → (q : ℕ) → list_any (nat_eq q) numbers ≡ false → cold_at c1 q ≡ cold_at cold q
not_written numbers k value cold c1 so_far q other = so_far q ∙ ap (λ b. cond b value (cold_at cold q)) (none_in_prefix (nat_eq q) k numbers other)

-- ---- the hot inodes behind the first ones

module _ (k : ℕ) (es : Entries) (q : ℕ) where
  pub hot_parts : hot_at es q ≡ option_or (hot_at (take k es) q) (hot_at (drop k es) q)
  hot_parts = ap (λ l. hot_at l q) (sym (take-append-drop k es)) ∙ hot-append (take k es) (drop k es) q

  hot_beyond : (v : Content) → hot_at (drop k es) q ≡ Some v → IsSome (hot_at es q)
  hot_beyond v is = ap is_some (hot_parts ∙ ap (option_or (hot_at (take k es) q)) is) ∙ some_or (hot_at (take k es) q) (Some v) refl

  -- a number behind the first ones isn't cold
  pub beyond_absent : (cold : Entries) (numbers : List ℕ) → AreDisjoint es cold → numbers ≡ keys_of (drop k es) → list_any (nat_eq q) numbers ≡ true →
      cold_at cold q ≡ None
  beyond_absent cold numbers disjoint are among =
      let there : IsSome (hot_at (drop k es) q) = is_some-lookup q (drop k es) ∙ ap (list_any (nat_eq q)) (sym are) ∙ among in
      from_some (hot_at (drop k es) q) there (λ v is. from_some (hot_at es q) (hot_beyond v is) (disjoint_at es cold disjoint q))

  -- it has a place
  pub beyond_placed : (cold c1 : Entries) (numbers : List ℕ) (w : Content) → numbers ≡ keys_of (drop k es) → AreWritten numbers (Some w) cold c1 →
      IsSome (hot_at (drop k es) q) → IsSome (cold_at c1 q)
  beyond_placed cold c1 numbers w are written there = grind (arith, is_some-lookup)

-- ---- the longest unused one moves

at_prefix : (m : ℕ) (es : Entries) → slice_get (take (suc m) es) m ≡ slice_get es m
at_prefix zero [] = refl
at_prefix zero (e ∷ es) = refl
at_prefix (suc m) [] = refl
at_prefix (suc m) (e ∷ es) = at_prefix m es

next_last : (m : ℕ) (es : Entries) (e : ℕ × Content) → slice_get es m ≡ Some e → drop m es ≡ e ∷ drop (suc m) es
next_last m [] e is = absurd (some≢none e (sym is))
next_last zero (d ∷ es) e is = let same : d ≡ e = cc in ap (λ x. x ∷ es) same
next_last (suc m) (d ∷ es) e is = next_last m es e is

there_at : (m : ℕ) (es : Entries) (e : ℕ × Content) → slice_get es m ≡ Some e → IsSome (hot_at es e.0)
there_at m [] e is = absurd (some≢none e (sym is))
there_at zero (d ∷ es) e is = let same : d ≡ e = cc in ap (λ b. is_some (cond b (Some d.1) (hot_at es e.0))) (eq-eqb e.0 d.0 (ap (λ p. p.0) (sym same)))
there_at (suc m) (d ∷ es) e is = cond_both (eqb e.0 d.0) (Some d.1) (hot_at es e.0) IsSome (λ _. refl) (λ _. there_at m es e is)

there_beyond : (k m : ℕ) (es : Entries) (e : ℕ × Content) → k ≤ m → slice_get es m ≡ Some e → IsSome (hot_at (drop k es) e.0)
there_beyond k m [] e h is = absurd (some≢none e (sym is))
there_beyond zero m (d ∷ es) e h is = there_at m (d ∷ es) e is
there_beyond (suc k) zero (d ∷ es) e h is = absurd (omega (arith, h))
there_beyond (suc k) (suc m) (d ∷ es) e h is = there_beyond k m es e (omega (arith, h)) is

pub take_fewer : (k m : ℕ) (es : Entries) → k ≤ m → take k (take m es) ≡ take k es
take_fewer zero m es h = refl
take_fewer (suc k) zero es h = absurd (omega (arith, h))
take_fewer (suc k) (suc m) [] h = refl
take_fewer (suc k) (suc m) (e ∷ es) h = ap (λ l. e ∷ l) (take_fewer k m es (omega (arith, h)))

-- all but the last, of a prefix
pub shorter_prefix : (n : ℕ) (old hot : Entries) → hot ≡ take n old → n ≡ length hot → take (n - 1) hot ≡ take (n - 1) old
shorter_prefix n old hot prefix is = ap (take (n - 1)) prefix ∙ take_fewer (n - 1) n old (omega arith)

pub length_shorter : (n : ℕ) (hot : Entries) → n ≡ length hot → length (take (n - 1) hot) ≡ n - 1
length_shorter n hot is = length-take-le (n - 1) hot (omega (arith, is))

module _ (n : ℕ) (old hot : Entries) (e : ℕ × Content) (some : 0 < n) (prefix : hot ≡ take n old) (is_last : slice_get hot (n - 1) ≡ Some e) where
  last_of_all : slice_get old (n - 1) ≡ Some e
  last_of_all = grind (arith, at_prefix)

  behind_last : drop (n - 1) old ≡ e ∷ drop n old
  behind_last = let next : n ≡ suc (n - 1) = omega (arith, some) in next_last (n - 1) old e last_of_all ∙ ap (λ k. e ∷ drop k old) (sym next)

  -- its place is there
  pub last_placed : (first : ℕ) (cold c1 : Entries) → first < n → ((q : ℕ) → IsSome (hot_at (drop first old) q) → IsSome (cold_at cold q))
      → ((q : ℕ) → cold_at c1 q ≡ option_or (hot_at (drop n old) q) (cold_at cold q)) → IsSome (cold_at c1 e.0)
  last_placed first cold c1 more places moved = grind (arith, there_beyond, last_of_all)

  -- it is written there
  pub last_moved : (cold c1 c2 : Entries) → ((q : ℕ) → cold_at c1 q ≡ option_or (hot_at (drop n old) q) (cold_at cold q))
      → ((q : ℕ) → cold_at c2 q ≡ cond (nat_eq e.0 q) (Some e.1) (cold_at c1 q)) → (q : ℕ) → cold_at c2 q ≡ option_or (hot_at (drop (n - 1) old) q)
      (cold_at cold q)
  last_moved cold c1 c2 moved step q = grind (arith, behind_last)

-- ---- what both parts hold then

lacks_beyond : (k i : ℕ) (es : Entries) → AllByRecursion (λ y. nat_eq i y ≡ false) (keys_of es) → hot_at (drop k es) i ≡ None
lacks_beyond zero i [] all = refl
lacks_beyond zero i (e ∷ es) all = ap (λ b. cond b (Some e.1) (hot_at es i)) all.0 ∙ lacks_beyond zero i es all.1
lacks_beyond (suc k) i [] all = refl
lacks_beyond (suc k) i (e ∷ es) all = lacks_beyond k i es all.1

-- what stays is not among what moves
not_beyond : (k : ℕ) (es : Entries) (q : ℕ) (v : Content) → IsDistinct nat_eq (keys_of es) → hot_at (take k es) q ≡ Some v → hot_at (drop k es) q ≡ None
unfolding IsDistinct
not_beyond zero es q v d is = absurd (some≢none v (sym is))
not_beyond (suc k) [] q v d is = refl
not_beyond (suc k) (e ∷ es) q v d is = go (λ h. not_beyond k es q v d.1 h) (lacks_beyond k e.0 es d.0) (eqb q e.0) refl is
  where
    go : (hot_at (take k es) q ≡ Some v → hot_at (drop k es) q ≡ None) → hot_at (drop k es) e.0 ≡ None → (b : Bool) → eqb q e.0 ≡ b
        → cond b (Some e.1) (hot_at (take k es) q) ≡ Some v → hot_at (drop k es) q ≡ None
    go ih none true h s = ap (hot_at (drop k es)) (eqb-true q e.0 h) ∙ none
    go ih none false h s = ih s

or_or : {X : Type 0} (a b c : Option X) → option_or a (option_or b c) ≡ option_or (option_or a b) c
or_or None b c = refl
or_or (Some x) b c = refl

module _ (k : ℕ) (hot hot' : LruCache ℕ Content) (cold c1 c2 : Entries) (numbers : List ℕ) (w : Content) (distinct : IsDistinct nat_eq (keys_of hot.entries))
    (disjoint : AreDisjoint hot.entries cold)
    (are : numbers ≡ keys_of (drop k hot.entries)) (written : AreWritten numbers (Some w) cold c1) (left : hot' ≡ lru_cache (take k hot.entries) hot.cap)
    (moved : (q : ℕ) → cold_at c2 q ≡ option_or (hot_at (drop k hot.entries) q) (cold_at c1 q)) where
  moved_over : (q : ℕ) → cold_at c2 q ≡ option_or (hot_at (drop k hot.entries) q) (cold_at cold q)
  moved_over q = moved q ∙ ap (option_or (hot_at (drop k hot.entries) q))
      (written q ∙ ap (λ b. cond b (Some w) (cold_at cold q)) (ap (list_any (nat_eq q)) are ∙ sym (is_some-lookup q (drop k hot.entries))))
      ∙ go (hot_at (drop k hot.entries) q)
    where
      go : (o : Option Content) → option_or o (cond (is_some o) (Some w) (cold_at cold q)) ≡ option_or o (cold_at cold q)
      go None = refl
      go (Some v) = refl

  cooled_same : HoldSame hot.entries cold hot'.entries c2
  cooled_same q = grind (arith, moved_over, or_or, hot_parts)

  cooled_disjoint : AreDisjoint hot'.entries c2
  unfolding AreDisjoint
  cooled_disjoint q v is = grind (arith, hot_parts k hot.entries q, moved_over q, not_beyond)

  pub cooled : IsCooled k hot hot' cold c2
  cooled = record { left = left; same = cooled_same; disjoint = cooled_disjoint }

-- ---- areas

module _ (k : ℕ) (hot h1 h2 : LruCache ℕ Content) (cold c1 : Entries) (w : IsCooled k hot h1 cold c1) (resized : h2 ≡ lru_cache (take k h1.entries) k) where
  again : h2 ≡ lru_cache (take k hot.entries) k
  again = resized ∙ ap (λ es. lru_cache es k) (ap (λ h. take k h.entries) w.left ∙ take_fewer k k hot.entries (omega arith))

  as_cooled : h2.entries ≡ h1.entries
  as_cooled = ap (λ h. h.entries) again ∙ sym (ap (λ h. h.entries) w.left)

  pub seen_resized : (a : AreaValue) → area_seen hot cold ≡ a → area_seen h2 c1 ≡ with_capacity a k
  seen_resized a view = grind (arith, as_cooled, same_joined, keys_take)
