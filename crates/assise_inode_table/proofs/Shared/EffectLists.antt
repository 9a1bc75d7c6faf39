-- Effects made one after another.
use Rattle.assise_inode_table.proofs.Common.{◌≡◌, ℕ, zero, suc, ◌+◌, ◌<◌, cond, List, [], ◌∷◌, ◌++◌, ◌≤◌, ◌-◌, length, take, drop, slice_index_or, Option, Some}
use Rattle.assise_inode_table.proofs.Common.{IsSome, refl, ap, sym, subst, ◌∙◌, arith, eq-eqb, take_all, take_more, nat_cmp_total, Effect, Content, InodeMap}
use Rattle.assise_inode_table.proofs.Common.{values, TakesAway, after, all_applied, applied, value_after, with_value, OnlyFirstAsks, OnlyTakeAway}
use Rattle.std.specs.Option.{is_some}
use Rattle.std.specs.FinMap as map
use Rattle.assise_inode_table.proofs.Shared.EffectValues.{get-applied, get-with_value}

-- ---- one after another

pub append_applied : (m : InodeMap) (es fs : List Effect) → all_applied m (es ++ fs) ≡ all_applied (all_applied m es) fs
append_applied m [] fs = refl
append_applied m (e ∷ es) fs = append_applied (applied m e) es fs

pub one_more_applied : (m : InodeMap) (es : List Effect) (i : ℕ) (e : Effect) → i < length es → e ≡ slice_index_or es i e → all_applied m (take (i + 1) es)
    ≡ applied (all_applied m (take i es)) e
one_more_applied m es i e h is = ap (all_applied m) (take_more es i e h ∙ ap (λ x. take i es ++ x ∷ []) (sym is)) ∙ append_applied m (take i es) (e ∷ [])

pub get-all_applied : (m : InodeMap) (es : List Effect) (i : ℕ) → map.get (all_applied m es) i ≡ value_after i (map.get m i) es
get-all_applied m [] i = refl
get-all_applied m (e ∷ es) i = get-all_applied (applied m e) es i ∙ ap (λ old. value_after i old es) (get-applied m e i)

-- what is made of a map is what is made of its values
pub values-all_applied : (m : InodeMap) (es : List Effect) → values (all_applied m es) ≡ after (values m) es
values-all_applied m es = λ t i. get-all_applied m es i t

pub same_inodes : (m n : InodeMap) → ((i : ℕ) → map.get m i ≡ map.get n i) → m ≡ n
same_inodes m n same = map.same_map nat_cmp_total map.nat_cmp-IsAntisymmetric m n same

pub takes_away_at : (es : List Effect) (k : ℕ) (e : Effect) → OnlyTakeAway es → k < length es → e ≡ slice_index_or es k e → TakesAway e
takes_away_at [] k e t h is = absurd (omega (arith, h))
takes_away_at (x ∷ es) zero e t h is = subst TakesAway (sym is) t.0
takes_away_at (x ∷ es) (suc k) e t h is = takes_away_at es k e t.1 (omega (arith, h)) is

-- ---- behind a new inode

-- the number has again what it had
pub given_back : (m : InodeMap) (i : ℕ) (c : Content) (had : Option Content) → had ≡ map.get m i → with_value (map.insert m i c) i had ≡ m
given_back m i c had is =
    same_inodes _ _ (λ q. grind (arith, get-with_value (map.insert m i c) i had q, get-with_value m i (Some c) q))

pub inserted_there : (m : InodeMap) (i : ℕ) (c : Content) → IsSome (map.get (map.insert m i c) i)
inserted_there m i c = ap is_some (get-with_value m i (Some c) i ∙ ap (λ b. cond b (Some c) (map.get m i)) (eq-eqb i i refl))

-- ---- which effects may ask for memory

pub first_of_away : (es : List Effect) → OnlyTakeAway es → OnlyFirstAsks es
first_of_away [] t = tt
first_of_away (e ∷ es) t = t.1

-- ---- the first effect, and those behind it

pub first_ahead : (es : List Effect) (first : Effect) → 1 ≤ length es → first ≡ slice_index_or es 0 first → es ≡ first ∷ take (length es - 1) (drop 1 es)
first_ahead [] first some is = absurd (omega (arith, some))
first_ahead (e ∷ es) first some is = ap (λ x. x ∷ es) (sym is) ∙ ap (λ xs. first ∷ xs) (sym (take_all (length (e ∷ es) - 1) es (omega arith)))
