-- A map of inodes, of which an effect changes one.
use Rattle.assise_inode_table.proofs.Common.{◌≡◌, ℕ, List, Option, Some, None, IsSome, Result, Ok, Err, OnErr, cond, nat_eq, refl, sym, ap, subst, ◌∙◌}
use Rattle.assise_inode_table.proofs.Common.{nat_cmp_total, lookup, exact_unsigned, Effect, NewFile, NewDir, Write, SetLen, Link, Unlink, Free, touched_by}
use Rattle.assise_inode_table.proofs.Common.{Content, InodeMap, changed, with_value, applied, arith}
use Rattle.std.proofs.Common.{option_map}
use Rattle.std.specs.FinMap as map
use Rattle.assise_inode_table.proofs.Shared.MapView.{remove-absent, get-seen, insert-numbers}

-- what a look-up in the table found is what the map has
pub value_at : (m : InodeMap) (es : List (ℕ × Content)) (i k : ℕ) (found : Option Content)
    → map.from_entries es ≡ m → k ≡ i → found ≡ lookup (nat_eq k) es → map.get m i ≡ found
value_at m es i k found view key is = ap (map.get m) (sym key) ∙ get-seen es k view ∙ sym is

pub is_there : {X : Type 0} (x : X) (o : Option X) → Some x ≡ o → IsSome o
is_there x o e = subst IsSome e refl

-- what a change makes of a map of which the value of its inode is known
abbrev pub with_change : InodeMap → Effect → Option Content → InodeMap
with_change m e old = with_value m (touched_by e) (option_map (λ content. changed content e) old)

-- there is no such inode
pub change_none : (m : InodeMap) (es : List (ℕ × Content)) (e : Effect) (k : ℕ)
    → map.from_entries es ≡ m → k ≡ touched_by e → None ≡ lookup (nat_eq k) es
    → map.from_entries es ≡ with_change m e (map.get m (touched_by e))
change_none m es e k view key is = grind (arith, value_at, remove-absent, nat_cmp_total, exact_unsigned)

-- the inode that is there was changed in its place
pub change_some : (m : InodeMap) (es fs : List (ℕ × Content)) (e : Effect) (k : ℕ) (old new : Content)
    → map.from_entries es ≡ m → k ≡ touched_by e → Some old ≡ lookup (nat_eq k) es → new ≡ changed old e
    → ((q : ℕ) → lookup (nat_eq q) fs ≡ cond (nat_eq k q) (Some new) (lookup (nat_eq q) es))
    → map.from_entries fs ≡ with_change m e (map.get m (touched_by e))
change_some m es fs e k old new view key is step updates = grind
    (arith, insert-numbers es fs k new updates, value_at m es (touched_by e) k (Some old) view key is)

-- an effect that neither makes nor frees an inode
pub applied_change : (m : InodeMap) (e : Effect)
    → ((i : ℕ) → e ≡ NewFile i → ⊥) → ((i : ℕ) → e ≡ NewDir i → ⊥) → ((i : ℕ) → e ≡ Free i → ⊥) → with_change m e (map.get m (touched_by e)) ≡ applied m e
applied_change m (NewFile i) a b c = absurd (a i refl)
applied_change m (NewDir i) a b c = absurd (b i refl)
applied_change m (Free i) a b c = absurd (c i refl)
applied_change m (Write i patch) a b c = refl
applied_change m (SetLen i size) a b c = refl
applied_change m (Link d name i) a b c = refl
applied_change m (Unlink d name) a b c = refl

-- what holds anyway holds at an error
pub on_err : {T E : Type 0} (r : Result T E) (P : Type 0) → P → OnErr r P
on_err (Ok x) P p = tt
on_err (Err e) P p = p
