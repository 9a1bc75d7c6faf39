-- Inodes that are put in place of what their numbers had, one after the other.
use Rattle.assise_area.proofs.Common.{◌≡◌, ◌≤◌, ◌<◌, ◌+◌, ◌-◌, ℕ, Bool, true, false, cond, Some, None, refl, sym, ap, ◌∙◌, eqb, nat_eq, is_some, arith}
use Rattle.assise_area.proofs.Common.{eqb-true, nat_cmp_total, option_or, Content, InodeMap, alike, Entries, value_in}
use Rattle.std.specs.FinMap as map
use Rattle.assise_area.proofs.Shared.Seen.{turned}

-- where one is there, there are some
pub some_there : (m : InodeMap) (k : ℕ) (v : Content) → map.get m k ≡ Some v → 0 < map.len m
some_there m k v there = grind (arith, map.empty_of_len, map.get-empty)

-- one of those that are still to come
module _ (all rest : InodeMap) (k : ℕ) (v : Content) (there : map.get all k ≡ Some v) (others : rest ≡ map.remove all k) where
  one_less : map.len rest ≡ map.len all - 1
  one_less = ap map.len others ∙ map.len-remove nat_cmp_total all k ∙ ap (λ o. cond (is_some o) (map.len all - 1) (map.len all)) there

  pub fewer : map.len rest < map.len all
  fewer = omega (arith, one_less, some_there all k v there)

  -- each takes one place at most
  pub room_left : (n m : ℕ) → map.len all ≤ n → n ≤ m + 1 → map.len rest ≤ m
  room_left n m within step = omega (arith, within, step, one_less)

  -- once it is put, the others and what is held then are as all of them and what was held
  pub put_next : (hot cold hot' cold' : Entries) → ((q : ℕ) → value_in hot' cold' q ≡ cond (nat_eq k q) (Some v) (value_in hot cold q))
      → (q : ℕ) → option_or (map.get rest q) (value_in hot' cold' q) ≡ option_or (map.get all q) (value_in hot cold q)
  put_next hot cold hot' cold' values q =
      ap (option_or (map.get rest q)) (values q ∙ ap (λ b. cond b (Some v) (value_in hot cold q)) (turned k q))
      ∙ ap (λ o. option_or o (cond (eqb q k) (Some v) (value_in hot cold q)))
      (ap (λ m. map.get m q) others ∙ map.get-remove nat_cmp_total all k q ∙ ap (λ b. cond b None (map.get all q)) (alike q k))
      ∙ go (eqb q k) refl
    where
      go : (b : Bool) → eqb q k ≡ b → option_or (cond b None (map.get all q)) (cond b (Some v) (value_in hot cold q)) ≡ option_or (map.get all q)
          (value_in hot cold q)
      go true h = sym (ap (λ o. option_or o (value_in hot cold q)) (ap (map.get all) (eqb-true q k h) ∙ there))
      go false h = refl
