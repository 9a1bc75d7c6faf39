-- Inodes that lead nowhere: files and empty directories.
use Rattle.assise_inode_table.proofs.Common.{◌≡◌, ◌≢◌, ℕ, List, [], ◌∷◌, Some, is_some, Ok, Err, nat_cmp, refl, sym, ap, ◌∙◌, ok_or, slice_cmp, NoEnt, file}
use Rattle.assise_inode_table.proofs.Common.{dir, no_entries, at, ◌>>=◌, Path, then_ok, regular, directory, Links, Values, Children, children, reach, link_of}
use Rattle.assise_inode_table.proofs.Common.{folder, shape_of, shown_from, shown_in, SpellsFrom, arith}
use Rattle.std.specs.FinMap as map
use Rattle.assise_inode_table.proofs.Shared.DirectoryNames.{names_are_keys}

abbrev pub LeadsNowhere : Children → ℕ → Type 0
LeadsNowhere c i = (name : List ℕ) (j : ℕ) → c i name ≢ Ok j

pub ends : (c : Children) (i : ℕ) → LeadsNowhere c i → (q : Path) (j : ℕ) → reach c i q ≡ Ok j → q ≡ []
ends c i nowhere [] j e = refl
ends c i nowhere (name ∷ q) j e = let step = then_ok (c i name) (λ k. reach c k q) j e in absurd (nowhere name step.0 step.1)

pub alone : (c : Children) (i : ℕ) → LeadsNowhere c i → (q : Path) (j : ℕ) → reach c i q ≡ Ok j → j ≡ i
alone c i nowhere q j e = let none = ap (reach c i) (ends c i nowhere q j e) in cc

-- ---- a file
pub file_nowhere : (v : Values) (i : ℕ) (bytes : List ℕ) → v i ≡ Some (regular bytes) → LeadsNowhere (children v) i
file_nowhere v i bytes here name j e = let no = ap (λ o. link_of o name) here in cc

pub file_spells : (v : Values) (i : ℕ) (bytes : List ℕ) → v i ≡ Some (regular bytes) → SpellsFrom v i (file bytes)
unfolding at
file_spells v i bytes here = record {
  shows = shows;
  once = λ p q j e f. ends (children v) i (file_nowhere v i bytes here) p j e ∙ sym (ends (children v) i (file_nowhere v i bytes here) q j f);
}
  where
    shows : (q : Path) → shown_from v i q ≡ shown_in (file bytes) q
    shows [] = ap shape_of here
    shows (name ∷ q) = ap (λ o. (link_of o name >>= λ k. reach (children v) k q) >>= λ j. shape_of (v j)) here

-- ---- a directory without links
pub vacant_nowhere : (v : Values) (i : ℕ) (links : Links) → v i ≡ Some (directory links) → map.keys links ≡ [] → LeadsNowhere (children v) i
vacant_nowhere v i links here none name j e = grind (arith, map.contains_key-keys links name)

-- ---- the empty directory
no_keys : [] ≡ map.keys (map.empty {X = ℕ} {R = slice_cmp nat_cmp})
no_keys = names_are_keys no_entries map.empty tt (λ q. ap is_some (sym (map.get-empty (slice_cmp nat_cmp) q)))

no_link : (v : Values) (i : ℕ) → v i ≡ Some (directory map.empty) → (name : List ℕ) → children v i name ≡ Err NoEnt
no_link v i here name = ap (λ o. link_of o name) here ∙ ap (λ o. ok_or o NoEnt) (map.get-empty (slice_cmp nat_cmp) name)

pub empty_nowhere : (v : Values) (i : ℕ) → v i ≡ Some (directory map.empty) → LeadsNowhere (children v) i
empty_nowhere v i here name j e = let no = no_link v i here name in cc

pub empty_spells : (v : Values) (i : ℕ) → v i ≡ Some (directory map.empty) → SpellsFrom v i (dir no_entries)
unfolding at
empty_spells v i here = record {
  shows = shows;
  once = λ p q j e f. ends (children v) i (empty_nowhere v i here) p j e ∙ sym (ends (children v) i (empty_nowhere v i here) q j f);
}
  where
    shows : (q : Path) → shown_from v i q ≡ shown_in (dir no_entries) q
    shows [] = ap shape_of here ∙ ap (λ ks. Ok (folder ks)) (sym no_keys)
    shows (name ∷ q) = ap (λ o. (o >>= λ k. reach (children v) k q) >>= λ j. shape_of (v j)) (no_link v i here name)
