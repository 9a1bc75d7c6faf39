-- What the proofs of this crate name most.
pub use Rattle.std.proofs.Common.{◌≡◌, ◌≤◌, ◌<◌, ◌+◌, ◌-◌, ℕ, inl, inr, Bool, true, false, cond, Some, None, refl, sym, ap, ◌∙◌, eqb, nat_eq, is_some, arith}
pub use Rattle.std.proofs.Common.{zero, suc, [], ◌∷◌, ◌++◌, length, take, Option, IsSome, subst, option_to_list, option_map, List, ◌||◌, drop, get_or}
pub use Rattle.std.proofs.Common.{true≢false, take_all, Result, Ok, Err, OnOk, OnErr, rules, tests}
pub use Rattle.std.proofs.lemmas.Bool.{cases_lt, eqb-true, cond_both, eq-eqb, false_from_ne_true, or_parts, or_from}
pub use Rattle.std.proofs.lemmas.List.{length-take-le, take-append-drop, take_more, length-map}
pub use Rattle.std.proofs.lemmas.Map.{lookup-set_value, lookup-remove_entry, keys-set_value}
pub use Rattle.std.proofs.lemmas.Map.Steps.{set_value_same}
pub use Rattle.std.specs.Cmp.{nat_cmp_total, nat_eq_equiv}
pub use Rattle.std.specs.List.{AllByRecursion, slice_get, list_any}
unfoldable pub use Rattle.std.specs.List.{IsDistinct}
pub use Rattle.std.specs.Map.{lookup_entry, keys_of, remove_entry, set_value}
pub use Rattle.std.specs.Option.{option_or, option_map_or}
pub use Rattle.std.specs.Ordering.{nat_cmp}
pub use Rattle.assise_area.specs.Hot.{AreaValue, with_capacity, IsTouched, after_use, used, without_number, is_hot, with_inodes, removed}
pub use Rattle.assise_area.specs.Parts.{Entries, value_in, HoldSame, IsPushed, IsWarmed, hot_at, cold_at, AreWritten, IsCooled, both_parts, area_seen}
pub use Rattle.assise_area.specs.Parts.{AreaInvariant}
unfoldable pub use Rattle.assise_area.specs.Parts.{AreDisjoint}
pub use Rattle.assise_inode_table.proofs.Shared.LiveSlots.{lookup-append, or_none, or_cond}
pub use Rattle.assise_inode_table.proofs.Shared.MapView.{alike}
pub use Rattle.assise_inode_table.proofs.Shared.TableView.{on_err, is_there}
pub use Rattle.assise_inode_table.specs.Contents.{Content, InodeMap, regular}
pub use Rattle.assise_inode_table.specs.Effects.{with_value, AsksForMemory, changed}
pub use Rattle.indexmap.specs.IndexMap.{spare}
pub use Rattle.lru.specs.LruCache.{LruCache, IsValid, lru_cache, promoted}
