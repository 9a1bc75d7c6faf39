-- An unlink of another name doesn't make a link of no account.
use Rattle.assise_inode_table.proofs.Common.{◌≡◌, Bool, true, false, List, [], ◌∷◌, Option, Some, None, is_some, ap, sym, ◌∙◌, false≢true, slice_cmp, arith}
use Rattle.assise_inode_table.proofs.Common.{nat_list_cmp_total, Effect, Link, Unlink, Content, Links, regular, directory, value_after, SameNetEffect}
use Rattle.std.specs.FinMap as map
use Rattle.std.specs.Ordering.{nat_cmp}
use Rattle.assise_inode_table.specs.WrongRule.{wrongly_coalesced}

-- a link of the name a, and an unlink of the name b
both : List Effect
both = Link 0 (97 ∷ []) 5 ∷ (Unlink 0 (98 ∷ []) ∷ [])

has_a : Option Content → Bool
has_a None = false
has_a (Some (regular bytes)) = false
has_a (Some (directory links)) = is_some (map.get links (97 ∷ []))

none : Links
none = map.empty

right : has_a (value_after 0 (Some (directory none)) both) ≡ true
unfolding has_a both
right = grind (arith, map.get-remove, nat_list_cmp_total, map.get-insert)

wrong : has_a (value_after 0 (Some (directory none)) (wrongly_coalesced both)) ≡ false
unfolding has_a both none
wrong = ap is_some (map.get-remove nat_list_cmp_total none (98 ∷ []) (97 ∷ []) ∙ map.get-empty (slice_cmp nat_cmp) (97 ∷ []))

pub wrong_net : ((es : List Effect) → SameNetEffect (wrongly_coalesced es) es) → ⊥
wrong_net h = false≢true (sym wrong ∙ ap has_a (h both 0 (Some (directory none))) ∙ right)
