use Rattle.assise_inode_table.proofs.Common.{◌≡◌, IfOk, IfErr, ◌∙◌, sym, ap, subst, length, rules, nat_cmp, arc_value, keys_of, slice_cmp, IsStrictlySortedBy}
use Rattle.assise_inode_table.proofs.Common.{IsSearchInRange, IsBinarySearchResult, IsSlotOf, IsGapFor}
use Rattle.assise_inode_table.proofs.PieceChanges.{keys-side}
use Rattle.assise_inode_table.proofs.PieceLinks.{names_few}
use Rattle.assise_inode_table.proofs.PieceSearch.{search_found, search_missed}
use Rattle.assise_inode_table.proofs.piece.Piece.find.Goals as goal
use Rattle.assise_inode_table.proofs.piece.Piece.find.Goals.{After-binary_search}

-- what the search among the names says
searched : (c : After-binary_search) → let ns = (arc_value c.self.inside.names).items in
    IsSearchInRange c.binary_search.result (length ns) × IsBinarySearchResult (λ y. slice_cmp nat_cmp y c.args.name.now) ns c.binary_search.result
searched c =
    let names : c.as_slice.result.now ≡ (arc_value c.self.inside.names).items = search rules in (
      subst (λ xs. IsSearchInRange c.binary_search.result (length xs)) names c.binary_search.ensures.bound,
      subst (λ xs. IsBinarySearchResult (λ y. slice_cmp nat_cmp y c.args.name.now) xs c.binary_search.result) names c.binary_search.ensures.position,
    )

pub returns-clause-found : goal.returns-clause-found
returns-clause-found c =
    let by = searched (goal.at.returns-clause-found c).After-binary_search in
    subst (λ slots. IfOk c.binary_search.result (IsSlotOf c.args.name.now slots)) c.self.view_is
    (search_found c.args.name.now _ _ (names_few c.self.invariant) c.binary_search.result by.0 by.1)

pub returns-clause-absent : goal.returns-clause-absent
returns-clause-absent c =
    let by = searched (goal.at.returns-clause-absent c).After-binary_search in
    let few = names_few c.self.invariant in
    subst (λ slots. IfErr c.binary_search.result (IsGapFor c.args.name.now slots)) c.self.view_is
    (search_missed c.args.name.now _ _ few c.binary_search.result
    (subst (IsStrictlySortedBy (slice_cmp nat_cmp)) (ap keys_of (sym c.self.view_is) ∙ keys-side _ _ few) c.requires) by.0 by.1)
