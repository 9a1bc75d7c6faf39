use Rattle.assise_inode_table.proofs.Common.{◌++◌, ◌∙◌, sym, ap, subst, nat_cmp, keys_of, slice_cmp, IsStrictlySortedBy, take_all, IfOk-weaker, live, slots_in}
use Rattle.std.specs.FinMap as map
use Rattle.assise_inode_table.proofs.PieceSlots.{listed_pieces, listed_all, listed_sorted}
use Rattle.assise_inode_table.proofs.directory.Directory.names.Goals as goal

pub loop-piece-preserved : goal.loop-piece-preserved
loop-piece-preserved c =
    c.in_ok-list.ensures.ok ∙ ap (λ ks. ks ++ keys_of (live c.piece-item.result)) c.loop-piece.invariant
    ∙ sym (listed_pieces c.deref-piece-items.result.now c.loop-piece.piece-index c.piece-item.result c.loop-piece-test.true c.piece-item.is)

pub from_vec-requires : goal.from_vec-requires
from_vec-requires c =
    let all = c.loop-piece.invariant
    ∙ ap (λ ps. keys_of (live (slots_in ps))) (take_all c.loop-piece.piece-index c.deref-piece-items.result.now c.loop-piece-test.false
    ∙ c.deref-piece-items.ensures.value) in
    record { ascending = subst (IsStrictlySortedBy (slice_cmp nat_cmp)) (sym all) (listed_sorted c.self.inside.pieces.items c.self.invariant.ascend) }

pub returns : goal.returns
returns c = record {
  names =
      let all = c.loop-piece.invariant
      ∙ ap (λ ps. keys_of (live (slots_in ps))) (take_all c.loop-piece.piece-index c.deref-piece-items.result.now c.loop-piece-test.false
      ∙ c.deref-piece-items.ensures.value) in
      IfOk-weaker c.from_vec.result _ _ (λ names e. e ∙ all ∙ sym (listed_all c.self.inside.pieces.items c.self.invariant.ascend) ∙ ap map.keys c.self.view_is)
      c.from_vec.ensures.names;
}
