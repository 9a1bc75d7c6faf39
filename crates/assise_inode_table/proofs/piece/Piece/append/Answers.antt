use Rattle.assise_inode_table.proofs.Common.{◌≡◌, ◌≤◌, ◌+◌, ◌-◌, ◌∙◌, ◌++◌, sym, ap, ap₂, length, arith, rules, zip, take, arc_value, put_mid, links_or_none}
use Rattle.assise_inode_table.proofs.PieceLinks.{slots_count, append_links}
use Rattle.assise_inode_table.proofs.piece.Piece.append.Goals as goal

pub slice_bounds-copy_from_slice-end : goal.slice_bounds-copy_from_slice-end
slice_bounds-copy_from_slice-end c =
    let own = slots_count c.self.invariant c.self.view_is in
    let others = slots_count c.other.invariant c.other.view_is in
    let names : c.len-len.result ≡ length (arc_value c.self.inside.names).items = search (arith, rules) in
    let more : c.len-count.result ≡ length (arc_value c.other.inside.names).items = search (arith, rules) in
    omega (arith, own, others, names, more, c.requires)

pub returns-clause-ok : goal.returns-clause-ok
returns-clause-ok c =
    let ns = (arc_value c.self.inside.names).items in
    let ms = (arc_value c.other.inside.names).items in
    let ls = c.self.inside.links in
    let gs = c.self.inside.gone in
    let ks = c.other.inside.links in
    let hs = c.other.inside.gone in
    let at = c.len-len.result in
    let w = at + c.len-count.result - at in
    let own : at ≡ length ns = search (arith, rules) in
    let more : c.len-count.result ≡ length ms = search (arith, rules) in
    let same : c.len-count.result ≡ w = omega arith in
    let front : c.as_slice.result.now ≡ ns = search rules in
    let back : c.as_slice-2.result.now ≡ ms = search rules in
    let few : length ns ≤ length ls = omega (arith, c.self.invariant.few, c.self.invariant.room) in
    let some : length ms ≤ length ks = omega (arith, c.other.invariant.few, c.other.invariant.room) in
    let links = links_or_none (put_mid at w ls c.copy_from_slice.new.self) (put_mid at w gs c.copy_from_slice-2.new.self) in
    ap (λ v. zip v.items links) c.in_ok-self-inside.ensures.ok
    ∙ ap (λ xs. zip xs links) (c.in_ok-names.ensures ∙ ap₂ (λ xs ys. xs ++ ys) front back)
    ∙ ap₂ (λ xs ys. zip (ns ++ ms) (links_or_none (put_mid at w ls xs) (put_mid at w gs ys)))
    (c.copy_from_slice.ensures.after ∙ ap (λ n. take n ks) same) (c.copy_from_slice-2.ensures.after ∙ ap (λ n. take n hs) same)
    ∙ append_links at w ns ms ls ks gs hs (c.self.invariant.gone_room ∙ sym c.self.invariant.room)
    (c.other.invariant.gone_room ∙ sym c.other.invariant.room) few some own (sym same ∙ more)
    ∙ ap₂ (λ xs ys. xs ++ ys) c.self.view_is c.other.view_is
