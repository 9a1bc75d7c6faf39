use Rattle.assise_digest.proofs.Common.{◌&&◌, ◌∙◌, ap, is_some, nat_eq, not, sym, list_any, get-seen}
use Rattle.std.specs.FinMap as map
use Rattle.assise_digest.proofs.MovedInodes.{any_key, found_or_left}
use Rattle.assise_digest.proofs.numbers.Numbers.beyond.Goals as goal

pub loop-inode-init : goal.loop-inode-init
loop-inode-init c = λ i.
    ap (λ xs. found_or_left (λ k. not (is_some (map.get c.args.inodes.now k))) xs c.into_iter-inode-iterator.result i) c.new-beyond.ensures.items
    ∙ ap (λ ks. list_any (nat_eq i) ks && not (is_some (map.get c.args.inodes.now i)))
    (c.into_iter-inode-iterator.ensures.into_iter_gives ∙ c.keys-inode-items.ensures.rest)
    ∙ ap (λ b. b && not (is_some (map.get c.args.inodes.now i)))
    (any_key c.self.inside.numbers.entries i ∙ ap is_some (sym (get-seen _ i c.self.view_is)))
