use Rattle.assise_digest.proofs.Common.{◌≡◌, ◌∙◌, IsSome, None, sym, get-seen, insert-seen, is_there}
use Rattle.std.specs.FinMap as map
use Rattle.assise_digest.proofs.numbers.Numbers.set.Goals as goal

pub returns : goal.returns
returns c =
    let held = (c.get_mut.follows.holds c.args.number).3 (is_there c.in-Some.known.now _ c.in-Some.ensures.value) in
    insert-seen _ (c.get_mut.follows.lender c.args.number).entries c.args.inode c.args.number c.self.view_is held.0

pub unreachable-requires : goal.unreachable-requires
unreachable-requires c =
    let none : map.get c.args.self.now c.args.inode ≡ None = get-seen _ c.args.inode c.self.view_is ∙ sym c.in_default.ensures.value in
    let no : IsSome (map.get c.args.self.now c.args.inode) = c.requires.there in
    absurd (let lost = rw none at no in cc)
