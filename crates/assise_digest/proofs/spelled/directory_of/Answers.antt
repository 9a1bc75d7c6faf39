use Rattle.assise_digest.proofs.Common.{◌≡◌, ◌∷◌, ◌++◌, [], ◌<◌, length, arith, sym, ap, ◌∙◌, append_assoc, dir, entry, names_of, put, subtrees_of}
use Rattle.assise_digest.proofs.DirectoryGrowth.{grows, some_left}
use Rattle.assise_digest.proofs.spelled.directory_of.Goals as goal

pub unreachable-requires : goal.unreachable-requires
unreachable-requires c =
    let i = c.loop-name.invariant in
    let some : 0 < length c.loop-name.trees.items = some_left i.0 c.args.names.now c.loop-name.rest.now c.args.trees.now.items c.loop-name.trees.items i.2 i.3
    c.requires (omega (arith, c.in-Some.ensures.cases.1)) in
    omega (arith, c.in_default-pop.ensures.len, c.in_default-pop.ensures.cases)

pub loop-name-preserved : goal.loop-name-preserved
loop-name-preserved c =
    let i = c.loop-name.invariant in
    let name = c.in-Some.name.now in
    let before = c.in-Some.before.now in
    let names : before ++ name ∷ names_of i.0 ≡ c.args.names.now = sym (append_assoc before (name ∷ []) (names_of i.0))
    ∙ ap (λ rest. rest ++ names_of i.0) (sym c.in-Some.ensures.cases.0) ∙ i.2 in
    let tree : c.insert.new.self ≡ dir (entry name c.in-Some-pop.subtree i.0) = c.in_ok-insert.ensures.ok
    ∙ ap (λ u. put u (c.in_ok-copy.field-0 ∷ []) c.in-Some-pop.subtree) i.1
    ∙ ap (λ key. put (dir i.0) (key ∷ []) c.in-Some-pop.subtree) c.in_ok-copy.ensures.equal ∙ grows c.args.names.now before name i.0 c.in-Some-pop.subtree
    c.as_slice-rest.ensures.ascending names in (
      entry name c.in-Some-pop.subtree i.0,
      tree,
      names,
      sym (append_assoc c.pop.new.self.items (c.in-Some-pop.subtree ∷ []) (subtrees_of i.0))
          ∙ ap (λ trees. trees ++ subtrees_of i.0) (sym c.in-Some-pop.ensures.items) ∙ i.3,
    )
