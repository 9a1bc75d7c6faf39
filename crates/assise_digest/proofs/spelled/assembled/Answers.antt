use Rattle.assise_digest.proofs.Common.{◌≡◌, ◌∷◌, [], length, map, reverse, sym, ap, ◌∙◌, append-nil, arith, same_from_push, postorder, shape}
use Rattle.assise_digest.proofs.Forests.{enough}
use Rattle.assise_digest.proofs.PostorderTrees.{opened, closed, whole_tree}
use Rattle.assise_digest.proofs.spelled.assembled.Goals as goal

pub grown-requires : goal.grown-requires
grown-requires g c =
    enough (map shape c.pop.new.self.items) (shape c.in-Some.place) c.loop-place.trees.items (g.t ∷ [])
    (opened c.loop-place.places.items c.pop.new.self.items c.in-Some.place c.loop-place.trees.items (postorder g.t) c.in-Some.ensures.items
    c.loop-place.invariant ∙ sym (append-nil (postorder g.t)))

pub loop-place-preserved : goal.loop-place-preserved
loop-place-preserved g c =
    let taken = c.in_ok-tree.ensures.tree in
    closed c.loop-place.trees.items c.grown.new.trees.items c.push.new.self.items c.in_ok-tree.tree (shape c.in-Some.place)
    (reverse (map shape c.pop.new.self.items)) (postorder g.t)
    taken.taken taken.is c.in_ok-push.ensures.items
    (opened c.loop-place.places.items c.pop.new.self.items c.in-Some.place c.loop-place.trees.items (postorder g.t) c.in-Some.ensures.items
    c.loop-place.invariant)

pub unreachable-requires : goal.unreachable-requires
unreachable-requires g c =
    let none : length c.loop-place.places.items ≡ 0 = omega (arith, c.loop-place.places.ok.0, c.in_default.ensures.cases) in
    let one : c.loop-place.trees.items ≡ g.t ∷ [] = whole_tree c.loop-place.places.items c.loop-place.trees.items g.t none c.loop-place.invariant in
    omega (arith, ap length one, c.loop-place.trees.ok.0, c.in_default-pop.ensures.cases)

pub returns : goal.returns
returns g c = record {
  tree =
      let none : length c.loop-place.places.items ≡ 0 = omega (arith, c.loop-place.places.ok.0, c.in_default.ensures.cases) in
      let one : c.loop-place.trees.items ≡ g.t ∷ [] = whole_tree c.loop-place.places.items c.loop-place.trees.items g.t none c.loop-place.invariant in
      (same_from_push c.pop-2.new.self.items [] c.in-Some-pop.tree g.t (sym c.in-Some-pop.ensures.items ∙ one)).1;
}
