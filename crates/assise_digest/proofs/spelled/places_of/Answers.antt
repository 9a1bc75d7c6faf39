use Rattle.assise_digest.proofs.Common.{◌≡◌, ◌≤◌, ℕ, ◌∷◌, ◌++◌, [], Option, Some, None, length, map, refl, sym, ap, ◌∙◌, arith, List, option_copied, length-map}
use Rattle.assise_digest.proofs.Common.{false≢true, Content, values, postorder, shape, targets}
use Rattle.std.specs.Prelude.{is_some}
use Rattle.assise_digest.proofs.PostorderTrees.{shapes_more, one_more}
use Rattle.assise_digest.proofs.Listed.{listed_as, listed_first, listed_next, next_is_there, not_more}
use Rattle.assise_digest.proofs.spelled.places_of.Goals as goal

pub loop-next-init : goal.loop-next-init
loop-next-init g c =
    listed_as (values (g.I.Inodes.contents c.args.inodes.now)) g.t (c.args.inode ∷ []) _ [] _ (listed_first _ g.t c.args.inode c.requires.1)
    (c.in_ok-push.ensures.items ∙ ap (λ xs. xs ++ c.args.inode ∷ []) c.new-pending.ensures.items) (ap (map shape) c.new-places.ensures.items)

pub unreachable-requires : goal.unreachable-requires
unreachable-requires g c =
    let v = values (g.I.Inodes.contents c.args.inodes.now) in
    let l = listed_as v g.t _ (c.pop.new.self.items ++ c.in-Some.next ∷ []) _ (map shape c.loop-next.places.items) c.loop-next.invariant
    (sym {A = List ℕ} c.in-Some.ensures.items) refl in
    let none : v c.in-Some.next ≡ None = sym {A = Option Content} c.get.ensures ∙ ap option_copied c.in_default-get.is in
    false≢true (sym (ap is_some none) ∙ next_is_there v g.t c.pop.new.self.items c.in-Some.next (map shape c.loop-next.places.items) l)

pub loop-next-preserved : goal.loop-next-preserved
loop-next-preserved g c =
    let v = values (g.I.Inodes.contents c.args.inodes.now) in
    let rest = c.pop.new.self.items in
    let places = map shape c.loop-next.places.items in
    let l = listed_as v g.t _ (rest ++ c.in-Some.next ∷ []) _ places c.loop-next.invariant (sym {A = List ℕ} c.in-Some.ensures.items) refl in
    let content = c.in-Some-get.found.now in
    let holds : v c.in-Some.next ≡ Some content = sym {A = Option Content} c.get.ensures ∙ ap option_copied c.in-Some-get.is in
    listed_as v g.t (rest ++ targets content) _ (places ++ shape c.in_ok-place.place ∷ []) _
    (listed_next v g.t rest c.in-Some.next places l content (shape c.in_ok-place.place) holds c.in_ok-place.ensures.place)
    c.in_ok-place.ensures.pending
    (shapes_more c.loop-next.places.items c.push-in-Some.new.self.items c.in_ok-place.place c.in_ok-push-2.ensures.items)

pub loop-next-smaller : goal.loop-next-smaller
loop-next-smaller g c =
    let v = values (g.I.Inodes.contents c.args.inodes.now) in
    let all : length (map shape c.push-in-Some.new.self.items) ≤ length (postorder g.t) = not_more v g.t _ _ (loop-next-preserved g c) in
    let one = one_more c.loop-next.places.items c.push-in-Some.new.self.items c.in_ok-place.place c.in_ok-push-2.ensures.items in
    omega (arith, all, one, length-map c.push-in-Some.new.self.items shape)
