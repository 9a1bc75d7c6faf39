use Rattle.assise_names.proofs.Common.{◌≡◌, ◌<◌, true, nat_lt, length, arith, nat_tests}
use Rattle.assise_names.proofs.Prefixes.{Begins, from_tests, to_tests}
use Rattle.assise_names.proofs.path.Path.is_front_of.Goals as goal

pub returns-then-names-others-clause-exact : goal.returns-then-names-others-clause-exact
returns-then-names-others-clause-exact c =
    let p = c.args.self.now in
    let q = c.args.other.now in
    let begun : Begins c.starts_with.result q p = rw (c.names-names.ensures.names, c.names-others.ensures.names) at c.starts_with.ensures.value in
    let shorter : length p < length q = rw (c.names-names.ensures.names, c.names-others.ensures.names) at c.if-names-others.true in
    let test : nat_lt (length p) (length q) ≡ true = grind (arith, nat_tests) in
    rw test begun

pub returns-then-names-others-clause-prefix : goal.returns-then-names-others-clause-prefix
returns-then-names-others-clause-prefix c =
    let p = c.args.self.now in
    let q = c.args.other.now in
    let begun : Begins c.starts_with.result q p = rw (c.names-names.ensures.names, c.names-others.ensures.names) at c.starts_with.ensures.value in
    let shorter : length p < length q = rw (c.names-names.ensures.names, c.names-others.ensures.names) at c.if-names-others.true in
    (from_tests p q c.starts_with.result shorter begun, to_tests p q c.starts_with.result begun)
