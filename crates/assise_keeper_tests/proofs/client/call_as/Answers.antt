use Rattle.assise_keeper_tests.proofs.Common.{rules, ◌≡◌, List, [], ◌∷◌, ◌++◌, sym, refl, subst, Option, ℕ, EntryValue, ExtendsByOne, calls_of, seen}
use Rattle.assise_keeper_tests.proofs.Common.{extends_by_one, made}
use Rattle.assise_keeper_tests.proofs.client.call_as.Goals as goal

pub returns-in-Ok-clause-called : goal.returns-in-Ok-clause-called
returns-in-Ok-clause-called g c = let took = c.take-held.ensures in
    let e : seen c.give.new.pass ≡ c.take-held.result.history.events ++ made c.args.caller c.in-Ok.number ∷ [] = search rules in
    let same = subst (λ (o : Option ℕ). calls_of o c.take-held.result.history.events ≡ calls_of o (seen c.args.pass.now)) c.requires.1 took.mine in
    subst (λ (z : List EntryValue). ExtendsByOne c.args.caller (seen c.args.pass.now) z (made c.args.caller c.in-Ok.number)) (sym e)
    (extends_by_one _ _ _ _ refl took.extends same)
