use Rattle.assise_names.proofs.Common.{◌≡◌, ◌∷◌, ◌++◌, [], ℕ, List, Result, Ok, Err, IfOk, nat_cmp, ◌∙◌, ap, ap₂, sym, subst, append-nil, slice_cmp}
use Rattle.assise_names.proofs.Common.{IsStrictlySortedBy, keys_of}
use Rattle.std.proofs.lemmas.List.{append_assoc}
use Rattle.std.specs.declared.alloc.AllocError.{AllocError}
use Rattle.assise_names.proofs.name_list.NameList.of_keys.Goals as goal

pub loop-name-init : goal.loop-name-init
loop-name-init g c = ap₂ (λ xs ys. xs ++ ys) c.in_ok-names.ensures.items (c.into_iter-name-iterator.ensures.into_iter_gives ∙ c.keys-name-items.ensures.rest)

pub loop-name-preserved : goal.loop-name-preserved
loop-name-preserved g c =
    ap (λ ns. ns ++ c.next.new.self) (c.in_ok-push.ensures.items ∙ ap (λ n. c.loop-name.names.items ++ n ∷ []) c.in_ok-copy.ensures.equal)
    ∙ append_assoc c.loop-name.names.items (c.in-Some.name.now ∷ []) c.next.new.self
    ∙ ap (λ ns. c.loop-name.names.items ++ ns) (sym c.in-Some.ensures.steps) ∙ c.loop-name.invariant

-- the names that are made are these
made : (r : Result (List (List ℕ)) AllocError) (names keys : List (List ℕ)) → IfOk r (λ list. list ≡ names) → names ≡ keys → IfOk r (λ list. list ≡ keys)
made (Ok list) names keys is same = is ∙ same
made (Err error) names keys is same = tt

sorted : (r : Result (List (List ℕ)) AllocError) (keys : List (List ℕ)) → IfOk r (λ list. list ≡ keys) → IsStrictlySortedBy (slice_cmp nat_cmp) keys →
    IfOk r (IsStrictlySortedBy (slice_cmp nat_cmp))
sorted (Ok list) keys is ascend = subst (IsStrictlySortedBy (slice_cmp nat_cmp)) (sym is) ascend
sorted (Err error) keys is ascend = tt

pub from_vec-requires : goal.from_vec-requires
from_vec-requires g c =
    let all = sym (append-nil c.loop-name.names.items) ∙ ap (λ ns. c.loop-name.names.items ++ ns) (sym c.in-None.ensures.steps.0) ∙ c.loop-name.invariant in
    record { ascending = subst (IsStrictlySortedBy (slice_cmp nat_cmp)) (sym all) c.keys-name-items.ensures.ordered }

pub returns-clause-keys : goal.returns-clause-keys
returns-clause-keys g c =
    let all = sym (append-nil c.loop-name.names.items) ∙ ap (λ ns. c.loop-name.names.items ++ ns) (sym c.in-None.ensures.steps.0) ∙ c.loop-name.invariant in
    made c.from_vec.result c.loop-name.names.items (keys_of c.args.map.now.entries) c.from_vec.ensures.names all

pub returns-clause-ascending : goal.returns-clause-ascending
returns-clause-ascending g c = sorted c.from_vec.result (keys_of c.args.map.now.entries) (returns-clause-keys g c) c.keys-name-items.ensures.ordered
