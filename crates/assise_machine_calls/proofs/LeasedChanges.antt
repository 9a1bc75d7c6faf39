-- What a call changes is leased, effect by effect.
use Rattle.assise_machine_calls.proofs.Common.{◌≡◌, ℕ, zero, suc, ◌+◌, ◌<◌, ◌≤◌, true, false, List, [], ◌∷◌, ◌++◌, length, take, slice_index_or, None, Some}
use Rattle.assise_machine_calls.proofs.Common.{refl, ap, sym, subst, ◌∙◌, take_more, Op, Write, Effect, touched_by, touched, Step, AreLeased, LeaseView}
use Rattle.assise_machine_calls.proofs.Common.{first_missing, for_writing, serves, KeepsRevokers, client_lease, Machine, CutsInvariant, ShapeInvariant}
use Rattle.assise_machine_calls.proofs.Common.{machine_of, value_of, GotLeases}
use Rattle.assise_inode_plan.proofs.Shared.WriteLeases.{LooksAt, all_leased, effect_lacks}
use Rattle.assise_machine_state.specs.declared.state.StateOf.{StateOf}

-- what the first k effects change is leased
abbrev pub LeasedBefore : LeaseView → List Effect → ℕ → Type 0
LeasedBefore leased es k = AreLeased leased (for_writing (touched (take k es)))

looks_at : (leased : LeaseView) (es : List Effect) (k : ℕ) → LeasedBefore leased es k → LooksAt leased es k
looks_at leased es zero all = refl
looks_at leased [] (suc k) all = refl
looks_at leased (e ∷ es) (suc k) all = rw all.0 (looks_at leased es k all.1)

-- the next is what is lacked first, if it is lacked
pub lacked_first : (leased : LeaseView) (es : List Effect) (k : ℕ) (e : Effect) →
    LeasedBefore leased es k → k < length es → e ≡ slice_index_or es k e → leased (touched_by e) Write ≡ false →
    first_missing leased (for_writing (touched es)) ≡ Some (touched_by e, Write)
lacked_first leased es k e all few is bare = effect_lacks leased es k e (looks_at leased es k all) few is bare

pub none_lacked : (leased : LeaseView) (es : List Effect) (k : ℕ) → LeasedBefore leased es k → length es ≤ k →
    first_missing leased (for_writing (touched es)) ≡ None
none_lacked leased es k all whole = all_leased leased es k (looks_at leased es k all) whole

push : (leased : LeaseView) (es : List Effect) (e : Effect) → AreLeased leased (for_writing (touched es)) → leased (touched_by e) Write ≡ true →
    AreLeased leased (for_writing (touched (es ++ e ∷ [])))
push leased [] e all got = (got, tt)
push leased (f ∷ fs) e all got = (all.0, push leased fs e all.1 got)

-- one is leased more
pub leased_more : (leased : LeaseView) (es : List Effect) (k : ℕ) (e : Effect) →
    LeasedBefore leased es k → k < length es → e ≡ slice_index_or es k e → leased (touched_by e) Write ≡ true →
    LeasedBefore leased es (k + 1)
leased_more leased es k e all few is got =
    subst (λ fs. AreLeased leased (for_writing (touched fs))) (sym (take_more es k e few ∙ ap (λ f. take k es ++ f ∷ []) (sym is)))
    (push leased (take k es) e all got)

-- what was leased before is still
pub still_leased : (old new : LeaseView) (es : List Effect) → ((i : ℕ) → old i Write ≡ true → new i Write ≡ true) →
    AreLeased old (for_writing (touched es)) → AreLeased new (for_writing (touched es))
still_leased old new [] kept all = tt
still_leased old new (e ∷ es) kept all = (kept (touched_by e) all.0, still_leased old new es kept all.1)

-- leases that are got after others
pub got_more : (m v m' : Machine) (c : ℕ) (op : Op) (s : Step) → GotLeases m c op s v → GotLeases v c op s m' → GotLeases m c op s m'
got_more m v m' c op s first then = record {
  fine = then.fine;
  holds = then.holds;
  visited = then.visited;
  kept = λ i may. then.kept i (first.kept i may);
  unrevoked = λ d i. then.unrevoked d i ∙ first.unrevoked d i;
  logs = λ d. then.logs d ∙ first.logs d;
  onward = λ a last e. first.onward a last (then.onward a last e);
}

-- the client got leases, and what the first k effects change is leased
pub record LeasesSoFar {C : Type 0} (old now : StateOf C) (c : ℕ) (op : Op) (s : Step) (es : List Effect) (k : ℕ) : Type 0 where
  pub got : GotLeases (machine_of old) c op s (machine_of now)
  pub leased : LeasedBefore (λ i mode. serves (client_lease (machine_of now).leases c i) mode) es k
  pub shape : ShapeInvariant (value_of now)
  pub noted : CutsInvariant (value_of now)
  pub revokers : KeepsRevokers old.leases now.leases
