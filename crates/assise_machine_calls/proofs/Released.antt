-- Leases that went, and nodes that gave up theirs, are what the laws mean by a release.
use Rattle.assise_machine_calls.proofs.Common.{◌≡◌, ℕ, ◌≤◌, true, List, [], ◌∷◌, length, None, ap, sym, subst, ◌∙◌, append-nil, contains, IsIdle, World, Leases}
use Rattle.assise_machine_calls.proofs.Common.{client_lease, released, Freed, Frees, Releasing, is_ready, leases_freed, hot_capacities, observed, world_of}
use Rattle.assise_machine_calls.proofs.Common.{StateValue, leases_of, standings, FreesAmong, LetsSomeGo}
use Rattle.assise_model_events.specs.NodeEvents.Releasing.{is_released}

frees_in : (w v : World) (l : Leases) (fs : List Freed) → v.full ≡ w.full → Frees w l fs → Frees v l fs
frees_in w v l [] same frees = frees
frees_in w v l (f ∷ fs) same frees = (
  record { away = λ is. frees.0.away (subst (λ ns. contains ns f.node ≡ true) same is); idle = frees.0.idle; freed = frees.0.freed; cuts = frees.0.cuts },
  frees_in w v f.leases fs same frees.1,
)

module _ (s t u : StateValue) (many last : ℕ) (e : LetsSomeGo s many t) (f : FreesAmong t 1 last u) where
  same_full : (world_of s).full ≡ (world_of t).full
  unfolding world_of
  same_full = ap (λ v. (world_of v).full) (sym e.rest)

  -- where none is left that was ready, and all nodes were looked at
  pub all_released : last ≡ length (standings s) → ((c i : ℕ) → is_ready (world_of s) (leases_of s) c i ≡ true → client_lease (leases_of t) c i ≡ None) →
      Releasing (observed s) (released many) (observed u)
  unfolding observed leases_of
  all_released all none = is_released e.gone f.freed (ap released (sym e.count)) (record {
    releases = e.goes;
    none_left = λ c i ready. subst (λ l. client_lease l c i ≡ None) e.leases (none c i ready);
    frees = frees_in (world_of t) (world_of s) _ f.freed same_full (subst (λ l. Frees (world_of t) l f.freed) e.leases f.frees);
    all_freed = λ n node away idle i.
        f.all n node.0 (subst (λ k. n ≤ k) (sym all) node.1) (λ full. away (subst (λ ns. contains ns n ≡ true) (sym same_full) full))
        (subst (λ l. IsIdle l.levels n) (sym e.leases) idle) i;
    world = f.world ∙ e.world;
    leases = f.leases ∙ ap (λ l. leases_freed l f.freed) e.leases;
    adds = record {
      history = ap (λ v. v.history) f.rest ∙ ap (λ v. v.history) e.rest ∙ sym (append-nil s.history);
      limit = ap (λ v. v.limit) f.rest
          ∙ ap (λ v. v.limit) e.rest;
      hot = ap (λ v. hot_capacities v.nodes) f.rest ∙ ap (λ v. hot_capacities v.nodes) e.rest;
    };
    members = ap (λ v. v.members) f.rest ∙ ap (λ v. v.members) e.rest;
  })
