-- What a keeper's cluster is renewed from.
-- Assise (OSDI 2020), section 3 (prefix crash consistency: what is replicated is a prefix of each client's calls).
use Rattle.std.specs.Prelude.{◌≡◌, Option, None, Some}
use Rattle.assise_keeper.specs.declared.pass.Pass.{Pass}
use Rattle.assise_keeper.specs.Clients.{Extends}
use Rattle.assise_keeper.specs.Passes.{last, seen}
use Rattle.assise_keeper.specs.Rule.{IsLed}
use Rattle.assise_machine.specs.declared.cluster.ClusterOf.{ClusterOf}
use Rattle.assise_machine.specs.Clusters.{machine}
use Rattle.assise_machine.specs.Following.{IsLedTo}
use Rattle.assise_renewal.specs.declared.renewal.Sizes.{Sizes}
use Rattle.assise_renewal.specs.Led.{IsDsync, IsLedBy}
use Rattle.assise_renewal.specs.Renewal.{IsRenewed, tree_kept}

module _ {C : Type 0} where
  -- what the keeper of the pass kept at its end: events led to it from what the pass had seen last, and its history goes on from there
  pub record IsKeptFor (pass : Pass (ClusterOf C)) (old : ClusterOf C) : Type 0 where
    pub led : IsLed (λ s t. IsLedTo (machine s) (machine t)) (last pass) (Some old)
    pub extends : Extends (machine old).history (seen pass)

  -- such a cluster was renewed, and this is the new one
  pub record IsRenewedFor (pass : Pass (ClusterOf C)) (sizes : Sizes) (new : ClusterOf C) : Type 0 where
    pub old : ClusterOf C
    pub kept : IsKeptFor pass old
    pub renewed : IsRenewed (tree_kept old) sizes new

  -- the same of what a pass has seen last
  abbrev pub IsLastRenewed : Pass (ClusterOf C) → Sizes → Option (ClusterOf C) → Type 0
  IsLastRenewed pass sizes None = ⊥
  IsLastRenewed pass sizes (Some new) = IsRenewedFor pass sizes new

  -- such a cluster comes back: its clients made dsyncs, with rounds, and its tree is what it was
  pub record IsGivenBack (pass : Pass (ClusterOf C)) (back : ClusterOf C) : Type 0 where
    pub old : ClusterOf C
    pub kept : IsKeptFor pass old
    pub settles : IsLedBy IsDsync (machine old) (machine back)
    pub stays : tree_kept back ≡ tree_kept old
