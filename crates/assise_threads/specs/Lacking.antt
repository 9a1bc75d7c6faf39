-- Why no client is opened where there is no revoker for one.
use Rattle.std.specs.Prelude.{◌≡◌, ℕ, Option, None, Some}
use Rattle.assise_names.specs.declared.refusal.Refusal.{Refusal}
use Rattle.assise_names.specs.declared.refusal.Refusal.TheVariants.{BadClient, NodeDown, WrongPhase}
use Rattle.assise_model_events.specs.Faults.{node_fault}
use Rattle.assise_model_events.specs.Machine.{Machine}
use Rattle.assise_rounds.specs.Traces.{Told}

-- by the fault of the node
abbrev pub without_revoker : Option Refusal → Refusal
without_revoker None = BadClient
without_revoker (Some WrongPhase) = NodeDown
without_revoker (Some fault) = fault

-- an open on node n is refused so, and nothing changes
pub record LacksRevoker (n : ℕ) (r : Refusal) (m : Machine) (es : Told) (m' : Machine) : Type 0 where
  pub refusal : r ≡ without_revoker (node_fault m n)
  pub stays : m' ≡ m
