-- What the laws observe of a goal that is raised.
use Rattle.assise_machine_state.proofs.Common.{◌≡◌, ℕ, ◌≤◌, List, max, refl, arith, eq-eqb, cases_eq, ne_eqb, RaisesGoals, World, end_of_log, after_goal}
use Rattle.assise_machine_state.proofs.Common.{goal_of, ClientValue, client_in, with_client, with_goal, world_of, IsNumber, ShapeInvariant, StateValue}
use Rattle.assise_machine_state.proofs.Shared.ItemSeen.{client_else, client_here, client_same}
use Rattle.assise_machine_state.proofs.Shared.ShapedClients.{Remain, clients_stay, logs_stay, nodes_stay, one_remains, still_shaped}
use Rattle.assise_machine_state.proofs.SameObserved.{leases_as}

module _ (s : StateValue) (c to : ℕ) (there : IsNumber s.clients c) where
  abbrev now : ClientValue
  now = with_goal to (client_in s.clients c)

  abbrev w : World
  w = world_of s

  abbrev w' : World
  w' = world_of (after_goal s c to)

  abbrev cs : List ClientValue
  cs = with_client s.clients c now

  remain : Remain s.clients cs
  remain = one_remains s.clients c now refl refl refl refl refl

  goals : (d : ℕ) → (client_in cs d).goal ≡ max (client_in s.clients d).goal (goal_of c to d)
  goals d = grind (arith, cases_eq, eq-eqb, client_here, ne_eqb, client_else)

  low : to ≤ end_of_log w c → (d : ℕ) → goal_of c to d ≤ end_of_log w d
  low known d = grind (arith, cases_eq, eq-eqb, ne_eqb)

  pub goal_raised : to ≤ end_of_log w c → RaisesGoals w (goal_of c to) w'
  unfolding world_of
  goal_raised known = record {
    there = low known;
    logs = logs_stay s cs s.levels s.cuts s.history remain refl;
    clients = clients_stay s cs s.levels s.cuts s.history remain (client_same (λ x. x.crashed) s.clients c now refl);
    nodes = nodes_stay s cs s.levels s.cuts s.history;
    leases = leases_as s (after_goal s c to) (λ i. refl);
    goals = goals;
  }

  pub goal_shaped : ShapeInvariant s → ShapeInvariant (after_goal s c to)
  goal_shaped shape = still_shaped s cs s.levels s.cuts s.history remain (λ d. refl) shape
