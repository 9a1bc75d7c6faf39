-- What a failure of a node lists.
-- Assise (OSDI 2020), section 3 (prefix crash consistency, fail-over).
use Rattle.std.specs.Prelude.{◌≡◌, ◌≢◌, ℕ, zero, suc, ◌<◌, ◌≤◌, Bool, true, nat_lt, if◌then◌else◌, List, [], ◌∷◌, ◌++◌}
use Rattle.assise_history.specs.declared.call.Loss.{Loss}
use Rattle.assise_model_world.specs.World.{World, Full, end_of_log, call_at}
use Rattle.assise_model_world.specs.NodeSteps.{kept_at_failure}

-- the failure of node n cuts some of the client's records
abbrev pub is_cut : World → ℕ → ℕ → Bool
is_cut w n c = nat_lt (kept_at_failure w n c) (end_of_log w c)

-- each client from 1 to m of which it cuts records, with the call of the first of these
abbrev pub losses_to : World → ℕ → ℕ → List Loss
losses_to w n zero = []
losses_to w n (suc m) = losses_to w n m ++ (if is_cut w n (suc m) then record { client = suc m; first = call_at w (suc m) (kept_at_failure w n (suc m)) } ∷ [] else [])

-- what the failure of node n lists
abbrev pub losses_of : World → ℕ → List Loss
losses_of w n = losses_to w n w.clients

-- the client lives on node n, and this is the call of its first record that some other full node lacks
pub record IsFirstLost (w : World) (n : ℕ) (l : Loss) : Type 0 where
  pub lives : w.lives l.client ≡ true
  pub home : w.home l.client ≡ n
  -- a full node that has no more of the client's records than any other that is left, and not all of them
  pub least : ℕ
  pub other : least ≢ n
  pub full : Full w least
  pub lacks : w.received least l.client < end_of_log w l.client
  pub all_have : (m : ℕ) → Full w m → m ≢ n → w.received least l.client ≤ w.received m l.client
  pub first : l.first ≡ call_at w l.client (w.received least l.client)
