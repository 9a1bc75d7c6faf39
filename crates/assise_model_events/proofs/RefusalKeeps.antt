-- A refused event leaves the machine as it was, but for leases that a call got.
use Rattle.assise_model_events.proofs.Common.{◌≡◌, ℕ, false, append-nil, arith, Op, Refusal, refused, ClusterEvent, is_call, Happens, Machine, Calling}

pub refused_same : (m m' : Machine) (e : ClusterEvent) (r : Refusal) → is_call e ≡ false → Happens m e (refused r) m' → m' ≡ m
refused_same m m' e r own h = grind arith

-- ---- calls

pub call_history : (m m' : Machine) (c : ℕ) (op : Op) (r : Refusal) → Calling m c op (refused r) m' → m'.history ≡ m.history
call_history m m' c op r h = grind (arith, append-nil)

pub call_members : (m m' : Machine) (c : ℕ) (op : Op) (r : Refusal) → Calling m c op (refused r) m' → m'.members ≡ m.members
call_members m m' c op r h = grind arith
