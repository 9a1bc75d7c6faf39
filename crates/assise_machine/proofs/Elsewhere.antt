-- What each event leaves at full nodes, by what it is.
use Rattle.assise_machine.proofs.Common.{◌≡◌, ◌≢◌, ℕ, Some, List, ap, sym, arith, Loss, durability_of, Full, undigested_records, Answer, ClusterEvent}
use Rattle.assise_machine.proofs.Common.{open_client, try_call, try_fsync, outgoing, deliver, digest, release_ready, set_hot, crash, fail, back, refill, join}
use Rattle.assise_machine.proofs.Common.{raise, failed, Happens, Machine, Failing}
use Rattle.assise_machine.specs.EventNodes.{node_of}
use Rattle.assise_machine.proofs.KeptPrefixes.{failing_area}
use Rattle.assise_machine.proofs.Others.{crashing_leaves, delivering_leaves, digesting_leaves, fsyncing_leaves, joining_leaves, leaves_all, opening_leaves}
use Rattle.assise_machine.proofs.Others.{raising_leaves, refilling_leaves, releasing_leaves, returning_leaves, sending_leaves, setting_leaves, trying_leaves}

pub event_area : (m m' : Machine) (e : ClusterEvent) (a : Answer) → Happens m e a m' → (j i : ℕ) → Full m.world j → e ≢ digest j →
    m'.world.area j i ≡ m.world.area j i
event_area m m' (open_client n u) a s j i there other = (opening_leaves m m' n u a s j there).area i
event_area m m' (try_call c op) a s j i there other = (trying_leaves m m' c op a s j there).area i
event_area m m' (try_fsync c) a s j i there other = (fsyncing_leaves m m' (durability_of c m.history) c a s j there).area i
event_area m m' (outgoing n) a s j i there other = (sending_leaves m m' n a s j).area i
event_area m m' (deliver f n) a s j i there other = (delivering_leaves m m' f n a s j there).area i
event_area m m' (digest n) a s j i there other = (digesting_leaves m m' n a s j there (λ here. other (ap digest (sym here)))).area i
event_area m m' release_ready a s j i there other = (releasing_leaves m m' a s j there).area i
event_area m m' (set_hot n capacity) a s j i there other = (setting_leaves m m' n capacity a s j).area i
event_area m m' (crash c) a s j i there other = (crashing_leaves m m' c a s j there).area i
event_area m m' (fail n) a s j i there other = failing_area m m' n a s j i there
event_area m m' (back n) a s j i there other = (returning_leaves m m' n a s j there).area i
event_area m m' (refill n) a s j i there other = (refilling_leaves m m' n a s j there).area i
event_area m m' (join n) a s j i there other = (joining_leaves m m' n a s j there).area i
event_area m m' (raise n) a s j i there other = (raising_leaves m m' n a s j).area i

-- a failure that takes a node down is answered so
unfailed : (m m' : Machine) (n : ℕ) (a : Answer) → Failing m n a m' → ((losses : List Loss) → a ≢ failed losses) → m' ≡ m
unfailed m m' n a s none = grind arith

pub event_ahead : (m m' : Machine) (e : ClusterEvent) (a : Answer) → Happens m e a m' → ((losses : List Loss) → a ≢ failed losses) →
    (j c : ℕ) → Full m.world j → node_of m.world e ≢ Some j → undigested_records m'.world j c ≡ undigested_records m.world j c
event_ahead m m' (open_client n u) a s none j c there other = (opening_leaves m m' n u a s j there).ahead c
event_ahead m m' (try_call d op) a s none j c there other = (trying_leaves m m' d op a s j there).ahead (λ here. other (ap Some (sym here))) c
event_ahead m m' (try_fsync d) a s none j c there other = grind (arith, fsyncing_leaves m m' (durability_of d m.history) d a s j there)
event_ahead m m' (outgoing n) a s none j c there other = (sending_leaves m m' n a s j).ahead c
event_ahead m m' (deliver f n) a s none j c there other = (delivering_leaves m m' f n a s j there).ahead (λ here. other (ap Some (sym here))) c
event_ahead m m' (digest n) a s none j c there other = (digesting_leaves m m' n a s j there (λ here. other (ap Some (sym here)))).ahead c
event_ahead m m' release_ready a s none j c there other = (releasing_leaves m m' a s j there).ahead c
event_ahead m m' (set_hot n capacity) a s none j c there other = (setting_leaves m m' n capacity a s j).ahead c
event_ahead m m' (crash d) a s none j c there other = (crashing_leaves m m' d a s j there).ahead c
event_ahead m m' (fail n) a s none j c there other = (leaves_all m m' j (unfailed m m' n a s none)).ahead c
event_ahead m m' (back n) a s none j c there other = (returning_leaves m m' n a s j there).ahead c
event_ahead m m' (refill n) a s none j c there other = (refilling_leaves m m' n a s j there).ahead c
event_ahead m m' (join n) a s none j c there other = (joining_leaves m m' n a s j there).ahead c
event_ahead m m' (raise n) a s none j c there other = (raising_leaves m m' n a s j).ahead c
