-- Events with a stock of revokers, and their answers.
use Rattle.std.specs.Prelude.{◌≡◌, ℕ, ◌-◌, List, [], ◌∷◌, ◌++◌, length, take, Option, None, Result, Ok, Err}
use Rattle.std.specs.Option.{option_to_list}
use Rattle.assise_names.specs.declared.call.Op.{Op}
use Rattle.assise_names.specs.declared.durability.Durability.{Durability}
use Rattle.assise_names.specs.declared.refusal.Refusal.{Refusal}
use Rattle.assise_names.specs.declared.refusal.Refusal.TheVariants.{BadClient}
use Rattle.assise_private_log.specs.NumberedLog.{NumberedLog}
use Rattle.assise_machine_calls.specs.Answers.{crashing_answer, turn_answer}
use Rattle.assise_machine_calls.specs.Asked.{CutsAreAnswers}
use Rattle.assise_model_events.specs.Events.{Answer, ClusterEvent, back, crash, deliver, digest, fail, join, open_client, raise, opened, outgoing, refill, refused, release_ready, released, set_hot, try_call, try_fsync}
use Rattle.assise_model_events.specs.Faults.{open_fault}
use Rattle.assise_model_events.specs.Happenings.{Happens}
use Rattle.assise_model_events.specs.Machine.{Machine}
use Rattle.assise_machine_failures.specs.Answers.{failing_answer, joining_answer, refilling_answer, returning_answer}
use Rattle.assise_machine.specs.declared.answer.Answer.{Answer as Answered}
use Rattle.assise_machine.specs.declared.answer.Answer.TheVariants.{Opened, Called, Sent, Received, Digested, Released, HotSet, Crashed, Failed, Began, Left, Joined, Raised}
use Rattle.assise_machine.specs.declared.cluster.ClusterOf.{ClusterOf}
use Rattle.assise_machine.specs.declared.event.Event.{Event}
use Rattle.assise_machine.specs.declared.event.Event.TheVariants.{Open, Call, Fsync, Outgoing, Deliver, Digest, ReleaseReady, SetHot, Crash, Fail, Back, Refill, Join, Raise}
use Rattle.assise_machine.specs.Answers.{delivery_answer, digesting_answer, raising_answer, sending_answer, setting_answer}
use Rattle.assise_machine.specs.Clusters.{machine, revokers}

abbrev pub event_seen : Event → ClusterEvent
event_seen (Open n u) = open_client n u
event_seen (Call c op) = try_call c op
event_seen (Fsync c) = try_fsync c
event_seen (Outgoing n) = outgoing n
event_seen (Deliver f n) = deliver f n
event_seen (Digest n) = digest n
event_seen ReleaseReady = release_ready
event_seen (SetHot n capacity) = set_hot n capacity.inodes
event_seen (Crash c) = crash c
event_seen (Fail n) = fail n
event_seen (Back n) = back n
event_seen (Refill n) = refill n
event_seen (Join n) = join n
event_seen (Raise n) = raise n

abbrev pub opened_answer : Result ℕ Refusal → Answer
opened_answer (Ok client) = opened client
opened_answer (Err refusal) = refused refusal

abbrev pub answer_seen : Answered → Answer
answer_seen (Opened result) = opened_answer result
answer_seen (Called result) = turn_answer result
answer_seen (Sent result) = sending_answer result
answer_seen (Received result) = delivery_answer result
answer_seen (Digested result) = digesting_answer result
answer_seen (Released count) = released count
answer_seen (HotSet result) = setting_answer result
answer_seen (Crashed result) = crashing_answer result
answer_seen (Failed result) = failing_answer result
answer_seen (Began result) = returning_answer result
answer_seen (Left result) = refilling_answer result
answer_seen (Joined result) = joining_answer result
answer_seen (Raised result) = raising_answer result

-- each event with its answer
abbrev pub told : List Event → List Answered → List (ClusterEvent × Answer)
told [] answers = []
told (e ∷ es) [] = []
told (e ∷ es) (a ∷ answers) = (event_seen e, answer_seen a) ∷ told es answers

-- ---- the stock

-- an open that is answered takes a revoker of the stock
abbrev pub stock_after : ℕ → Answer → ℕ
stock_after stock (opened c) = stock - 1
stock_after stock a = stock

-- how many are left after all of these
abbrev pub stock_left : ℕ → List (ClusterEvent × Answer) → ℕ
stock_left stock [] = stock
stock_left stock ((e, a) ∷ es) = stock_left (stock_after stock a) es

-- the client that an answer says was opened
abbrev pub opened_of : Answer → List ℕ
opened_of (opened c) = c ∷ []
opened_of a = []

-- the clients that were opened, one after another
abbrev pub all_opened : List (ClusterEvent × Answer) → List ℕ
all_opened [] = []
all_opened ((e, a) ∷ es) = opened_of a ++ all_opened es

-- the revokers of these clients, the last client's first
abbrev pub last_first : {C : Type 0} → (ℕ → Option C) → List ℕ → List C
last_first stored [] = []
last_first stored (c ∷ cs) = last_first stored cs ++ option_to_list (stored c)

-- the event happens; or it is an open that nothing but the lack of a revoker stands against, which is refused as one client too many
pub data IsServed (stock : ℕ) (m : Machine) (e : ClusterEvent) (a : Answer) (m' : Machine) : Type 0 where
  happens : Happens m e a m' → IsServed stock m e a m'
  lacks_revoker : (n : ℕ) (u : Durability) → e ≡ open_client n u → stock ≡ 0 → open_fault m n ≡ None → a ≡ refused BadClient → m' ≡ m → IsServed stock m e a m'

-- one after another
abbrev pub AllServed : ℕ → Machine → List (ClusterEvent × Answer) → Machine → Type 0
AllServed stock m [] m' = m' ≡ m
AllServed stock m ((e, a) ∷ es) m' = (v : Machine) × (IsServed stock m e a v × AllServed (stock_after stock a) v es m')

-- ---- with the revokers

-- a cluster with a stock: what the laws observe, the revoker of each client, and those that are left
pub record Stocked (C : Type 0) : Type 0 where
  pub observed : Machine
  pub stored : ℕ → Option C
  pub stock : List C

abbrev pub stocked : {C : Type 0} → ClusterOf C → List C → Stocked C
stocked cluster stock = record { observed = machine cluster; stored = revokers cluster; stock = stock }

-- the event is served; who is opened by it stores the last revoker of the stock, and all others what they stored; and the cut of
-- each lease that a call revoked is what its holder's stored revoker answers
pub record IsApplied {C : Type 0} (answers : C → NumberedLog → ℕ → ℕ → Type 0) (s : Stocked C) (e : ClusterEvent) (a : Answer) (t : Stocked C) : Type 0 where
  pub served : IsServed (length s.stock) s.observed e a t.observed
  pub left : length t.stock ≡ stock_after (length s.stock) a
  pub prefix : t.stock ≡ take (length t.stock) s.stock
  pub gets : (c : ℕ) → a ≡ opened c → s.stock ≡ t.stock ++ option_to_list (t.stored c)
  pub others : (c : ℕ) → (a ≡ opened c → ⊥) → t.stored c ≡ s.stored c
  pub cuts : (c : ℕ) (op : Op) → e ≡ try_call c op → CutsAreAnswers answers s.stored s.observed t.observed

-- one after another
abbrev pub AllApplied : {C : Type 0} → (C → NumberedLog → ℕ → ℕ → Type 0) → Stocked C → List (ClusterEvent × Answer) → Stocked C → Type 0
AllApplied answers s [] t = t ≡ s
AllApplied {C} answers s ((e, a) ∷ es) t = (v : Stocked C) × (IsApplied answers s e a v × AllApplied answers v es t)
