-- Answers of commands that tell that of one event.
-- Assise (OSDI 2020), section 3 (calls, digests, leases; process crash, fail-over, and recovery).
use Rattle.std.specs.Prelude.{◌≡◌, ℕ, map}
use Rattle.assise_model_events.specs.Events.{Answer, ClusterEvent, began, crashed, digested, failed, hot_set, joined, left, not_yet, opened, raised, refused, released, replied}
use Rattle.assise_model_events.specs.Machine.{Machine}
use Rattle.assise_machine_failures.specs.Answers.{loss_of}
use Rattle.assise_rounds.specs.Traces.{IsEvent, Told}
use Rattle.assise_console.specs.declared.response.Response.{Response}
use Rattle.assise_console.specs.declared.response.Response.TheVariants.{Quiet, Client, Replied, Waits, Refused, Carried, Digested, Released, Linked, HotSet, Crashed, Failed, Began, Left, Returned, Raised, Tree, History, Checked}

-- a command's answer tells that of one event
abbrev pub Tells : Response → Answer → Type 0
Tells (Client c) e = e ≡ opened c
Tells (Replied reply) e = e ≡ replied reply
Tells Waits e = e ≡ not_yet
Tells (Refused refusal) e = e ≡ refused refusal
Tells (Digested count) e = e ≡ digested count
Tells (Released count) e = e ≡ released count
Tells Quiet e = ⊥
Tells (Carried count) e = ⊥
Tells (Linked node) e = ⊥
Tells (HotSet node) e = ⊥
Tells (Crashed client) e = ⊥
Tells (Failed node losses) e = ⊥
Tells (Began node stale) e = ⊥
Tells (Left stale) e = ⊥
Tells (Returned node) e = ⊥
Tells (Raised node) e = ⊥
Tells (Tree tree) e = ⊥
Tells History e = ⊥
Tells (Checked legal) e = ⊥

-- one event, which the answer tells
pub record IsOne (e : ClusterEvent) (a : Response) (m : Machine) (es : Told) (m' : Machine) : Type 0 where
  pub answer : Answer
  pub tells : Tells a answer
  pub event : IsEvent e answer m es m'

-- the answer of a command for the client or the node of this number tells that of one event
abbrev pub TellsAt : ℕ → Response → Answer → Type 0
TellsAt n (HotSet node) e = (node ≡ n) × (e ≡ hot_set)
TellsAt n (Crashed client) e = (client ≡ n) × (e ≡ crashed)
TellsAt n (Failed node losses) e = (node ≡ n) × (e ≡ failed (map loss_of losses.items))
TellsAt n (Began node stale) e = (node ≡ n) × (e ≡ began stale)
TellsAt n (Left stale) e = e ≡ left stale
TellsAt n (Returned node) e = (node ≡ n) × (e ≡ joined)
TellsAt n (Raised node) e = (node ≡ n) × (e ≡ raised)
TellsAt n (Refused refusal) e = e ≡ refused refusal
TellsAt n Quiet e = ⊥
TellsAt n (Client c) e = ⊥
TellsAt n (Replied reply) e = ⊥
TellsAt n Waits e = ⊥
TellsAt n (Carried count) e = ⊥
TellsAt n (Digested count) e = ⊥
TellsAt n (Released count) e = ⊥
TellsAt n (Linked node) e = ⊥
TellsAt n (Tree tree) e = ⊥
TellsAt n History e = ⊥
TellsAt n (Checked legal) e = ⊥

-- one event of the client or the node of this number, which the answer tells
pub record IsOneAt (what : ℕ → ClusterEvent) (n : ℕ) (a : Response) (m : Machine) (es : Told) (m' : Machine) : Type 0 where
  pub answer : Answer
  pub tells : TellsAt n a answer
  pub event : IsEvent (what n) answer m es m'
