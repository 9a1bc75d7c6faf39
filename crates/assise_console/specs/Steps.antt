-- What each command makes happen, what it answers, and the state after it.
use Rattle.std.specs.Prelude.{◌≡◌, ◌↔◌, IsTrue, ℕ, ◌-◌, ◌≤◌, Bool, true, false, List, [], ◌∷◌, slice_set, None, Some, ⊤, Result, Ok, Err}
use Rattle.assise_names.specs.declared.call.Op.{Op}
use Rattle.assise_names.specs.declared.refusal.Refusal.{Refusal}
use Rattle.assise_names.specs.declared.refusal.Refusal.TheVariants.{BadNode, OutOfMemory}
use Rattle.assise_names.specs.declared.reply.Reply.{Reply}
use Rattle.assise_seq_tree.specs.Tree.{Tree as PlainTree}
use Rattle.assise_history.specs.Legal.{IsLegal}
use Rattle.assise_inode_table.specs.Spelled.{Spells}
use Rattle.assise_names.specs.declared.durability.Durability.{Durability}
use Rattle.assise_fault_script.specs.declared.command.Command as commands
use Rattle.assise_fault_script.specs.declared.command.Command.TheVariants.{Cluster, Manual, Open, Call, Carry, Link, Hot, Digest, Release, Crash, Fail, Back, Refill, Join, Raise, Tree as TreeOf, History, Check}
use Rattle.assise_fault_script.specs.declared.command.LinkKind.{LinkKind}
use Rattle.assise_fault_script.specs.declared.command.LinkKind.TheVariants.{Perfect, Lose, Repeat, Delay, Cut, Fault}
use Rattle.assise_fault_script.specs.declared.command.RevokerKind.{RevokerKind}
use Rattle.assise_model_world.specs.World.{alone_at}
use Rattle.assise_model_events.specs.Events.{Answer, back, crash, digest, fail, join, open_client, outgoing, raise, refill, refused, release_ready, set_hot, try_call}
use Rattle.assise_model_events.specs.Faults.{node_fault}
use Rattle.assise_model_events.specs.Machine.{Machine}
use Rattle.assise_machine.specs.Running.{IsServed, stock_after}
use Rattle.assise_console.specs.declared.response.Response as answers
use Rattle.assise_console.specs.declared.response.Response.TheVariants.{Quiet, Replied, Refused, Carried, Linked, Returned, Tree as Shown, History as Whole, Checked}
use Rattle.assise_console.specs.OneEvent.{IsOne, IsOneAt, Tells}
use Rattle.assise_console.specs.State.{ConsoleState, stock_of, with_machine, with_stock}
use Rattle.assise_rounds.specs.Traces.{IsEvent, Nothing, Told}
use Rattle.assise_link.specs.Kinds.{Kind, cut, delay, fault, lose, perfect, repeat}
use Rattle.assise_rounds.specs.NodeLinks.{FaithfulAt}
use Rattle.assise_rounds.specs.Returning.{ComesBack}
use Rattle.assise_rounds.specs.Rounds.{Replicates}
use Rattle.assise_rounds.specs.Trying.{TriesOften}

-- nothing happens
pub record IsUneventful (a : answers.Response) (es : Told) (t next : ConsoleState) : Type 0 where
  pub answer : a ≡ Quiet
  pub told : es ≡ []
  pub stays : t ≡ next

-- a client is opened on node n, with a revoker of this kind and fsyncs of durability `u`
pub record OpensClient (s : ConsoleState) (n : ℕ) (kind : RevokerKind) (u : Durability) (es : Told) (a : answers.Response) (t : ConsoleState) : Type 0 where
  pub answer : Answer
  pub tells : Tells a answer
  pub told : es ≡ (open_client n u, answer) ∷ []
  pub served : IsServed (stock_of kind s.stock) s.machine (open_client n u) answer t.machine
  pub stock : t.stock ≡ with_stock kind (stock_after (stock_of kind s.stock) answer) s.stock
  pub turns : t.turns ≡ s.turns
  pub manual : t.manual ≡ s.manual
  pub links : t.links ≡ s.links

-- what is answered where a call isn't awaited any more
abbrev pub call_answer : Result Reply Refusal → answers.Response
call_answer (Ok reply) = Replied reply
call_answer (Err refusal) = Refused refusal

-- a call is tried as often as it is awaited, which the answer tells
pub record CallsOften (links : List Kind) (turns c : ℕ) (op : Op) (a : answers.Response) (m : Machine) (es : Told) (m' : Machine) : Type 0 where
  pub result : Result Reply Refusal
  pub answer : a ≡ call_answer result
  pub tries : TriesOften (FaithfulAt links) turns c op result m es m'

-- a call is tried once after `manual`, and else as often as it is awaited
abbrev pub Calls : Bool → (links : List Kind) → (turns c : ℕ) → Op → answers.Response → Machine → Told → Machine → Type 0
Calls true links turns c op a m es m' = IsOne (try_call c op) a m es m'
Calls false links turns c op a m es m' = CallsOften links turns c op a m es m'

-- node n makes a replicate turn, over a link that is perfect or isn't
pub data CarriesFrames (perfect : Type 0) (n : ℕ) (a : answers.Response) (m : Machine) (es : Told) (m' : Machine) : Type 0 where
  is_carried : (count : ℕ) → a ≡ Carried count → Replicates perfect n count m es m' → CarriesFrames perfect n a m es m'
  is_refused : (r : Refusal) → a ≡ Refused r → IsEvent (outgoing n) (refused r) m es m' → CarriesFrames perfect n a m es m'

-- `capacity` inodes may be hot at node n then, which the answer tells; a number out of limits does nothing
pub data SetsHot (n capacity : ℕ) (a : answers.Response) (m : Machine) (es : Told) (m' : Machine) : Type 0 where
  is_made : 1 ≤ capacity → capacity ≤ 4096 → IsOneAt (λ k. set_hot k capacity) n a m es m' → SetsHot n capacity a m es m'
  is_out : (1 ≤ capacity → capacity ≤ 4096 → ⊥) → a ≡ Quiet → Nothing m es m' → SetsHot n capacity a m es m'

-- ---- links

-- the kind that a script names
abbrev pub link_kind : LinkKind → Kind
link_kind Perfect = perfect
link_kind Lose = lose
link_kind Repeat = repeat
link_kind Delay = delay
link_kind (Cut most) = cut most
link_kind Fault = fault

-- node n's link is a new one of this kind, where there is such a node
pub data SetsLink (s : ConsoleState) (n : ℕ) (kind : LinkKind) (a : answers.Response) (t : ConsoleState) : Type 0 where
  is_linked : (node_fault s.machine n ≡ Some BadNode → ⊥) → a ≡ Linked n → t ≡ record s { links = slice_set s.links (n - 1) (link_kind kind) } → SetsLink s n kind a t
  is_nowhere : node_fault s.machine n ≡ Some BadNode → a ≡ Refused BadNode → t ≡ s → SetsLink s n kind a t

-- ---- returns

-- what is answered where node n comes back
abbrev pub return_answer : ℕ → Result ⊤ Refusal → answers.Response
return_answer n (Ok _) = Returned n
return_answer n (Err refusal) = Refused refusal

-- node n comes back, which the answer tells
pub record ReturnsWhole (n : ℕ) (a : answers.Response) (m : Machine) (es : Told) (m' : Machine) : Type 0 where
  pub result : Result ⊤ Refusal
  pub answer : a ≡ return_answer n result
  pub comes : ComesBack n result m es m'

-- node n begins to come back after `manual`, and else is filled and joins too
abbrev pub Returns : Bool → ℕ → answers.Response → Machine → Told → Machine → Type 0
Returns true n a m es m' = IsOneAt back n a m es m'
Returns false n a m es m' = ReturnsWhole n a m es m'

-- the tree that node n's region alone spells, with the records that are replicated
pub data Shows (n : ℕ) (a : answers.Response) (m : Machine) : Type 0 where
  is_shown : (tree : PlainTree) → node_fault m n ≡ None → a ≡ Shown tree → Spells (alone_at m.world n) tree → Shows n a m
  lacks_memory : node_fault m n ≡ None → a ≡ Refused OutOfMemory → Shows n a m
  is_refused : (r : Refusal) → node_fault m n ≡ Some r → a ≡ Refused r → Shows n a m

-- whether the history is legal
pub data IsVerdict (a : answers.Response) (m : Machine) : Type 0 where
  is_verdict : (legal : Bool) → a ≡ Checked legal → IsTrue legal ↔ IsLegal m.history → IsVerdict a m
  lacks_room : a ≡ Refused OutOfMemory → IsVerdict a m

-- the cluster alone changes, by these events
pub record Changes (Does : Machine → Told → Machine → Type 0) (s : ConsoleState) (es : Told) (t : ConsoleState) : Type 0 where
  pub events : Does s.machine es t.machine
  pub stays : t ≡ with_machine s t.machine

abbrev pub Serves : ConsoleState → commands.Command → Told → answers.Response → ConsoleState → Type 0
Serves s (Cluster n l h) es a t = IsUneventful a es t s
Serves s Manual es a t = IsUneventful a es t (record s { manual = true })
Serves s (Open n kind u) es a t = OpensClient s n kind u es a t
Serves s (Call c op) es a t = Changes (Calls s.manual s.links s.turns c op a) s es t
Serves s (Carry n) es a t = Changes (CarriesFrames (FaithfulAt s.links n) n a) s es t
Serves s (Link n kind) es a t = SetsLink s n kind a t × (es ≡ [])
Serves s (Hot n capacity) es a t = Changes (SetsHot n capacity a) s es t
Serves s (Digest n) es a t = Changes (IsOne (digest n) a) s es t
Serves s Release es a t = Changes (IsOne release_ready a) s es t
Serves s (Crash c) es a t = Changes (IsOneAt crash c a) s es t
Serves s (Fail n) es a t = Changes (IsOneAt fail n a) s es t
Serves s (Back n) es a t = Changes (Returns s.manual n a) s es t
Serves s (Refill n) es a t = Changes (IsOneAt refill n a) s es t
Serves s (Join n) es a t = Changes (IsOneAt join n a) s es t
Serves s (Raise n) es a t = Changes (IsOneAt raise n a) s es t
Serves s (TreeOf n) es a t = Shows n a s.machine × ((es ≡ []) × (t ≡ s))
Serves s History es a t = (a ≡ Whole) × ((es ≡ []) × (t ≡ s))
Serves s Check es a t = IsVerdict a s.machine × ((es ≡ []) × (t ≡ s))

-- by some events
abbrev pub Does : ConsoleState → commands.Command → answers.Response → ConsoleState → Type 0
Does s c a t = (es : Told) × Serves s c es a t
