-- The logs of a chain's nodes, and the frames that were sent: whatever the network loses, repeats or brings in another order.
-- van Renesse and Schneider, chain replication (OSDI 2004), section 3: what a node has is what the node in front of it has or
-- had; Assise (OSDI 2020), section 3.
use Rattle.std.specs.Prelude.{◌≡◌, ◌≢◌, ℕ, ◌≤◌, Bool, List, [], ◌∷◌, Option, Some, None, ◌⊎◌, length, take}
use Rattle.assise_record.specs.LogRecord.{LogRecord}
use Rattle.assise_record.specs.LogFrame.{LogFrame}
use Rattle.assise_private_log.specs.NumberedLog.{NumberedLog, end, with_record, without_prefix}
use Rattle.assise_chain.specs.Acceptance.{IsTimely, accepted}
use Rattle.assise_chain.specs.Lists.{IsOneOf}
use Rattle.assise_chain.specs.Messages.{message_of}

-- the log of one client at each node, and each frame of its records that was ever sent
pub record Nodes : Type 0 where
  pub logs : ℕ → NumberedLog
  pub sent : List LogFrame

pub data ChainStep : Type 0 where
  -- the head takes a record in
  append : LogRecord → ChainStep
  -- a node sends records of its log that lie between two numbers, with marks or without
  send : (marked : Bool) (node from to : ℕ) → ChainStep
  -- a frame that was sent, now or long ago, comes to a node that isn't the head
  deliver : (node : ℕ) → LogFrame → ChainStep
  -- all full nodes let the records below a number go
  let_go : (to : ℕ) → ChainStep

-- one node's log becomes this, and no other changes
pub record LogBecomes (old new : ℕ → NumberedLog) (node : ℕ) (l : NumberedLog) : Type 0 where
  pub here : new node ≡ l
  pub elsewhere : (other : ℕ) → other ≢ node → new other ≡ old other

-- no log changes
abbrev pub NoLogChanges : (ℕ → NumberedLog) → (ℕ → NumberedLog) → Type 0
NoLogChanges old new = (node : ℕ) → new node ≡ old node

-- a number lies between the first and the end of each full node's log: every such node has had all records below it
abbrev pub AllReach : List ℕ → (ℕ → NumberedLog) → ℕ → Type 0
AllReach full logs number = (node : ℕ) → IsOneOf full node → ((logs node).first ≤ number) × (number ≤ end (logs node))

-- each full node lets the records below a number go
abbrev pub AllLetGo : List ℕ → (ℕ → NumberedLog) → (ℕ → NumberedLog) → ℕ → Type 0
AllLetGo full old new number = (node : ℕ) → IsOneOf full node → new node ≡ without_prefix (old node) number

-- what was sent, with a message if there is one
abbrev pub with_message : Option LogFrame → List LogFrame → List LogFrame
with_message None sent = sent
with_message (Some f) sent = f ∷ sent

-- what a step does among the full nodes in an epoch, where its condition holds
abbrev pub StepDoes : (full : List ℕ) (head epoch client : ℕ) → Nodes → ChainStep → Nodes → Type 0
StepDoes full head epoch client old (append r) new = LogBecomes old.logs new.logs head (with_record (old.logs head) r) × (new.sent ≡ old.sent)
StepDoes full head epoch client old (send marked node from to) new =
    IsOneOf full node × NoLogChanges old.logs new.logs × (new.sent ≡ with_message (message_of (old.logs node) marked epoch client from to) old.sent)
StepDoes full head epoch client old (deliver node f) new =
    IsOneOf old.sent f × IsOneOf full node × (node ≢ head) × IsTimely (end (old.logs node)) f epoch × LogBecomes old.logs new.logs node (accepted (old.logs node) f) × (new.sent ≡ old.sent)
StepDoes full head epoch client old (let_go to) new = AllReach full old.logs to × AllLetGo full old.logs new.logs to × (new.sent ≡ old.sent)

-- where its condition doesn't hold, as at a frame that isn't timely, all stays as it was
abbrev pub StepMayDo : (full : List ℕ) (head epoch client : ℕ) → Nodes → ChainStep → Nodes → Type 0
StepMayDo full head epoch client old step new = StepDoes full head epoch client old step new ⊎ (NoLogChanges old.logs new.logs × (new.sent ≡ old.sent))

-- what a list of steps does, one after another
abbrev pub AllSteps : (full : List ℕ) (head epoch client : ℕ) → Nodes → List ChainStep → Nodes → Type 0
AllSteps full head epoch client old [] new = NoLogChanges old.logs new.logs × (new.sent ≡ old.sent)
AllSteps full head epoch client old (step ∷ steps) new = (next : Nodes) × StepMayDo full head epoch client old step next × AllSteps full head epoch client next steps new

-- a log has the first records of another, and begins where that does
pub record IsPrefixOf (l whole : NumberedLog) : Type 0 where
  pub first : l.first ≡ whole.first
  pub records : l.records ≡ take (length l.records) whole.records

-- an epoch begins: the head is full, the log of each full node is a prefix of the head's, as where all are empty, and what was
-- sent was sent in other epochs
pub record ChainIsBegun (full : List ℕ) (head epoch : ℕ) (nodes : Nodes) : Type 0 where
  pub head_full : IsOneOf full head
  pub prefixes : (node : ℕ) → IsOneOf full node → IsPrefixOf (nodes.logs node) (nodes.logs head)
  pub sent_before : (f : LogFrame) → IsOneOf nodes.sent f → f.epoch ≢ epoch
