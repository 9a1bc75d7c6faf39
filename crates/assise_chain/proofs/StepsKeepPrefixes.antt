-- What each step leaves true of all logs and of what was sent, and what lists of steps do.
use Rattle.assise_chain.proofs.Common.{arith, ◌≡◌, ◌≢◌, ℕ, Bool, List, [], ◌∷◌, sym, subst, inl, inr, LogRecord, LogFrame, NumberedLog, end, with_record}
use Rattle.assise_chain.proofs.Common.{IsTimely, accepted, IsOneOf, frame_of, message_of, AllSteps, AllLetGo, AllReach, LogBecomes, StepDoes, ChainIsBegun}
use Rattle.assise_chain.proofs.Common.{IsPrefixOf, Nodes, NoLogChanges, ChainStep, with_message}
use mathlib.Core.Logic.{dite}
use native.Mathlib.Decide.{ℕ_discrete}
use Rattle.assise_chain.specs.Passing.ChainStep.{append, send, deliver, let_go}
use Rattle.assise_chain.proofs.Parts.{IsPart, prefix_part, part_accepted, part_behind, part_prefix, part_longer, part_sent, part_shorter}

module _ (full : List ℕ) (head epoch : ℕ) where
  -- all full nodes' logs begin with the head's and agree with it, and so does each frame of the epoch
  pub record AllAgree (s : Nodes) : Type 0 where
    pub head_full : IsOneOf full head
    pub first : (node : ℕ) → IsOneOf full node → (s.logs node).first ≡ (s.logs head).first
    pub logs : (node : ℕ) → IsOneOf full node → IsPart (s.logs node).first (s.logs node).records (s.logs head)
    pub frames : (f : LogFrame) → IsOneOf s.sent f → f.epoch ≡ epoch → IsPart f.first f.records (s.logs head)

  begun_agree : (s : Nodes) → ChainIsBegun full head epoch s → AllAgree s
  begun_agree s begun = grind (arith, prefix_part)

  same_agree : (old new : Nodes) → AllAgree old → NoLogChanges old.logs new.logs → new.sent ≡ old.sent → AllAgree new
  same_agree old new agree same is_sent = grind arith

  -- the head takes a record in
  append_agree : (old new : Nodes) (r : LogRecord) → AllAgree old → LogBecomes old.logs new.logs head (with_record (old.logs head) r) → new.sent ≡ old.sent →
      AllAgree new
  append_agree old new r agree becomes is_sent =
      let to_new : (first : ℕ) (rs : List LogRecord) → IsPart first rs (old.logs head) → IsPart first rs (new.logs head)
      = λ first rs p. subst (λ (w : NumberedLog). IsPart first rs w) (sym becomes.here) (part_longer first rs (old.logs head) r p) in
      record {
        head_full = agree.head_full;
        first = grind arith;
        logs = grind arith;
        frames = λ f a this. to_new f.first f.records (agree.frames f (subst (λ fs. IsOneOf fs f) is_sent a) this);
      }

  -- a message is among what was sent
  message_agrees : (whole : NumberedLog) (marked : Bool) (e client first : ℕ) (rs : List LogRecord) (last : List Bool) (before : List LogFrame) (f : LogFrame) →
      IsPart first rs whole
      → (IsOneOf before f → f.epoch ≡ epoch → IsPart f.first f.records whole)
      → IsOneOf (with_message (frame_of marked e client first rs last) before) f → f.epoch ≡ epoch → IsPart f.first f.records whole
  message_agrees whole marked e client first [] last before f part rest a this = rest a this
  message_agrees whole marked e client first (r ∷ rs) last before f part rest (inl is) this = subst (λ (g : LogFrame). IsPart g.first g.records whole) is part
  message_agrees whole marked e client first (r ∷ rs) last before f part rest (inr a) this = rest a this

  send_agree : (old new : Nodes) (marked : Bool) (client node from to : ℕ) → AllAgree old → IsOneOf full node → NoLogChanges old.logs new.logs
      → new.sent ≡ with_message (message_of (old.logs node) marked epoch client from to) old.sent → AllAgree new
  send_agree old new marked client node from to agree is same is_sent = grind (arith, part_sent)

  -- a frame is taken in
  deliver_agree : (old new : Nodes) (node : ℕ) (f : LogFrame) → AllAgree old → IsOneOf old.sent f → IsOneOf full node → node ≢ head →
      IsTimely (end (old.logs node)) f epoch
      → LogBecomes old.logs new.logs node (accepted (old.logs node) f) → new.sent ≡ old.sent → AllAgree new
  deliver_agree old new node f agree a is other timely becomes is_sent =
      let at_head : new.logs head ≡ old.logs head = becomes.elsewhere head (λ (same : head ≡ node). other (sym same)) in
      let to_new : (first : ℕ) (rs : List LogRecord) → IsPart first rs (old.logs head) → IsPart first rs (new.logs head)
      = λ first rs p. subst (λ (w : NumberedLog). IsPart first rs w) (sym at_head) p in
      let here : NumberedLog = accepted (old.logs node) f in
      record {
        head_full = agree.head_full;
        first = grind arith;
        logs = λ n is_n. dite (ℕ_discrete n node)
            (grind (arith, part_accepted))
            (grind arith);
        frames = λ g b this. to_new g.first g.records (agree.frames g (subst (λ fs. IsOneOf fs g) is_sent b) this);
      }

  -- all let the records below a number go
  let_go_agree : (old new : Nodes) (to : ℕ) → AllAgree old → AllReach full old.logs to → AllLetGo full old.logs new.logs to → new.sent ≡ old.sent → AllAgree new
  let_go_agree old new to agree reach shorter is_sent = grind (arith, part_shorter, part_behind)

  step_agree : (client : ℕ) (old new : Nodes) (step : ChainStep) → AllAgree old → StepDoes full head epoch client old step new → AllAgree new
  step_agree client old new (append r) agree d = append_agree old new r agree d.0 d.1
  step_agree client old new (send marked node from to) agree d = send_agree old new marked client node from to agree d.0 d.1 d.2
  step_agree client old new (deliver node f) agree d = deliver_agree old new node f agree d.0 d.1 d.2 d.3 d.4 d.5
  step_agree client old new (let_go to) agree d = let_go_agree old new to agree d.0 d.1 d.2

  all_agree : (client : ℕ) (steps : List ChainStep) (old new : Nodes) → AllAgree old → AllSteps full head epoch client old steps new → AllAgree new
  all_agree client [] old new agree d = same_agree old new agree d.0 d.1
  all_agree client (step ∷ steps) old new agree d =
      let next : AllAgree d.0 = grind (arith, step_agree) in
      all_agree client steps d.0 new next d.2

  pub all_prefixes : (client : ℕ) (steps : List ChainStep) (old new : Nodes) → ChainIsBegun full head epoch old →
      AllSteps full head epoch client old steps new → (node : ℕ) → IsOneOf full node → IsPrefixOf (new.logs node) (new.logs head)
  all_prefixes client steps old new begun d node is = grind (arith, all_agree client steps old new (begun_agree old begun) d, part_prefix)
