-- What each command of a run with threads is answered, and which machine the main thread has seen last then.
-- Assise (OSDI 2020), section 3.
use Rattle.std.specs.Prelude.{◌≡◌, ◌<◌, ℕ, zero, suc, List, ⊤}
use Rattle.assise_seq_tree.specs.Tree.{Tree}
use Rattle.assise_names.specs.declared.durability.Durability.{Durability}
use Rattle.assise_names.specs.declared.limits.TheConstants.{MOST_NODES}
use Rattle.assise_names.specs.declared.refusal.Refusal.{Refusal}
use Rattle.assise_names.specs.declared.refusal.Refusal.TheVariants.{BadNode, Busy}
use Rattle.assise_names.specs.declared.reply.Reply.{Reply}
use Rattle.assise_history.specs.Entries.{EntryValue}
use Rattle.assise_history.specs.Legal.{IsLegal, calls_made}
use Rattle.assise_keeper.specs.Clients.{Extends}
use Rattle.assise_libfs.specs.Lives.{EndsWithOpening}
use Rattle.assise_libfs.specs.Opening.{MayRefuseOpen}
use Rattle.assise_fault_script.specs.declared.command.Command.{Command}
use Rattle.assise_fault_script.specs.declared.command.Command.TheVariants.{Cluster, Manual, Open, Call, Carry, Link, Hot, Digest, Release, Crash, Fail, Back, Refill, Join, Raise, Tree as TreeOf, History, Check}
use Rattle.assise_model_events.specs.Events.{back, crash, digest, fail, join, open_client, opened, raise, refill, refused, release_ready}
use Rattle.assise_model_events.specs.Machine.{Machine}
use Rattle.assise_console.specs.declared.response.Response.{Response}
use Rattle.assise_console.specs.declared.response.Response.TheVariants.{Quiet, Client, Replied, Refused, Carried, Tree as Shown, History as Whole}
use Rattle.assise_machine.specs.Following.{IsWorkedTo}
use Rattle.assise_rounds.specs.Traces.{Told}
use Rattle.assise_console.specs.Steps.{IsVerdict, SetsHot, Shows}
use Rattle.assise_console.specs.OneEvent.{IsOne, IsOneAt}
use Rattle.assise_workers.specs.Acting.{Replicates}
use Rattle.assise_workers.specs.declared.worker.TurnEnd.TheVariants.{Did, Refused as NotDone}
use Rattle.assise_threads.specs.ClientTurns.{HappensSoundly, history_seen, versions_read}
use Rattle.assise_threads.specs.Lacking.{LacksRevoker}
use Rattle.assise_threads.specs.Takes.{Happened, InOneTake}
use Rattle.assise_threads.specs.Trees.{IsReplicatedTree}

-- nothing is printed
pub record IsSilent (a : Response) (old new : Machine) : Type 0 where
  pub answer : a ≡ Quiet
  pub stays : new ≡ old

-- A client is opened on node n, and so, which is the last that is seen then, and it made no call. Or the open is refused for what is seen
-- then; or there is no revoker for it, or no node of so great a number.
pub data OpensOne (n : ℕ) (u : Durability) (a : Response) (old new : Machine) : Type 0 where
  is_opened : (c : ℕ) → a ≡ Client c → InOneTake (Happened (open_client n u) (opened c)) old new → EndsWithOpening c n u old.history new.history → calls_made c new.history ≡ 0 → OpensOne n u a old new
  is_refused : (r : Refusal) → a ≡ Refused r → InOneTake (Happened (open_client n u) (refused r)) old new → MayRefuseOpen n new.history r → OpensOne n u a old new
  lacks_revoker : (r : Refusal) → a ≡ Refused r → InOneTake (LacksRevoker n r) old new → OpensOne n u a old new
  is_nowhere : a ≡ Refused BadNode → MOST_NODES < n → new ≡ old → OpensOne n u a old new

-- a call is answered with a reply or a refusal, which its client's thread has seen
pub data IsCallAnswered (a : Response) (old new : Machine) : Type 0 where
  is_replied : (reply : Reply) → a ≡ Replied reply → new ≡ old → IsCallAnswered a old new
  is_refused : (r : Refusal) → a ≡ Refused r → new ≡ old → IsCallAnswered a old new

-- Node n's frames went over a perfect link, each to the node that it is for, in a version that this one reads, by takes of machines; and so
-- many were taken in. Or that is refused. What the main thread has seen stays.
pub data CarriesSome (n : ℕ) (a : Response) (old new : Machine) : Type 0 where
  is_carried : (count : ℕ) (later : List EntryValue) → a ≡ Carried count → Replicates history_seen HappensSoundly ⊤ versions_read n (Did count) old.history later → new ≡ old → CarriesSome n a old new
  is_refused : (r : Refusal) (later : List EntryValue) → a ≡ Refused r → Replicates history_seen HappensSoundly ⊤ versions_read n (NotDone r) old.history later → new ≡ old → CarriesSome n a old new
  is_nowhere : a ≡ Refused BadNode → MOST_NODES < n → new ≡ old → CarriesSome n a old new

-- the tree that node n's region alone spells, which is that of the replicated calls, in a machine that stays as it is
pub record ShowsTree (n : ℕ) (a : Response) (m : Machine) (es : Told) (m' : Machine) : Type 0 where
  pub shows : Shows n a m
  pub replicated : (t : Tree) → a ≡ Shown t → ∥ IsReplicatedTree m.history t ∥₁
  pub stays : m' ≡ m

-- whether the history is legal, of a machine that stays as it is
pub record ChecksHistory (a : Response) (m : Machine) (es : Told) (m' : Machine) : Type 0 where
  pub verdict : IsVerdict a m
  pub stays : m' ≡ m

-- ---- a node comes back

-- it is no refusal
abbrev pub IsNoRefusal : Response → Type 0
IsNoRefusal a = (r : Refusal) → a ≡ Refused r → ⊥

-- in one take node n begins to come back
pub record IsReturnBegun (n : ℕ) (old new : Machine) : Type 0 where
  pub answer : Response
  pub done : IsNoRefusal answer
  pub take : InOneTake (IsOneAt back n answer) old new

-- in one take node n gets an inode that it lacks, if it lacks one
pub record IsFilledOnce (n : ℕ) (old new : Machine) : Type 0 where
  pub answer : Response
  pub done : IsNoRefusal answer
  pub take : InOneTake (IsOneAt refill n answer) old new

-- node n was filled and tried to join, a number of times, and each time it was to try again
abbrev pub HasFilled : ℕ → ℕ → Machine → Machine → Type 0
HasFilled n zero old new = new ≡ old
HasFilled n (suc k) old new = (mid : Machine) × (HasFilled n k old mid × ((filled : Machine) × (IsFilledOnce n mid filled × InOneTake (IsOneAt join n (Refused Busy)) filled new)))

-- node n began to come back, and was filled and tried to join `k` times
pub record HasTried (n k : ℕ) (old new : Machine) : Type 0 where
  pub begun : Machine
  pub begins : IsReturnBegun n old begun
  pub tries : HasFilled n k begun new

-- Node n begins to come back, and then is filled and tries to join, at most `turns` times, until it has joined. That is the answer; or which
-- of these takes is refused, where a join that is to be tried again refuses none but the last.
pub data ComesBackInTakes (turns n : ℕ) (a : Response) (old new : Machine) : Type 0 where
  is_refused : (r : Refusal) → a ≡ Refused r → InOneTake (IsOneAt back n a) old new → ComesBackInTakes turns n a old new
  stops_filling : (r : Refusal) (k : ℕ) (tried : Machine) → k < turns → HasTried n k old tried → a ≡ Refused r → InOneTake (IsOneAt refill n a) tried new → ComesBackInTakes turns n a old new
  joins : (k : ℕ) (tried filled : Machine) → k < turns → HasTried n k old tried → IsFilledOnce n tried filled → (a ≡ Refused Busy → ⊥) → InOneTake (IsOneAt join n a) filled new → ComesBackInTakes turns n a old new
  is_busy : a ≡ Refused Busy → HasTried n turns old new → ComesBackInTakes turns n a old new

-- the history that was seen is printed, and it is legal
pub record PrintsHistory (a : Response) (old new : Machine) : Type 0 where
  pub answer : a ≡ Whole
  pub worked : IsWorkedTo old new
  pub extends : Extends new.history old.history
  pub legal : ∥ IsLegal new.history ∥₁

-- the command is answered so, with `turns` turns for a call or a return, where the main thread had seen the first machine last before and has seen the second last then
abbrev pub AnswersCommand : ℕ → Command → Response → Machine → Machine → Type 0
AnswersCommand turns (Cluster nodes log hot) a old new = IsSilent a old new
AnswersCommand turns Manual a old new = IsSilent a old new
AnswersCommand turns (Open n kind u) a old new = OpensOne n u a old new
AnswersCommand turns (Call c op) a old new = IsCallAnswered a old new
AnswersCommand turns (Carry n) a old new = CarriesSome n a old new
AnswersCommand turns (Link n kind) a old new = IsSilent a old new
AnswersCommand turns (Hot n capacity) a old new = InOneTake (SetsHot n capacity a) old new
AnswersCommand turns (Digest n) a old new = InOneTake (IsOne (digest n) a) old new
AnswersCommand turns Release a old new = InOneTake (IsOne release_ready a) old new
AnswersCommand turns (Crash c) a old new = InOneTake (IsOneAt crash c a) old new
AnswersCommand turns (Fail n) a old new = InOneTake (IsOneAt fail n a) old new
AnswersCommand turns (Back n) a old new = ComesBackInTakes turns n a old new
AnswersCommand turns (Refill n) a old new = InOneTake (IsOneAt refill n a) old new
AnswersCommand turns (Join n) a old new = InOneTake (IsOneAt join n a) old new
AnswersCommand turns (Raise n) a old new = InOneTake (IsOneAt raise n a) old new
AnswersCommand turns (TreeOf n) a old new = InOneTake (ShowsTree n a) old new
AnswersCommand turns History a old new = PrintsHistory a old new
AnswersCommand turns Check a old new = InOneTake (ChecksHistory a) old new
