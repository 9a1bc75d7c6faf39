-- The turns of a cluster's clients are turns of its machine.
use Rattle.assise_threads.proofs.Common.{◌≡◌, ℕ, zero, suc, List, [], ◌∷◌, Result, Err, inl, inr, refl, ⊤, Op, Refusal, OutOfMemory, Busy, Reply, EntryValue}
use Rattle.assise_threads.proofs.Common.{EndsBy, EndsUntried, HasWaited, InOneTurn, TurnsTo, machine, ClusterOf, Answer, ClusterEvent, Machine, Carried}
use Rattle.assise_threads.proofs.Common.{Refused, CarriesSome, is_carried, is_refused, cluster_acts, cluster_history, cluster_reads, AreCallsMade, SeesAll}
use Rattle.assise_threads.proofs.Common.{Turned, HappensSoundly, TurnedThere, history_seen, versions_read}
use Rattle.assise_record.specs.LogFrame.{LogFrame}
use Rattle.assise_rounds.specs.Rounds.{deliveries}
use Rattle.assise_workers.specs.Acting.{HasCarried, HasDone, Replicates, SendsAll, Went}
use Rattle.assise_workers.specs.declared.worker.TurnEnd.{TurnEnd}
use Rattle.assise_workers.specs.declared.worker.TurnEnd.TheVariants.{Did, Refused as NotDone, Stopped}

module _ (C : Type 0) where
  abbrev there : ClusterOf C → List EntryValue
  there = cluster_history

  abbrev does : ClusterOf C → ClusterEvent → Answer → ClusterOf C → Type 0
  does = cluster_acts

  turn_of : (e : ClusterEvent) (a : Answer) (old new : List EntryValue) → InOneTurn there does e a old new → InOneTurn history_seen HappensSoundly e a old new
  turn_of e a old new t = record {
    before = machine t.before;
    after = machine t.after;
    extends = t.extends;
    does = record { before = t.before.sound.invariant.holds; happens = t.does; after = t.after.sound.invariant.holds };
    seen = t.seen;
  }

  module _ (c : ℕ) (op : Op) where
    waited_of : (k : ℕ) (old new : List EntryValue) → HasWaited there does c op k old new → HasWaited history_seen HappensSoundly c op k old new
    waited_of zero old new same = same
    waited_of (suc k) old new (mid, (before, last)) = (mid, (waited_of k old mid before, turn_of _ _ mid new last))

    ends_of : (limit : ℕ) (a : Answer) (old new : List EntryValue) → EndsBy there does c op limit a old new →
        EndsBy history_seen HappensSoundly c op limit a old new
    ends_of limit a old new e = record
        { waits = e.waits; few = e.few; mid = e.mid; waited = waited_of e.waits old e.mid e.waited; last = turn_of _ a e.mid new e.last }

    untried_of : (limit : ℕ) (old new : List EntryValue) → EndsUntried there does c op limit old new → EndsUntried history_seen HappensSoundly c op limit old
        new
    untried_of limit old new e = record { waits = e.waits; few = e.few; waited = waited_of e.waits old new e.waited; full = e.full }

    turns_of : (limit : ℕ) (r : Result Reply Refusal) (old new : List EntryValue) → TurnsTo there does c op limit r old new →
        TurnsTo history_seen HappensSoundly c op limit r old new
    turns_of limit (Err Busy) old new t = waited_of limit old new t
    turns_of limit (Err OutOfMemory) old new (inl t) = inl (ends_of limit _ old new t)
    turns_of limit (Err OutOfMemory) old new (inr t) = inr (untried_of limit old new t)
    turns_of limit _ old new t = ends_of limit _ old new t

  made_of : (limit c : ℕ) (ops : List Op) (old : List EntryValue) (rs : List (Result Reply Refusal)) (new : List EntryValue) →
      AreCallsMade (Turned there does limit) c ops old rs new → AreCallsMade (TurnedThere limit) c ops old rs new
  made_of limit c [] old [] new same = same
  made_of limit c [] old (r ∷ rs) new e = absurd e
  made_of limit c (op ∷ ops) old [] new e = absurd e
  made_of limit c (op ∷ ops) old (r ∷ rs) new (mid, ((sees, (may, turns)), rest)) =
      (mid, ((sees, (may, turns_of c op limit r old mid turns)), made_of limit c ops mid rs new rest))

  pub sees_of : (limit c : ℕ) (ops : List Op) (old : List EntryValue) (rs : List (Result Reply Refusal)) (new : List EntryValue) →
      SeesAll (Turned there does limit) c ops old rs new → SeesAll (TurnedThere limit) c ops old rs new
  sees_of limit c ops old rs new s = record { count = s.count; extends = s.extends; told = s.told; each = made_of limit c ops old rs new s.each }

  -- ---- of workers

  done_of : (es : List (ClusterEvent × Answer)) (old new : List EntryValue) → HasDone there does es old new → HasDone history_seen HappensSoundly es old new
  done_of [] old new same = same
  done_of (x ∷ xs) old new (mid, (first, rest)) = (mid, (turn_of x.0 x.1 old mid first, done_of xs mid new rest))

  module _ (F G : Type 0) (from : G → F) where
    carried_of : (reads : ℕ → ℕ) (ls : List (LogFrame × ℕ)) (count : ℕ) (old new : List EntryValue) → HasCarried there does F reads ls count old new →
        HasCarried history_seen HappensSoundly G reads ls count old new
    carried_of reads ls count old new d =
        record {
          carried = d.carried;
          all = d.all;
          same = λ faithful. d.same (from faithful);
          read = d.read;
          done =
              done_of (deliveries d.carried) old new d.done;
          counts = d.counts;
        }

    sends_of : (reads : ℕ → ℕ) (ls : List (LogFrame × ℕ)) (end : TurnEnd) (old new : List EntryValue) → SendsAll there does F reads ls end old new →
        SendsAll history_seen HappensSoundly G reads ls end old new
    sends_of reads ls (Did n) old new d = carried_of reads ls n old new d
    sends_of reads ls (NotDone r) old new e = absurd e
    sends_of reads ls Stopped old new (n, d) = (n, carried_of reads ls n old new d)

    either_of : (reads : ℕ → ℕ) (answer : Answer) (end : TurnEnd) (mid new : List EntryValue) → Went there does F reads answer end mid new →
        Went history_seen HappensSoundly G reads answer end mid new
    either_of reads answer end mid new (inl (ls, (is, d))) = inl (ls, (is, sends_of reads ls end mid new d))
    either_of reads answer end mid new (inr r) = inr r

    replicates_of : (n : ℕ) (end : TurnEnd) (old new : List EntryValue) → Replicates there does F cluster_reads n end old new →
        Replicates history_seen HappensSoundly G versions_read n end old new
    unfolding turn_of
    replicates_of n end old new t =
        record {
          answer = t.answer;
          mid = t.mid;
          sent = turn_of _ t.answer old t.mid t.sent;
          went = either_of (cluster_reads t.sent.before) t.answer end t.mid
              new t.went;
        }

  module _ (F : Type 0) (faithful : F) (k n : ℕ) where
    there_of : (end is : TurnEnd) (seen old later : List EntryValue) → k ≡ n → end ≡ is → old ≡ seen → Replicates there does F cluster_reads k end old later →
        Replicates history_seen HappensSoundly ⊤ versions_read n is seen later
    there_of end is seen old later same e from t = rw (← same, ← e, ← from) (replicates_of F ⊤ (λ all. faithful) k end old later t)

    pub carried_by : (count : ℕ) (end : TurnEnd) (seen now : Machine) (old later : List EntryValue) → k ≡ n → end ≡ Did count → old ≡ seen.history →
        now ≡ seen → Replicates there does F cluster_reads k end old later → CarriesSome n (Carried count) seen now
    carried_by count end seen now old later same e from stays t =
        is_carried count later refl (there_of end (Did count) seen.history old later same e from t) stays

    pub refused_by : (r : Refusal) (end : TurnEnd) (seen now : Machine) (old later : List EntryValue) → k ≡ n → end ≡ NotDone r → old ≡ seen.history →
        now ≡ seen → Replicates there does F cluster_reads k end old later → CarriesSome n (Refused r) seen now
    refused_by r end seen now old later same e from stays t = is_refused r later refl (there_of end (NotDone r) seen.history old later same e from t) stays
