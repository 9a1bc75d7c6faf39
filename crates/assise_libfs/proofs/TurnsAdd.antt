-- How a call's turns add up.
use Rattle.assise_libfs.proofs.Common.{◌≡◌, ◌∙◌, ℕ, suc, ◌+◌, ◌<◌, List, Option, None, Some, Result, Ok, Err, sym, subst, ap, arith, inl, inr, Op, Refusal}
use Rattle.assise_libfs.proofs.Common.{OutOfMemory, Busy, Reply, EntryValue, Answer, ClusterEvent, not_yet, refused, replied, try_call, MayRefuseTry, EndsBy}
use Rattle.assise_libfs.proofs.Common.{HasWaited, IsFullOf, InOneTurn, TurnsOnce, TurnsTo, tried_answer}

module _ {S : Type 0} (history : S → List EntryValue) (acts : S → ClusterEvent → Answer → S → Type 0) (c : ℕ) (op : Op) where
  same_result : {A : Type 0} (q : A) (p r : Result A Refusal) (e : Refusal) → r ≡ Ok q → r ≡ Err e → ⊥
  same_result q p r e is was = let x : Ok q ≡ Err e = sym is ∙ was in cc

  pub waits_on : (d k : ℕ) (old mid new : List EntryValue) (r : Result (Option Reply) Refusal) → d ≡ c → r ≡ Ok None → HasWaited history acts c op k old mid →
      TurnsOnce history acts d op r mid new → HasWaited history acts c op (k + 1) old new
  waits_on d k old mid new r same is waited (inl turn) =
      let next : suc k ≡ k + 1 = omega arith in
      let here : InOneTurn history acts (try_call c op) not_yet mid new = subst (λ z. InOneTurn history acts (try_call z op) not_yet mid new) same
      (subst (λ z. InOneTurn history acts (try_call d op) (tried_answer z) mid new) is turn) in
      subst (λ n. HasWaited history acts c op n old new) next (mid, (waited, here))
  waits_on d k old mid new r same is waited (inr (none, rest)) = absurd (same_result None r r OutOfMemory is none)

  ends_by : (d k limit : ℕ) (old mid new : List EntryValue) (r : Result (Option Reply) Refusal) (a : Answer) → d ≡ c → tried_answer r ≡ a → k < limit →
      HasWaited history acts c op k old mid → InOneTurn history acts (try_call d op) (tried_answer r) mid new
      → EndsBy history acts c op limit a old new
  ends_by d k limit old mid new r a same is few waited turn = record {
    waits = k;
    few = few;
    mid = mid;
    waited = waited;
    last = subst (λ z. InOneTurn history acts (try_call z op) a mid new) same (subst (λ z. InOneTurn history acts (try_call d op) z mid new) is turn);
  }

  pub answered_by : (d k limit : ℕ) (old mid new : List EntryValue) (r : Result (Option Reply) Refusal) (reply : Reply) → d ≡ c → r ≡ Ok (Some reply) →
      k < limit → HasWaited history acts c op k old mid → TurnsOnce history acts d op r mid new
      → TurnsTo history acts c op limit (Ok reply) old new
  answered_by d k limit old mid new r reply same is few waited (inl turn) =
      ends_by d k limit old mid new r (replied reply) same (ap tried_answer is) few waited turn
  answered_by d k limit old mid new r reply same is few waited (inr (none, rest)) = absurd (same_result (Some reply) r r OutOfMemory is none)

  other : (e : Refusal) (limit : ℕ) (old new : List EntryValue) (h : List EntryValue) → MayRefuseTry c op h e →
      EndsBy history acts c op limit (refused e) old new → TurnsTo history acts c op limit (Err e) old new
  other OutOfMemory limit old new h may ends = inl ends
  other Busy limit old new h may ends = absurd may
  other _ limit old new h may ends = ends

  pub refused_by : (d k limit : ℕ) (old mid new : List EntryValue) (r : Result (Option Reply) Refusal) (e : Refusal) → d ≡ c → r ≡ Err e → k < limit →
      HasWaited history acts c op k old mid → TurnsOnce history acts d op r mid new → MayRefuseTry d op new e
      → TurnsTo history acts c op limit (Err e) old new
  refused_by d k limit old mid new r e same is few waited (inl turn) may = other e limit old new new (subst (λ z. MayRefuseTry z op new e) same may)
      (ends_by d k limit old mid new r (refused e) same (ap tried_answer is) few waited turn)
  refused_by d k limit old mid new r e same is few waited (inr (none, (still, full))) may =
      let memory : OutOfMemory ≡ e = (let x : Err OutOfMemory ≡ Err e = sym none ∙ is in cc) in
      subst (λ q. TurnsTo history acts c op limit (Err q) old new) memory
      (inr (record {
        waits = k;
        few = few;
        waited = subst (HasWaited history acts c op k old) (sym still) waited;
        full =
            subst (λ z. IsFullOf z new) same full;
      }))
