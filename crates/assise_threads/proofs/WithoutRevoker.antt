-- Why no client is opened where there is no revoker for one, by what a region's refusal tells.
use Rattle.assise_threads.proofs.Common.{◌≡◌, ◌∙◌, true, Option, None, Some, refl, sym, ap, subst, IsOk, is_ok, Refusal, NodeDown, BadClient, WrongPhase}
use Rattle.assise_threads.proofs.Common.{without_revoker}
use Rattle.std.specs.Prelude.{Result, Ok, Err}

-- the fault is what the region is refused with
of_refused : {X : Type 0} (fault : Option Refusal) (r : Result X Refusal) (q : Refusal) → r ≡ Err q → ((e : Refusal) → fault ≡ Some e → r ≡ Err e) →
    (fault ≡ None → IsOk r) → fault ≡ Some q
of_refused None r q is faults fine = absurd (let y : is_ok r ≡ true = fine refl in cc)
of_refused (Some e) r q is faults fine = let y : Err e ≡ Err q = sym (faults e refl) ∙ is in cc

module _ {X : Type 0} (fault : Option Refusal) (r : Result X Refusal) where
  pub lacks_one : (x : X) → r ≡ Ok x → (IsOk r → fault ≡ None) → BadClient ≡ without_revoker fault
  lacks_one x is fine = sym (ap without_revoker (fine (subst IsOk (sym is) refl)))

  pub lacks_node : r ≡ Err WrongPhase → ((e : Refusal) → fault ≡ Some e → r ≡ Err e) → (fault ≡ None → IsOk r) → NodeDown ≡ without_revoker fault
  lacks_node is faults fine = sym (ap without_revoker (of_refused fault r WrongPhase is faults fine))
