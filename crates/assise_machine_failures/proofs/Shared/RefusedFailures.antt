-- What is refused leaves all as it was.
use Rattle.assise_machine_failures.proofs.Common.{◌≡◌, ◌⊎◌, Option, Some, None, Result, Err, inl, inr, refl, ap, sym, true, false, true≢false, Refusal}
use Rattle.assise_machine_failures.proofs.Common.{OutOfMemory, Membership, after_members, StateValue}

-- the members are the same after all
pub same_after : (s : StateValue) (m : Membership) → m ≡ s.members → after_members s m ≡ s
same_after s m is = (λ i. record s { members = is i })

-- a refusal is the fault that stands, or where none does there was no memory
abbrev pub IsFaultOr : Option Refusal → Refusal → Type 0
IsFaultOr fault e = ((fault ≡ None) × (e ≡ OutOfMemory)) ⊎ (fault ≡ Some e)

pub same_error : {X : Type 0} (d e : Refusal) → ◌≡◌ {A = Result X Refusal} (Err d) (Err e) → d ≡ e
same_error d e is = cc

pub fault_or : {X : Type 0} (fault : Option Refusal) (e : Refusal) → ((r : Refusal) → fault ≡ Some r → ◌≡◌ {A = Result X Refusal} (Err e) (Err r)) →
    (fault ≡ None → e ≡ OutOfMemory) → IsFaultOr fault e
fault_or None e faults memory = inl (refl, memory refl)
fault_or {X} (Some r) e faults memory = inr (ap Some (sym (same_error {X = X} e r (faults r refl))))

-- where no fault stands, it isn't refused
pub never : {P : Type 0} → (P → false ≡ true) → P → ⊥
never shows p = true≢false (sym (shows p))
