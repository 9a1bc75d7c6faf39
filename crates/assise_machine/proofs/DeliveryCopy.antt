-- A delivery of a frame for whose copy there was no memory.
use Rattle.assise_machine.proofs.Common.{◌≡◌, ℕ, ◌⊎◌, inl, inr, Option, Some, None, IfNone, IfSome, refl, ap, ◌∙◌, Refusal, OutOfMemory, StaleMessage, LogFrame}
use Rattle.assise_machine.proofs.Common.{refused, IsTimelyDelivery, delivery_fault, Machine, Delivering, is_refused, is_stale, lacks_memory}

-- what is known of the answer why a frame isn't taken in
pub record Explains (m : Machine) (f : LogFrame) (n : ℕ) (o : Option Refusal) : Type 0 where
  pub fault : (r : Refusal) → delivery_fault m f n ≡ Some r → o ≡ Some r
  pub stale : delivery_fault m f n ≡ None → IfSome o (λ r. r ≡ StaleMessage)
  pub taken : delivery_fault m f n ≡ None → IsTimelyDelivery m f n → o ≡ None
  pub fine : IfNone o (delivery_fault m f n ≡ None)
  pub timely : IfNone o (IsTimelyDelivery m f n)

either : (o : Option Refusal) → ((r : Refusal) × (o ≡ Some r)) ⊎ (o ≡ None)
either None = inr refl
either (Some r) = inl (r, refl)

not_none : (r : Refusal) → Some r ≡ None → ⊥
not_none r same = cc

of_some : (e r : Refusal) → Some e ≡ Some r → e ≡ r
of_some e r same = cc

pub no_copy : (m : Machine) (f : LogFrame) (n : ℕ) (r : Refusal) → r ≡ OutOfMemory → Explains m f n None → Delivering m f n (refused r) m
no_copy m f n r is x = lacks_memory x.fine x.timely (ap refused is) refl

pub no_delivery : (m : Machine) (f : LogFrame) (n : ℕ) (r : Refusal) → Explains m f n (Some r) → Delivering m f n (refused r) m
no_delivery m f n r x =
    elim (either (delivery_fault m f n)) [
      | inl (e, at_fault) ↦ is_refused e at_fault (ap refused (of_some r e (x.fault e at_fault))) refl
      | inr none ↦ is_stale none (λ timely. not_none r (x.taken none timely)) (ap refused (x.stale none)) refl
    ]

pub not_delivered : (m : Machine) (f : LogFrame) (n : ℕ) (o : Option Refusal) (r lack : Refusal) → lack ≡ OutOfMemory → Explains m f n o →
    ((e : Refusal) → o ≡ Some e → r ≡ e) → (o ≡ None → r ≡ lack) → Delivering m f n (refused r) m
not_delivered m f n None r lack is x some none = no_copy m f n r (none refl ∙ is) x
not_delivered m f n (Some e) r lack is x some none = no_delivery m f n r (let same : r ≡ e = some e refl in rw same x)
