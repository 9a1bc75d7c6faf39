-- What a look-up finds once leases are revoked, put or taken away.
use Rattle.assise_model_leases.proofs.Common.{◌≡◌, ℕ, Bool, true, false, cond, List, [], ◌∷◌, Option, Some, None, refl, Mode, Lease, lease_of, serves, revoke}
use Rattle.assise_model_leases.proofs.Common.{revoked_if, is_revoked, is_held, is_written, arith}

-- ---- one lease

pub held_some : (o : Option Lease) → is_held o ≡ true → (a : Lease) × (o ≡ Some a)
held_some None h = cc
held_some (Some a) h = (a, refl)

pub revoked_held : (o : Option Lease) → is_revoked o ≡ true → is_held o ≡ true
revoked_held None h = h
revoked_held (Some a) h = refl

-- a revoked lease serves nothing, and neither does none
pub revoked_serves : (o : Option Lease) (mode : Mode) → is_revoked o ≡ true → serves o mode ≡ false
revoked_serves None mode h = refl
revoked_serves (Some a) mode h = rw h refl

pub none_serves : (o : Option Lease) (mode : Mode) → (is_held o ≡ true → is_revoked o ≡ true) → serves o mode ≡ false
none_serves None mode f = refl
none_serves (Some a) mode f = revoked_serves (Some a) mode (f refl)

-- ---- leases are revoked

-- a lease, if there is one, revoked where it is chosen
abbrev pub revoked_one : (Lease → Bool) → Option Lease → Option Lease
revoked_one choice None = None
revoked_one choice (Some a) = Some (revoked_if (choice a) a)

pub revoke_of : (choice : Lease → Bool) (ls : List Lease) (h : ℕ) → lease_of (revoke choice ls) h ≡ revoked_one choice (lease_of ls h)
revoke_of choice [] h = refl
revoke_of choice (l ∷ ls) h = grind (arith, revoke_of choice ls h)

pub held_one : (choice : Lease → Bool) (o : Option Lease) → is_held (revoked_one choice o) ≡ is_held o
held_one choice None = refl
held_one choice (Some a) = refl

pub written_one : (choice : Lease → Bool) (o : Option Lease) → is_written (revoked_one choice o) ≡ is_written o
written_one choice None = refl
written_one choice (Some a) = refl

-- what was revoked stays so
pub still_revoked : (choice : Lease → Bool) (o : Option Lease) → is_revoked o ≡ true → is_revoked (revoked_one choice o) ≡ true
still_revoked choice None h = h
still_revoked choice (Some a) h = (elim (choice a) as (λ b. cond b true a.revoked ≡ true) [ true ↦ refl | false ↦ h ])

-- what is chosen is revoked
pub now_revoked : (choice : Lease → Bool) (o : Option Lease) → ((a : Lease) → o ≡ Some a → choice a ≡ true) → is_held o ≡ true →
    is_revoked (revoked_one choice o) ≡ true
now_revoked choice None f h = cc
now_revoked choice (Some a) f h = rw (f a refl) refl

-- what isn't chosen is revoked only if it was
pub was_revoked : (choice : Lease → Bool) (o : Option Lease) → ((a : Lease) → o ≡ Some a → choice a ≡ false) → is_revoked (revoked_one choice o) ≡ true →
    is_revoked o ≡ true
was_revoked choice None f h = h
was_revoked choice (Some a) f h = rw (f a refl) at h
