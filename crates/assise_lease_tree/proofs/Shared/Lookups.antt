-- What a look-up finds once a lease is put or taken away.
use Rattle.assise_lease_tree.proofs.Common.{◌≡◌, ◌≢◌, ℕ, ◌==◌, Bool, true, false, cond, not, List, [], ◌∷◌, ◌++◌, Option, Some, None, sym, refl, ap, ◌∙◌}
use Rattle.assise_lease_tree.proofs.Common.{eq-eqb, ne_eqb, Lease, lease_of, without_holder, with_lease, arith}

none_at : (b : Bool) (l : Lease) (o : Option Lease) → cond b (Some l) o ≡ None → (b ≡ false) × (o ≡ None)
none_at true l o e = cc
none_at false l o e = (refl, e)

push_none : (ls : List Lease) (x : Lease) (h : ℕ) → lease_of ls h ≡ None → lease_of (ls ++ x ∷ []) h ≡ cond (x.holder == h) (Some x) None
push_none [] x h e = refl
push_none (l ∷ ls) x h e =
    let parts = none_at (l.holder == h) l (lease_of ls h) e in
    ap (λ b. cond b (Some l) (lease_of (ls ++ x ∷ []) h)) parts.0 ∙ push_none ls x h parts.1

push_other : (ls : List Lease) (x : Lease) (h : ℕ) → (x.holder == h) ≡ false → lease_of (ls ++ x ∷ []) h ≡ lease_of ls h
push_other [] x h e = ap (λ b. cond b (Some x) None) e
push_other (l ∷ ls) x h e = ap (λ o. cond (l.holder == h) (Some l) o) (push_other ls x h e)

own_step : (l : Lease) (ls : List Lease) (h : ℕ) (b : Bool) → (l.holder == h) ≡ b → lease_of (without_holder h ls) h ≡ None →
    lease_of (cond (not b) (l ∷ without_holder h ls) (without_holder h ls)) h ≡ None
own_step l ls h true e rest = rest
own_step l ls h false e rest = ap (λ b. cond b (Some l) (lease_of (without_holder h ls) h)) e ∙ rest

pub without_own : (ls : List Lease) (h : ℕ) → lease_of (without_holder h ls) h ≡ None
without_own [] h = refl
without_own (l ∷ ls) h = own_step l ls h (l.holder == h) refl (without_own ls h)

other_step : (l : Lease) (ls : List Lease) (h c : ℕ) (b : Bool) → (l.holder == h) ≡ b → c ≢ h → lease_of (without_holder h ls) c ≡ lease_of ls c
    → lease_of (cond (not b) (l ∷ without_holder h ls) (without_holder h ls)) c ≡ cond (l.holder == c) (Some l) (lease_of ls c)
other_step l ls h c true e other rest = grind arith
other_step l ls h c false e other rest = ap (λ o. cond (l.holder == c) (Some l) o) rest

pub without_other : (ls : List Lease) (h c : ℕ) → c ≢ h → lease_of (without_holder h ls) c ≡ lease_of ls c
without_other [] h c other = refl
without_other (l ∷ ls) h c other = other_step l ls h c (l.holder == h) refl other (without_other ls h c other)

pub with_own : (x : Lease) (ls : List Lease) → lease_of (with_lease x ls) x.holder ≡ Some x
with_own x ls = push_none (without_holder x.holder ls) x x.holder (without_own ls x.holder) ∙ ap (λ b. cond b (Some x) None) (eq-eqb x.holder x.holder refl)

pub with_other : (x : Lease) (ls : List Lease) (c : ℕ) → c ≢ x.holder → lease_of (with_lease x ls) c ≡ lease_of ls c
with_other x ls c other = push_other (without_holder x.holder ls) x c (ne_eqb x.holder c (λ same. other (sym same))) ∙ without_other ls x.holder c other
