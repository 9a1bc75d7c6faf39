-- The leases of one inode, as a list with at most one lease of each holder. Assise (OSDI 2020), section 3: a lease is
-- shared by readers or held by one writer, and is revoked when another asks for it.
use Rattle.std.specs.Prelude.{◌≡◌, ◌≢◌, ℕ, ◌==◌, ◌&&◌, not, Bool, true, false, List, [], ◌∷◌, ◌++◌, cond, Option, Some, None, filter, map, ◌⊎◌}
use Rattle.std.specs.List.{list_all, list_any, find}
use Rattle.assise_names.specs.declared.mode.Mode.{Mode}
use Rattle.assise_lease_table.specs.declared.lease.Lease.{Lease}
use Rattle.assise_lease_table.specs.Modes.{against, strong, stronger}

-- the element is one of the list
abbrev pub Among : {X : Type 0} → List X → X → Type 0
Among [] x = ⊥
Among (y ∷ ys) x = (x ≡ y) ⊎ Among ys x

-- the lease is the holder's
abbrev pub is_own : ℕ → Lease → Bool
is_own h l = l.holder == h

-- the holder's lease
abbrev pub lease_of : List Lease → ℕ → Option Lease
lease_of ls h = find (is_own h) ls

-- two leases that can stand together: of two holders, and neither against the other
abbrev pub stand_together : Lease → Lease → Bool
stand_together a b = not (a.holder == b.holder) && not (against a.mode b.mode)

-- compatible leases: each two of them can stand together
abbrev pub compatible : List Lease → Bool
compatible [] = true
compatible (l ∷ ls) = list_all (stand_together l) ls && compatible ls

-- no holder but this one stands against the mode
abbrev pub IsFree : List Lease → ℕ → Mode → Type 0
IsFree ls h mode = (l : Lease) → Among ls l → l.holder ≢ h → against mode l.mode ≡ false

-- a lease may be given in this mode: the holder's own, if any, is neither revoked nor stronger
abbrev pub may_raise : Option Lease → Mode → Bool
may_raise None mode = true
may_raise (Some l) mode = not l.revoked && strong mode l.mode

-- a lease serves where the mode is wanted: it is strong enough and not revoked
abbrev pub serves : Option Lease → Mode → Bool
serves None mode = false
serves (Some l) mode = not l.revoked && strong l.mode mode

-- the lease stands against the mode, and is not the holder's own
abbrev pub is_rival : ℕ → Mode → Lease → Bool
is_rival h mode l = not (l.holder == h) && against mode l.mode

-- a holder may be given a lease in a mode: it may raise its own, and nobody is its rival
abbrev pub may_be_held : List Lease → ℕ → Mode → Bool
may_be_held ls h mode = may_raise (lease_of ls h) mode && not (list_any (is_rival h mode) ls)

-- a chosen lease that is not revoked yet
abbrev pub is_to_ask : (Lease → Bool) → Lease → Bool
is_to_ask choice l = not l.revoked && choice l

-- a lease as it is given: it serves
abbrev pub new_lease : ℕ → Mode → Lease
new_lease h mode = record { holder = h; mode = mode; revoked = false }

-- the chosen leases are left out
abbrev pub leave_out : (Lease → Bool) → List Lease → List Lease
leave_out choice ls = filter (λ l. not (choice l)) ls

-- without the holder's lease
abbrev pub without_holder : ℕ → List Lease → List Lease
without_holder h ls = leave_out (is_own h) ls

-- with this lease in place of the holder's old one
abbrev pub with_lease : Lease → List Lease → List Lease
with_lease lease ls = without_holder lease.holder ls ++ lease ∷ []

abbrev pub revoked_if : Bool → Lease → Lease
revoked_if b l = record l { revoked = cond b true l.revoked }

-- the chosen leases are revoked: they serve no call any more
abbrev pub revoke : (Lease → Bool) → List Lease → List Lease
revoke choice ls = map (λ l. revoked_if (choice l) l) ls

abbrev pub raised_if : Bool → Mode → Lease → Lease
raised_if b mode l = record l { mode = cond b (stronger l.mode mode) l.mode }

-- the lease is the holder's, and wasn't asked for
abbrev pub is_own_unasked : ℕ → Lease → Bool
is_own_unasked h l = l.holder == h && not l.revoked

-- the holder's lease that wasn't asked for has this mode where its own is weaker
abbrev pub raise : ℕ → Mode → List Lease → List Lease
raise h mode ls = map (λ l. raised_if (is_own_unasked h l) mode l) ls

-- it is raised unless another holder's stands against the mode
abbrev pub raise_unopposed : ℕ → Mode → List Lease → List Lease
raise_unopposed h mode ls = cond (list_any (is_rival h mode) ls) ls (raise h mode ls)

-- the holders of the leases
abbrev pub holders : List Lease → List ℕ
holders ls = map (λ l. l.holder) ls
