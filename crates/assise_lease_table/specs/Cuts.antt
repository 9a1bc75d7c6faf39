-- What clients answered when they were asked for their leases: up to where their logs have to be digested before the lease goes.
-- Assise (OSDI 2020), section 3 (CC-NVM: a holder whose lease is revoked says what has to be replicated before).
use Rattle.std.specs.Prelude.{ℕ, Bool, true, false, not, ◌==◌, ◌&&◌, if◌then◌else◌, List, [], ◌∷◌, Option, Some, None}
use Rattle.std.specs.List.{list_all, list_any}
use Rattle.assise_lease_table.specs.declared.lease.Asked.{Asked}
use Rattle.assise_lease_table.specs.declared.lease.Lease.{Lease}
use Rattle.assise_lease_table.specs.Leases.{is_to_ask}

-- it is the client's answer for the inode
abbrev pub is_of : ℕ → ℕ → Asked → Bool
is_of c i a = a.client == c && a.inode == i

-- the client was asked for its lease of the inode
abbrev pub is_asked : List Asked → ℕ → ℕ → Bool
is_asked asked c i = list_any (is_of c i) asked

-- the place that it answered, and 0 where it wasn't asked
abbrev pub cut_in : List Asked → ℕ → ℕ → ℕ
cut_in [] c i = 0
cut_in (a ∷ asked) c i = if is_of c i a then a.cut else cut_in asked c i

-- each was asked for a lease once
abbrev pub are_once : List Asked → Bool
are_once [] = true
are_once (a ∷ asked) = not (is_asked asked a.client a.inode) && are_once asked

-- nobody answered a place: all cuts are 0
abbrev pub are_uncut : List Asked → Bool
are_uncut asked = list_all (λ (a : Asked). a.cut == 0) asked

-- the chosen leases of the inode that aren't revoked, in their order: nobody was asked yet, so the cuts are 0
abbrev pub asked_at : (Lease → Bool) → ℕ → List Lease → List Asked
asked_at choice i [] = []
asked_at choice i (l ∷ ls) = if is_to_ask choice l then record { client = l.holder; inode = i; cut = 0 } ∷ asked_at choice i ls else asked_at choice i ls

-- there is a lease, and it was not asked for
abbrev pub is_unasked : Option Lease → Bool
is_unasked None = false
is_unasked (Some l) = not l.revoked
