-- A lease is granted against which nobody stands.
use Rattle.assise_model_leases.proofs.Common.{◌≡◌, ◌≢◌, ℕ, Bool, true, false, not, ◌&&◌, ◌||◌, List, Option, Some, None, refl, ap, sym, ◌∙◌, subst, arith}
use Rattle.assise_model_leases.proofs.Common.{list_any, cases_eq, Mode, Read, Write, Lease, Among, lease_of, new_lease, against, any_among, none_among, Homes}
use Rattle.assise_model_leases.proofs.Common.{Under, in_way, lives, raised_mode, clients_granted, nobody_in_way, granted_lawful, IsModeFree, Acquires}
use Rattle.assise_model_leases.proofs.Common.{WorldInvariant, World, Grants, Leases, client_lease, IsRevokedLease, AreLeases, is_held, is_written, lease_among}
use Rattle.assise_model_leases.proofs.Common.{with_own, with_other}
use Rattle.assise_model_leases.proofs.CutsCover.{covers_same}
use Rattle.assise_model_leases.proofs.Shared.QuietLeases.{still_client, was_client}

-- ---- modes

-- ---- nobody stands against it

and_false : (a b : Bool) → (a && b) ≡ false → a ≡ true → b ≡ false
and_false true b e t = e
and_false false b e t = cc

or_false : (a b : Bool) → (a || b) ≡ false → (a ≡ false) × (b ≡ false)
or_false true b e = cc
or_false false b e = (refl, e)

not_false : (b : Bool) → b ≡ false → not b ≡ true
not_false b e = rw e refl

module _ (home : Homes) (cs ns : List Lease) (c n : ℕ) (mode : Mode) (under : Under home cs ns) (nobody : list_any (in_way home ns c n mode) cs ≡ false) where
  -- another client's lease isn't against the mode: below the same node it stands in no way, and below another its node's doesn't
  others_agree : (b : Lease) → Among cs b → b.holder ≢ c → against mode b.mode ≡ false
  unfolding in_way
  others_agree b in_b other = grind (arith, none_among, any_among)

-- a lease that doesn't stand against reading isn't for writing, and none stands beside writing
not_written : (o : Option Lease) → ((b : Lease) → o ≡ Some b → against Read b.mode ≡ false) → is_written o ≡ false
not_written None f = refl
not_written (Some b) f = grind arith

not_held : (o : Option Lease) → ((b : Lease) → o ≡ Some b → against Write b.mode ≡ false) → is_held o ≡ false
not_held None f = refl
not_held (Some b) f = f b refl

module _ (w u : World) (l k : Leases) (c i : ℕ) (mode : Mode) (a : AreLeases w l) (e : Grants w l c i mode u k) where
  others_free : (d : ℕ) (b : Lease) → d ≢ c → client_lease l d i ≡ Some b → against mode b.mode ≡ false
  others_free d b other is = grind (arith, lease_among, others_agree, nobody_in_way)

  granted_free : (m : Mode) → mode ≡ m → IsModeFree w c i m
  granted_free Read is = λ d other. a.held.writes d i
      ∙ not_written (client_lease l d i) (λ b h. subst (λ m. against m b.mode ≡ false) is (others_free d b other h))
  granted_free Write is = λ d other. a.held.holds d i
      ∙ not_held (client_lease l d i) (λ b h. subst (λ m. against m b.mode ≡ false) is (others_free d b other h))

  abbrev given : Lease
  given = new_lease c (raised_mode mode (client_lease l c i))

  here : client_lease k c i ≡ Some given
  unfolding clients_granted
  here = ap (λ ls. lease_of ls c) e.granted.clients.here ∙ with_own given (l.levels.clients i)

  elsewhere : (d j : ℕ) → (d ≡ c → j ≡ i → ⊥) → client_lease k d j ≡ client_lease l d j
  unfolding clients_granted
  elsewhere d j differs = grind (arith, cases_eq, with_other)

  pub grant_acquires : Acquires w c i mode u
  grant_acquires = search (granted_free mode refl, here, elsewhere, arith) parts 3

  -- the lease that is granted isn't revoked
  was_revoked : (d j : ℕ) → IsRevokedLease k d j → IsRevokedLease l d j
  was_revoked d j h = grind arith

  pub grant_keeps : WorldInvariant w → AreLeases u k
  grant_keeps s = record {
    lawful = granted_lawful l.levels a.lawful k.levels c (w.home c) i mode (a.homes c (s.opened c e.lives_on)) e.free e.granted;
    held = e.holds.held;
    homes = λ d o. e.granted.home d ∙ a.homes d (still_client w u l a e.holds.clients d o) ∙ ap (λ m. Some m) (sym (e.holds.clients.home d));
    strangers = λ d no. e.granted.home d ∙ a.strangers d (λ o. no (was_client w u l a e.holds.clients d o));
    covered = λ d j h. rw (e.cuts d j) (covers_same w u d j (l.cut d j) (e.holds.logs.records d) (e.holds.logs.first d) (a.covered d j (was_revoked d j h)));
    goals = λ d j lives h. rw (e.cuts d j, e.holds.goals d) (a.goals d j (sym (e.holds.clients.lives d) ∙ lives) (was_revoked d j h));
    borders = λ d j h low. subst (λ m. u.border d m ≡ true) (sym (e.cuts d j))
        (e.holds.logs.border d (l.cut d j) ∙ a.borders d j (was_revoked d j h) (omega (arith, low, e.cuts d j, e.holds.logs.first d)));
    crashed = grind arith;
    failed = grind arith;
  }
