-- What is true of each inode's leases stays true where one inode's leases change, or where all change alike.
use Rattle.assise_lease_table.proofs.Common.{◌≡◌, ℕ, Bool, true, not, List, sym, refl, subst, ◌∙◌, Mode, Lease, Becomes, SameLeases, Among, compatible}
use Rattle.assise_lease_table.proofs.Common.{leave_out, with_lease, new_lease, revoke, revoked_if, IsFree, arith}
use Rattle.assise_lease_table.proofs.Shared.Elements.{among_filter, among_map, among_push}
use Rattle.assise_lease_table.proofs.Shared.Compatibles.{filter_compatible, map_compatible, with_compatible}

abbrev pub LeasesOf : Type 0
LeasesOf = ℕ → List Lease

-- true of the leases of each inode
abbrev pub OfEach : (List Lease → Type 0) → LeasesOf → Type 0
OfEach P m = (i : ℕ) → P (m i)

module _ (P : List Lease → Type 0) where
  pub becomes_each : {old new : LeasesOf} {inode : ℕ} {ls : List Lease} → Becomes old new inode ls → P ls → OfEach P old → OfEach P new
  becomes_each {old} {new} {inode} {ls} b here all i = grind arith

  pub same_each : {old new : LeasesOf} → SameLeases old new → OfEach P old → OfEach P new
  same_each same all i = subst P (sym (same i)) (all i)

  pub all_each : (old : LeasesOf) {new : LeasesOf} (f : List Lease → List Lease) → ((i : ℕ) → new i ≡ f (old i)) → ((ls : List Lease) → P ls → P (f ls)) →
      OfEach P old → OfEach P new
  all_each old f is keeps all i = subst P (sym (is i)) (keeps (old i) (all i))

abbrev pub Fits : List Lease → Type 0
Fits ls = compatible ls ≡ true

pub leave_out_fits : (choice : Lease → Bool) (ls : List Lease) → Fits ls → Fits (leave_out choice ls)
leave_out_fits choice ls c = filter_compatible (λ l. not (choice l)) ls c

pub revoke_fits : (choice : Lease → Bool) (ls : List Lease) → Fits ls → Fits (revoke choice ls)
revoke_fits choice ls c = map_compatible (λ l. revoked_if (choice l) l) (λ l. (refl, refl)) ls ∙ c

pub with_lease_fits : (h : ℕ) (mode : Mode) (ls : List Lease) → Fits ls → IsFree ls h mode → Fits (with_lease (new_lease h mode) ls)
with_lease_fits h mode ls c free = with_compatible ls (new_lease h mode) c free

-- each lease is of a holder that is known
abbrev pub Known : (ℕ → Bool) → List Lease → Type 0
Known known ls = (l : Lease) → Among ls l → known l.holder ≡ true

module _ (known : ℕ → Bool) where
  pub leave_out_known : (choice : Lease → Bool) (ls : List Lease) → Known known ls → Known known (leave_out choice ls)
  leave_out_known choice ls k l a = k l (among_filter (λ z. not (choice z)) ls l a).0

  pub revoke_known : (choice : Lease → Bool) (ls : List Lease) → Known known ls → Known known (revoke choice ls)
  revoke_known choice ls k l a = grind (arith, among_map)

  pub with_lease_known : (h : ℕ) (mode : Mode) (ls : List Lease) → known h ≡ true → Known known ls → Known known (with_lease (new_lease h mode) ls)
  with_lease_known h mode ls there k l a = grind (arith, among_push, leave_out_known)
