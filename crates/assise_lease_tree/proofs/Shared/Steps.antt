-- What each call does keeps the two levels lawful, and lists of calls do.
use Rattle.assise_lease_tree.proofs.Common.{◌≡◌, ℕ, Bool, true, false, List, [], ◌∷◌, Some, None, refl, list_any, Mode, Lease, SameLeases, without_holder}
use Rattle.assise_lease_tree.proofs.Common.{revoke, is_own, leave_out_fits, arith, revoke_fits, Homes, in_way, is_free, TwoLevels, nobody, LevelsInvariant}
use Rattle.assise_lease_tree.proofs.Common.{EnrolsAt, is_free_for, IsGranted, IsAskedFor, ReleasesLease, IsRevoked, IsIdle, IsFreed}
use Rattle.assise_lease_tree.specs.LeaseCalls.{LeaseCall, LeaseCallDoes, AllLeaseCalls}
use Rattle.assise_lease_tree.specs.LeaseCalls.LeaseCall.{enrol, acquire, release, revoke_all, free_node}
use Rattle.assise_lease_tree.proofs.GrantSound.{client_granted_compatible, node_granted_compatible, granted_under, granted_asked}
use Rattle.assise_lease_tree.proofs.AskSound.{asked_under, asked_asked, nodes_asked_compatible}
use Rattle.assise_lease_tree.proofs.ReleaseSound.{released_under, released_asked, revoked_under, revoked_asked, freed_under, freed_asked, enrolled_under}
use Rattle.assise_lease_tree.proofs.ReleaseSound.{enrolled_asked}
use Rattle.assise_lease_tree.proofs.Lawful.{lawful_at, each_lawful, becomes_lawful, same_lawful, nobody_lawful}

-- who is granted has nobody in the way
pub nobody_in_way : (home : Homes) (cs ns : List Lease) (c n : ℕ) (mode : Mode) → is_free home cs ns c n mode ≡ true → list_any (in_way home ns c n mode) cs
    ≡ false
nobody_in_way home cs ns c n mode free = grind arith

module _ (old : TwoLevels) (lawful : LevelsInvariant old) where
  pub granted_lawful : (new : TwoLevels) (c n inode : ℕ) (mode : Mode) → old.home c ≡ Some n → is_free_for old c n inode mode ≡ true →
      IsGranted old new c n inode mode → LevelsInvariant new
  granted_lawful new c n inode mode at_home free g =
      let l = lawful_at lawful inode in
      let cs = old.clients inode in
      let ns = old.nodes inode in
      let none = nobody_in_way old.home cs ns c n mode free in
      becomes_lawful old new g.home g.clients g.nodes
      (search (client_granted_compatible, node_granted_compatible, granted_under, granted_asked, arith) parts 3) lawful

  pub asked_lawful : (new : TwoLevels) (c n inode : ℕ) (mode : Mode) → old.home c ≡ Some n → IsAskedFor old new c n inode mode → LevelsInvariant new
  asked_lawful new c n inode mode at_home a =
      let l = lawful_at lawful inode in
      let cs = old.clients inode in
      let ns = old.nodes inode in
      becomes_lawful old new a.home a.clients a.nodes
      (grind (
        arith,
        revoke_fits (in_way old.home ns c n mode) cs l.fits_c,
        nodes_asked_compatible old.home cs ns c n mode at_home l.under l.asked l.fits_n,
        asked_under old.home cs ns c n mode at_home l.under l.asked,
        asked_asked old.home cs ns c n mode at_home l.under l.asked,
      )) lawful

  pub released_lawful : (new : TwoLevels) (c n inode : ℕ) → old.home c ≡ Some n → ReleasesLease old new c n inode → LevelsInvariant new
  released_lawful new c n inode at_home r =
      let l = lawful_at lawful inode in
      let cs = old.clients inode in
      let ns = old.nodes inode in
      becomes_lawful old new r.home r.clients r.nodes (grind (arith, leave_out_fits, released_under, released_asked)) lawful

  pub all_revoked_lawful : (new : TwoLevels) (choice : Lease → Bool) → ((c : ℕ) → new.home c ≡ old.home c) →
      ((i : ℕ) → new.clients i ≡ revoke choice (old.clients i)) → SameLeases old.nodes new.nodes → LevelsInvariant new
  all_revoked_lawful new choice homes clients nodes = each_lawful new (λ i. revoke choice (old.clients i)) old.nodes homes clients nodes (λ i.
      let l = lawful_at lawful i in
      record {
        fits_c = revoke_fits choice (old.clients i) l.fits_c;
        fits_n = l.fits_n;
        under = revoked_under old.home (old.clients i) (old.nodes i) l.fits_n l.under l.asked choice;
        asked = revoked_asked old.home (old.clients i) (old.nodes i) l.fits_n l.under l.asked choice;
      })

  pub revoked_lawful : (new : TwoLevels) (c : ℕ) → IsRevoked old new c → LevelsInvariant new
  revoked_lawful new c f = all_revoked_lawful new (is_own c) f.home f.clients f.nodes

  pub freed_lawful : (new : TwoLevels) (n : ℕ) → IsIdle old n → IsFreed old new n → LevelsInvariant new
  freed_lawful new n idle f = each_lawful new old.clients (λ i. without_holder n (old.nodes i)) f.home f.clients f.nodes (λ i.
      let l = lawful_at lawful i in
      record {
        fits_c = l.fits_c;
        fits_n = leave_out_fits (is_own n) (old.nodes i) l.fits_n;
        under = freed_under old.home (old.clients i) (old.nodes i) l.fits_n l.under l.asked n (idle i);
        asked = freed_asked old.home (old.clients i) (old.nodes i) l.fits_n l.under l.asked n (idle i);
      })

  pub enrolled_lawful : (new : TwoLevels) (c n : ℕ) → old.home c ≡ None → EnrolsAt old new c n → LevelsInvariant new
  enrolled_lawful new c n none e = each_lawful {home = new.home} new old.clients old.nodes (λ d. refl) e.clients e.nodes (λ i.
      let l = lawful_at lawful i in
      record {
        fits_c = l.fits_c;
        fits_n = l.fits_n;
        under = enrolled_under old.home (old.clients i) (old.nodes i) l.fits_n l.under l.asked new.home c none e.home.elsewhere;
        asked = enrolled_asked old.home (old.clients i) (old.nodes i) l.fits_n l.under l.asked new.home c none e.home.elsewhere;
      })

  pub call_lawful : (call : LeaseCall) (new : TwoLevels) → LeaseCallDoes old call new → LevelsInvariant new
  call_lawful (enrol c n) new d = enrolled_lawful new c n d.0 d.1
  call_lawful (acquire c n inode mode) new d = grind (arith, granted_lawful, asked_lawful)
  call_lawful (release c n inode) new d = released_lawful new c n inode d.0 d.1
  call_lawful (revoke_all c) new d = revoked_lawful new c d
  call_lawful (free_node n) new d = freed_lawful new n d.0 d.1

pub all_lawful : (calls : List LeaseCall) (old new : TwoLevels) → LevelsInvariant old → AllLeaseCalls old calls new → LevelsInvariant new
all_lawful [] old new lawful same = same_lawful same lawful
all_lawful (call ∷ calls) old new lawful done =
    let next : LevelsInvariant done.0 = grind (arith, call_lawful) in
    all_lawful calls done.0 new next done.2

pub after_all : (calls : List LeaseCall) (new : TwoLevels) → AllLeaseCalls nobody calls new → LevelsInvariant new
after_all calls new done = all_lawful calls nobody new nobody_lawful done
