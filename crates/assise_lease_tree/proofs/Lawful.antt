-- What is lawful inode by inode.
use Rattle.assise_lease_tree.proofs.Common.{◌≡◌, ℕ, true, List, sym, refl, Lease, Becomes, compatible, Homes, Under, AskedBelow, TwoLevels, LevelsInvariant}
use Rattle.assise_lease_tree.proofs.Common.{SameLevels, nobody, arith}

-- the leases of one inode are lawful
pub record LawfulAt (home : Homes) (cs ns : List Lease) : Type 0 where
  pub fits_c : compatible cs ≡ true
  pub fits_n : compatible ns ≡ true
  pub under : Under home cs ns
  pub asked : AskedBelow home cs ns

pub lawful_at : {t : TwoLevels} → LevelsInvariant t → (i : ℕ) → LawfulAt t.home (t.clients i) (t.nodes i)
lawful_at l i = record { fits_c = l.clients_compatible i; fits_n = l.nodes_compatible i; under = l.under i; asked = l.asked i }

pub from_each : (t : TwoLevels) → ((i : ℕ) → LawfulAt t.home (t.clients i) (t.nodes i)) → LevelsInvariant t
from_each t h = record { clients_compatible = λ i. (h i).fits_c; nodes_compatible = λ i. (h i).fits_n; under = λ i. (h i).under; asked = λ i. (h i).asked }

same_at : {home later : Homes} {cs ds ns ms : List Lease} → ((c : ℕ) → later c ≡ home c) → ds ≡ cs → ms ≡ ns → LawfulAt home cs ns → LawfulAt later ds ms
same_at {home} {later} {cs} {ds} {ns} {ms} homes clients nodes l = grind arith

-- where each inode's leases are known
pub each_lawful : {home : Homes} (new : TwoLevels) (cs ns : ℕ → List Lease) → ((c : ℕ) → new.home c ≡ home c) → ((i : ℕ) → new.clients i ≡ cs i) →
    ((i : ℕ) → new.nodes i ≡ ns i)
    → ((i : ℕ) → LawfulAt home (cs i) (ns i)) → LevelsInvariant new
each_lawful new cs ns homes clients nodes h = from_each new (λ i. same_at homes (clients i) (nodes i) (h i))

-- where the leases of one inode change
pub becomes_lawful : (old new : TwoLevels) {inode : ℕ} {cs ns : List Lease} → ((c : ℕ) → new.home c ≡ old.home c) → Becomes old.clients new.clients inode cs →
    Becomes old.nodes new.nodes inode ns
    → LawfulAt old.home cs ns → LevelsInvariant old → LevelsInvariant new
becomes_lawful old new {inode} {cs} {ns} homes clients nodes here lawful = from_each new (λ i. grind arith)

pub same_lawful : {old new : TwoLevels} → SameLevels old new → LevelsInvariant old → LevelsInvariant new
same_lawful {old} {new} same lawful = each_lawful new old.clients old.nodes same.home same.clients same.nodes (lawful_at lawful)

pub nobody_lawful : LevelsInvariant nobody
nobody_lawful = from_each nobody (λ i. record { fits_c = refl; fits_n = refl; under = λ l a. absurd a; asked = λ k a revoked. absurd a })

pub unchanged : {m : ℕ → List Lease} {inode : ℕ} {ls : List Lease} → ls ≡ m inode → Becomes m m inode ls
unchanged same = record { here = sym same; elsewhere = λ i n. refl }
