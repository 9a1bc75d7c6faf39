-- What is known of clients, beside their logs and leases.
-- Assise (OSDI 2020), section 3 (CC-NVM: update logs, leases, process crash, fail-over).
use Rattle.std.specs.Prelude.{ℕ, ◌+◌, max, min, Bool, true, false, ◌||◌, ◌≡◌, if◌then◌else◌, List, refl}
use Rattle.std.proofs.Common.{ap}
use Rattle.std.specs.Coded.{Coded, code_by, coded×, coded_bool, coded_ℕ}
use Rattle.assise_names.specs.declared.durability.Durability.{Durability}
use Rattle.assise_names.specs.declared.durability.Durability.TheVariants.{Pessimistic, Optimistic}
use Rattle.assise_lease_table.specs.declared.lease.Asked.{Asked}
use Rattle.assise_lease_table.specs.Cuts.{cut_in}
use Rattle.assise_machine_state.specs.Places.{item_at, with_item}

-- ---- one client

pub record ClientValue : Type 0 where
  -- the node on which it was opened
  pub home : ℕ
  -- how its fsyncs are served
  pub durability : Durability
  -- the place up to which its log is to be replicated
  pub goal : ℕ
  -- how many of its calls were answered, and how many inodes it made
  pub next : ℕ
  pub made : ℕ
  pub crashed : Bool
  -- its node has failed since it was opened
  pub failed : Bool
  -- the cut of all its leases once it is over
  pub last_cut : ℕ

abbrev waits_for_nothing : Durability → Bool
waits_for_nothing Pessimistic = false
waits_for_nothing Optimistic = true

abbrev by_waiting : Bool → Durability
by_waiting false = Pessimistic
by_waiting true = Optimistic

pub back_again : (u : Durability) → by_waiting (waits_for_nothing u) ≡ u
back_again Pessimistic = refl
back_again Optimistic = refl

abbrev ClientParts : Type 0
ClientParts = Bool × (ℕ × (ℕ × (ℕ × (ℕ × (Bool × (Bool × ℕ))))))

-- a client is stored as the tuple of its fields
abbrev pub coded_client : Coded ClientValue
coded_client =
    code_by ClientParts (coded× coded_bool (coded× coded_ℕ (coded× coded_ℕ (coded× coded_ℕ (coded× coded_ℕ (coded× coded_bool (coded× coded_bool coded_ℕ)))))))
    (λ c. (waits_for_nothing c.durability, (c.home, (c.goal, (c.next, (c.made, (c.crashed, (c.failed, c.last_cut))))))))
    (λ p. record { durability = by_waiting p.0; home = p.1.0; goal = p.1.1.0; next = p.1.1.1.0; made = p.1.1.1.1.0; crashed = p.1.1.1.1.1.0; failed = p.1.1.1.1.1.1.0; last_cut = p.1.1.1.1.1.1.1 })
    (λ c. ap (λ u. record c { durability = u }) (back_again c.durability))

-- it crashed, or its node has failed since it was opened
abbrev pub is_over : ClientValue → Bool
is_over c = c.crashed || c.failed

-- the cut of a revoked lease of it: what it answered, and one serves all its leases once it is over
abbrev pub cut_once_asked : ClientValue → (answered : ℕ) → ℕ
cut_once_asked x k = if is_over x then x.last_cut else k

abbrev pub cut_of : List Asked → (client : ℕ) → ClientValue → (inode : ℕ) → ℕ
cut_of asked c x i = cut_once_asked x (cut_in asked c i)

-- ---- changes of one

-- opened on a node
abbrev pub opened_on : ℕ → Durability → ClientValue
opened_on home u = record { home = home; durability = u; goal = 0; next = 0; made = 0; crashed = false; failed = false; last_cut = 0 }

-- a call more is answered, which makes an inode or none
abbrev pub with_call : Bool → ClientValue → ClientValue
with_call makes c = record c { next = c.next + 1; made = if makes then c.made + 1 else c.made }

-- its log is to be replicated up to this place, or further where it was
abbrev pub with_goal : ℕ → ClientValue → ClientValue
with_goal to c = record c { goal = max c.goal to }

-- it crashed, and its log ends here
abbrev pub crashed_at : ℕ → ClientValue → ClientValue
crashed_at end c = record c { goal = end; crashed = true; last_cut = end }

-- its node failed, and its log was kept up to here
abbrev pub failed_at : ℕ → ClientValue → ClientValue
failed_at end c = record c { goal = min c.goal end; failed = true; last_cut = end }

-- ---- all of them

-- where no client was opened, none lives
abbrev pub no_client : ClientValue
no_client = record { home = 0; durability = Pessimistic; goal = 0; next = 0; made = 0; crashed = false; failed = true; last_cut = 0 }

unfoldable pub client_in : List ClientValue → ℕ → ClientValue
client_in cs c = item_at no_client cs c

abbrev pub with_client : List ClientValue → ℕ → ClientValue → List ClientValue
with_client cs c x = with_item cs c x
