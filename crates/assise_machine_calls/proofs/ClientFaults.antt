-- Which fault of a client stands, by what is known of it.
use Rattle.assise_machine_calls.proofs.Common.{◌≡◌, ℕ, ◌<◌, ◌≤◌, nat_le, Bool, true, false, not, length, Option, Some, None, refl, ◌∙◌, arith, le-leb, lt-leb}
use Rattle.assise_machine_calls.proofs.Common.{Refusal, BadClient, ClientGone, NodeDown, client_fault, fault_if, or_else, ClientValue, client_in, observed}
use Rattle.assise_machine_calls.proofs.Common.{world_of, IsNumber, StateValue}
use Rattle.std.proofs.Math.Bool.{and-false}

-- ---- there is no such client

pub zero_fault : (s : StateValue) (c : ℕ) → c ≡ 0 → client_fault (observed s) c ≡ Some BadClient
zero_fault s c is = rw is refl

pub past_fault : (s : StateValue) (c : ℕ) → length s.clients < c → client_fault (observed s) c ≡ Some BadClient
unfolding observed world_of
past_fault s c past = rw (lt-leb c (length s.clients) past, and-false (nat_le 1 c)) refl

-- ---- there is one

-- the faults of a client that was opened
abbrev known_fault : ClientValue → Option Refusal
known_fault x = or_else (fault_if x.crashed ClientGone) (fault_if x.failed NodeDown)

not_not : (b : Bool) → not (not b) ≡ b
not_not true = refl
not_not false = refl

fault_is : (s : StateValue) (c : ℕ) → IsNumber s.clients c → client_fault (observed s) c ≡ known_fault (client_in s.clients c)
unfolding observed world_of
fault_is s c there =
    let some : 1 ≤ c = omega (arith, there.some) in
    rw (le-leb 1 c some, le-leb c (length s.clients) there.there, not_not (client_in s.clients c).failed) refl

pub gone_fault : (s : StateValue) (c : ℕ) → IsNumber s.clients c → (client_in s.clients c).crashed ≡ true → client_fault (observed s) c ≡ Some ClientGone
gone_fault s c there crashed = fault_is s c there ∙ rw crashed refl

pub down_fault : (s : StateValue) (c : ℕ) → IsNumber s.clients c → (client_in s.clients c).crashed ≡ false → (client_in s.clients c).failed ≡ true →
    client_fault (observed s) c ≡ Some NodeDown
down_fault s c there running failed = fault_is s c there ∙ rw (running, failed) refl

pub no_fault : (s : StateValue) (c : ℕ) → IsNumber s.clients c → (client_in s.clients c).crashed ≡ false → (client_in s.clients c).failed ≡ false →
    client_fault (observed s) c ≡ None
no_fault s c there running lives = fault_is s c there ∙ rw (running, lives) refl
