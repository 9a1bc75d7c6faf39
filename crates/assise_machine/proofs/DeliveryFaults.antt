-- Why nothing can be delivered to a node, and where it can.
use Rattle.assise_machine.proofs.Common.{◌≡◌, ℕ, ◌<◌, ◌≤◌, nat_le, Bool, true, false, not, ◌&&◌, Option, Some, None, length, refl, sym, ◌∙◌, arith, and_from}
use Rattle.assise_machine.proofs.Common.{and_parts, and_right, cases_Bool, le-leb, leb-true, Refusal, BadClient, WrongPhase, LogFrame, Standing, standing_of}
use Rattle.assise_machine.proofs.Common.{delivery_fault, fault_if, node_fault, or_else, unless_full, is_full_in, observed, stands_full, world_of, IsNumber}
use Rattle.assise_machine.proofs.Common.{StateValue, standings}

-- whether there is a client of number `c`, of `k` in all
abbrev is_known : ℕ → ℕ → Bool
is_known c k = nat_le 1 c && nat_le c k

-- the fault, by what is known of the node and of how many clients there are
fault_is : (s : StateValue) (f : LogFrame) (n : ℕ) →
    delivery_fault (observed s) f n ≡ or_else (unless_full WrongPhase (standing_of (standings s) n))
    (fault_if (not (is_known f.client (length s.clients))) BadClient)
unfolding observed world_of
fault_is s f n = refl

node_is : (s : StateValue) (n : ℕ) → node_fault (observed s) n ≡ unless_full WrongPhase (standing_of (standings s) n)
unfolding observed
node_is s n = refl

pub node_refused : (s : StateValue) (f : LogFrame) (n : ℕ) (r : Refusal) → node_fault (observed s) n ≡ Some r → delivery_fault (observed s) f n ≡ Some r
node_refused s f n r same = fault_is s f n ∙ rw (sym (node_is s n) ∙ same) refl

past_last : (c k : ℕ) → k < c → nat_le c k ≡ false
past_last c k past = grind (arith, cases_Bool, leb-true)

pub no_client : (s : StateValue) (f : LogFrame) (n : ℕ) → node_fault (observed s) n ≡ None → length s.clients < f.client → delivery_fault (observed s) f n
    ≡ Some BadClient
no_client s f n same past = grind (arith, and_right, past_last, fault_is, node_is)

pub may_deliver : (s : StateValue) (f : LogFrame) (n : ℕ) → node_fault (observed s) n ≡ None → 0 < f.client → f.client ≤ length s.clients →
    delivery_fault (observed s) f n ≡ None
may_deliver s f n same some low = grind (arith, and_from, le-leb, fault_is, node_is)

-- ---- what holds where there is none

full_then : (o : Option Standing) (later : Option Refusal) → or_else (unless_full WrongPhase o) later ≡ None → stands_full o ≡ true
full_then o later fine = grind arith

known_then : (o : Option Refusal) (b : Bool) → or_else o (fault_if (not b) BadClient) ≡ None → b ≡ true
known_then o b fine = grind arith

pub fine_full : (s : StateValue) (f : LogFrame) (n : ℕ) → delivery_fault (observed s) f n ≡ None → is_full_in (standings s) n ≡ true
unfolding is_full_in
fine_full s f n fine = full_then (standing_of (standings s) n) (fault_if (not (is_known f.client (length s.clients))) BadClient) (sym (fault_is s f n) ∙ fine)

pub fine_client : (s : StateValue) (f : LogFrame) (n : ℕ) → delivery_fault (observed s) f n ≡ None → IsNumber s.clients f.client
fine_client s f n fine = grind (arith, known_then, fault_is, and_parts, leb-true)
