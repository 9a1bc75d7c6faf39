-- The invariant between events holds at the start.
use Rattle.assise_model_events.proofs.Common.{◌≡◌, ℕ, zero, suc, ◌<◌, ◌≤◌, List, length, Some, None, refl, ap, sym, ◌∙◌, arith, slice_get, nobody, fulls}
use Rattle.assise_model_events.proofs.Common.{all_full, standing_of, all_full_lawful, begun, begun_dropped, Leases, AreLeases, AreMembers, since_of}
use Rattle.assise_model_events.proofs.Common.{none_failed, begun_with, down_from, begun_sound, begun_recorded, node_of, of_node, MachineInvariant, begun_as}
use Rattle.assise_model_events.proofs.Common.{state_of}
use Rattle.assise_manager.specs.Standings.{full}

-- ---- full nodes

fulls_length : (count : ℕ) → length (fulls count) ≡ count
fulls_length zero = refl
fulls_length (suc count) = ap suc (fulls_length count)

fulls_get : (count place : ℕ) → place < count → slice_get (fulls count) place ≡ Some full
fulls_get zero place low = absurd (omega (arith, low))
fulls_get (suc count) zero low = refl
fulls_get (suc count) (suc place) low = fulls_get count place (omega (arith, low))

fulls_place : (count place : ℕ) → slice_get (fulls count) place ≡ Some full → place < count
fulls_place zero place at = cc
fulls_place (suc count) zero at = omega arith
fulls_place (suc count) (suc place) at = (let rest : place < count = fulls_place count place at in omega (arith, rest))

full_at : (count n : ℕ) → 1 ≤ n → n ≤ count → standing_of (fulls count) n ≡ Some full
full_at count zero low high = absurd (omega (arith, low))
full_at count (suc place) low high = fulls_get count place (omega (arith, high))

at_full : (count n : ℕ) → standing_of (fulls count) n ≡ Some full → (1 ≤ n) × (n ≤ count)
at_full count zero at = cc
at_full count (suc place) at = (let low : place < count = fulls_place count place at in (omega arith, omega (arith, low)))

none_since : (count n e : ℕ) → since_of (standing_of (fulls count) n) ≡ Some e → ⊥
none_since count n e at = (let same : None ≡ Some e = sym (none_failed count n) ∙ at in cc)

begun_members : (nodes : ℕ) → 0 < nodes → AreMembers (begun (down_from nodes)) (all_full nodes)
begun_members nodes some = grind (arith, all_full_lawful nodes some, node_of, full_at, at_full, of_node, none_since, since_of)

-- ---- leases

abbrev no_leases : Leases
no_leases = record { levels = nobody; cut = λ c i. 0 }

begun_leases : (nodes : List ℕ) → AreLeases (begun nodes) no_leases
begun_leases nodes = grind arith

-- ---- all of it

same_state : (nodes limit hot : ℕ) → state_of (begun_as nodes limit hot) ≡ begun_with nodes
same_state nodes limit hot = (let same : length (fulls nodes) ≡ nodes = fulls_length nodes in rw same refl)

pub begun_holds : (nodes limit hot : ℕ) → 0 < nodes → MachineInvariant (begun_as nodes limit hot)
begun_holds nodes limit hot some = search (begun_sound, begun_dropped, same_state, begun_recorded, begun_leases, begun_members, arith) parts 3
