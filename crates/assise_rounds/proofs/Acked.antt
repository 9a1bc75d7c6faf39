-- A number for each client, client by client.
use Rattle.assise_rounds.proofs.Common.{◌≡◌, ◌≤◌, ◌<◌, ◌⊎◌, ℕ, suc, ◌+◌, min, List, [], ◌∷◌, ◌++◌, length, slice_index_or, zero, true, false, refl, arith}
use Rattle.assise_rounds.proofs.Common.{cases_lt, World, received_by_all, AreAcked}
use Rattle.std.proofs.lemmas.List.{get_or_append_left, length-append}
use Rattle.std.proofs.Math.Seq.{get_or-append_seam}

-- of the first `i` clients, if there are as many
pub record AreAckedTo (w : World) (i : ℕ) (acked : List ℕ) : Type 0 where
  pub count : length acked ≡ min i w.clients
  pub each : (c : ℕ) → c < length acked → slice_index_or acked c 0 ≡ received_by_all w (suc c)

pub none_acked : (w : World) → AreAckedTo w 0 []
none_acked w = record { count = omega arith; each = λ c few. absurd (omega (arith, few)) }

split : (c n k : ℕ) → c < n → n ≡ k + 1 → (c < k) ⊎ (c ≡ k)
split c n k few long = grind (arith, cases_lt)

pub one_acked : (w : World) (i place : ℕ) (acked : List ℕ) → AreAckedTo w i acked → i + 1 ≤ w.clients → place ≡ received_by_all w (i + 1) →
    AreAckedTo w (i + 1) (acked ++ place ∷ [])
one_acked w i place acked h is_client is = grind
    (arith, length-append acked (place ∷ []), split, get_or_append_left, get_or-append_seam acked place, received_by_all w)

pub no_more_acked : (w : World) (i : ℕ) (acked : List ℕ) → AreAckedTo w i acked → (i + 1 ≤ w.clients → ⊥) → AreAckedTo w (i + 1) acked
no_more_acked w i acked h none = record { count = omega (arith, h.count, none); each = h.each }

pub all_acked : (w : World) (i : ℕ) (acked : List ℕ) → w.clients ≤ i → AreAckedTo w i acked → AreAcked w acked
all_acked w i acked few h = grind arith

-- ---- there is such a list

acked_of : World → ℕ → List ℕ
acked_of w zero = []
acked_of w (suc i) = acked_of w i ++ received_by_all w (i + 1) ∷ []

acked_up_to : (w : World) (i : ℕ) → i ≤ w.clients → AreAckedTo w i (acked_of w i)
unfolding acked_of
acked_up_to w zero few = none_acked w
acked_up_to w (suc i) few =
    let next : suc i ≡ i + 1 = omega arith in
    rw next (one_acked w i (received_by_all w (i + 1)) (acked_of w i) (acked_up_to w i (omega (arith, few))) (omega (arith, few)) refl)

pub some_acked : (w : World) → (acked : List ℕ) × AreAcked w acked
some_acked w = (acked_of w w.clients, all_acked w w.clients (acked_of w w.clients) (omega arith) (acked_up_to w w.clients (omega arith)))

pub not_both : false ≡ true → ⊥
not_both is = cc
