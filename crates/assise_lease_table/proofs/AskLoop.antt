-- A loop that asks one after another.
use Rattle.assise_lease_table.proofs.Common.{◌≡◌, ℕ, zero, suc, ◌+◌, ◌<◌, Bool, true, false, List, [], ◌∷◌, ◌++◌, length, take, get_or, Option, inl, inr, refl}
use Rattle.assise_lease_table.proofs.Common.{arith, append-nil, map_push, Read, Lease, Asked, Among, is_to_ask, IsAnswer, AnswerAll}
use Rattle.std.proofs.lemmas.Grind.{take_at_read}
use Rattle.std.proofs.lemmas.List.Elements.{filter-append}
use Rattle.assise_private_log.specs.NumberedLog.{NumberedLog}
use Rattle.assise_lease_table.proofs.Shared.Elements.{among_push}

pub among_at : {X : Type 0} (xs : List X) (i : ℕ) (d : X) → i < length xs → Among xs (get_or xs i d)
among_at [] i d h = absurd (omega arith)
among_at (x ∷ xs) zero d h = inl refl
among_at (x ∷ xs) (suc i) d h = inr (among_at xs i d (omega arith))

-- what stands at a place where there is none
abbrev pub no_lease : Lease
no_lease = record { holder = 0; mode = Read; revoked = false }

module _ {C : Type 0} (answers : C → NumberedLog → ℕ → ℕ → Type 0) (revoker_of : ℕ → Option C) (view_of : ℕ → Option NumberedLog) (inode : ℕ)
    (choice : Lease → Bool) where
  abbrev pub Each : List Asked → Type 0
  Each asked = (a : Asked) → Among asked a → IsAnswer answers revoker_of view_of inode a

  pub answered_none : AnswerAll answers revoker_of view_of inode choice [] []
  answered_none = record { who = refl; each = λ a none. absurd none }

  pub asked_more : (xs : List Lease) (i : ℕ) (d : Lease) (asked : List Asked) (a : Asked) → i < length xs → AnswerAll answers revoker_of view_of inode choice
      (take i xs) asked
      → is_to_ask choice (get_or xs i d) ≡ true → a.client ≡ (get_or xs i d).holder → IsAnswer answers revoker_of view_of inode a
      → AnswerAll answers revoker_of view_of inode choice (take (i + 1) xs) (asked ++ a ∷ [])
  asked_more xs i d asked a h so_far chosen mine answer = grind (arith, map_push, take_at_read, filter-append, among_push)

  pub asked_same : (xs : List Lease) (i : ℕ) (d : Lease) (asked : List Asked) → i < length xs → AnswerAll answers revoker_of view_of inode choice (take i xs)
      asked
      → is_to_ask choice (get_or xs i d) ≡ false
      → AnswerAll answers revoker_of view_of inode choice (take (i + 1) xs) asked
  asked_same xs i d asked h so_far passed = grind (arith, take_at_read, filter-append, append-nil)
