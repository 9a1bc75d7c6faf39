-- Answers stay noted where they stay, and where more come with the leases that are revoked.
use Rattle.assise_machine_state.proofs.Common.{◌≡◌, ◌≢◌, ◌⊎◌, ℕ, suc, ◌≤◌, ◌==◌, if◌then◌else◌, Bool, true, false, ◌&&◌, ◌||◌, List, [], ◌∷◌, ◌++◌, length}
use Rattle.assise_machine_state.proofs.Common.{Option, Some, None, inl, inr, refl, ap, sym, ◌∙◌, arith, true≢false, eq-eqb, ∥∥₁_elim, props, nat_cmp, and_from}
use Rattle.assise_machine_state.proofs.Common.{and_parts, cases_Bool, cases_lt, false_from_ne_true, ne_eqb, not-true, or_cases, or_left, or_right, length_push}
use Rattle.assise_machine_state.proofs.Common.{list_any-append, Durability, NumberedCall, Asked, Lease, revoke, is_own, lease_of, is_revoked, lives, EnrolsAt}
use Rattle.assise_machine_state.proofs.Common.{IsRevoked, TwoLevels, kept_at_failure, end_of_log, AreLeases, is_held, revoke_of, revoked_one, after_call}
use Rattle.assise_machine_state.proofs.Common.{after_crash, after_failure, after_goal, after_leases, after_open, ClientValue, client_in, crashed_at, cut_of}
use Rattle.assise_machine_state.proofs.Common.{failed_at, is_over, no_client, are_once, cut_in, is_asked, is_of, is_unasked, world_of, IsNumber, AreLeft}
use Rattle.assise_machine_state.proofs.Common.{CutsInvariant, SameRevoked, StateValue, leases_of}
use Rattle.std.specs.FinSet as set
use Rattle.assise_lease_tree.proofs.Shared.ClientHomes.{lease_among}
use Rattle.assise_model_leases.proofs.Shared.QuietLeases.{holder_home}
use Rattle.assise_machine_state.proofs.Shared.CutSeen.{count_over}
use Rattle.assise_machine_state.proofs.Shared.ItemSeen.{length-with, seen_number}

-- ---- one client

-- a client that isn't over was opened
pub running_number : (cs : List ClientValue) (c : ℕ) → is_over (client_in cs c) ≡ false → IsNumber cs c
unfolding client_in
running_number cs c runs = seen_number no_client cs c (λ none. true≢false (sym (ap is_over none) ∙ runs))

pub failed_over : (k : ℕ) (x : ClientValue) → is_over (failed_at k x) ≡ true
failed_over k x = or_right x.crashed true refl

-- ---- answers

-- one that wasn't asked has no cut
pub none_cut : (asked : List Asked) (c i : ℕ) → is_asked asked c i ≡ false → cut_in asked c i ≡ 0
none_cut [] c i none = refl
none_cut (a ∷ asked) c i none = grind (arith, cases_Bool, (none_cut asked c i))

pub once_both : (xs ys : List Asked) → are_once xs ≡ true → are_once ys ≡ true → ((d j : ℕ) → is_asked xs d j ≡ true → is_asked ys d j ≡ false) →
    are_once (xs ++ ys) ≡ true
once_both [] ys once more other = more
once_both (x ∷ xs) ys once more other = grind (arith, and_parts, and_from, eq-eqb, list_any-append, not-true, or_left, or_right, (once_both xs ys))

pub asked_either : (xs ys : List Asked) (d j : ℕ) → is_asked (xs ++ ys) d j ≡ true → (is_asked xs d j ≡ true) ⊎ (is_asked ys d j ≡ true)
asked_either xs ys d j h = or_cases (is_asked xs d j) (is_asked ys d j) (sym (list_any-append (is_of d j) xs ys) ∙ h)

-- of two lists, the first counts where the second has none
pub cut_before : (xs ys : List Asked) (d j : ℕ) → is_asked ys d j ≡ false → cut_in (xs ++ ys) d j ≡ cut_in xs d j
cut_before [] ys d j none = none_cut ys d j none
cut_before (x ∷ xs) ys d j none = ap (λ k. if is_of d j x then x.cut else k) (cut_before xs ys d j none)

pub unasked_cut : (xs ys : List Asked) (d : ℕ) (x : ClientValue) (j : ℕ) → is_asked ys d j ≡ false → cut_of (xs ++ ys) d x j ≡ cut_of xs d x j
unasked_cut xs ys d x j none = ap (λ k. if is_over x then x.last_cut else k) (cut_before xs ys d j none)

-- nobody else gives one of the answers of some
pub left_else : (s : StateValue) (who : ℕ → Bool) (asked : List Asked) → AreLeft s who asked → (c i : ℕ) → who c ≡ false → is_asked asked c i ≡ false
left_else s who asked left c i other = left.all c i ∙ ap (λ b. b && is_unasked (lease_of (s.levels.clients i) c)) other

-- ---- answers that stay

pub still_noted : (s t : StateValue) → t.cuts ≡ s.cuts → length s.clients ≤ length t.clients → SameRevoked s t.levels → CutsInvariant s → CutsInvariant t
still_noted s t same more revoked old = grind arith

-- where nobody holds anything, nobody was asked
pub none_noted : (s : StateValue) → s.cuts ≡ [] → ((i : ℕ) → s.levels.clients i ≡ []) → CutsInvariant s
none_noted s nothing free = grind arith

-- that they are noted has one proof at most
pub noted_known : (s : StateValue) → ∥ CutsInvariant s ∥₁ → CutsInvariant s
noted_known s some = ∥∥₁_elim some (hlevel props) (λ noted. noted)

pub call_noted : (s : StateValue) (x : NumberedCall) → CutsInvariant s → CutsInvariant (after_call s x)
call_noted s x noted = grind (arith, still_noted, length-with)

pub goal_noted : (s : StateValue) (c to : ℕ) → CutsInvariant s → CutsInvariant (after_goal s c to)
goal_noted s c to noted = grind (arith, still_noted, length-with)

pub leases_noted : (s : StateValue) (levels : TwoLevels) → CutsInvariant s → SameRevoked s levels → CutsInvariant (after_leases s levels)
leases_noted s levels noted same = still_noted s (after_leases s levels) refl (omega arith) same noted

-- ---- a client more

-- it wasn't asked
pub new_unasked : (s : StateValue) → CutsInvariant s → (i : ℕ) → is_asked s.cuts (suc (length s.clients)) i ≡ false
new_unasked s noted i = grind (arith, false_from_ne_true)

pub open_noted : (s : StateValue) (n : ℕ) (u : Durability) (levels : TwoLevels) → CutsInvariant s → EnrolsAt s.levels levels (suc (length s.clients)) n →
    CutsInvariant (after_open s n u levels)
open_noted s n u levels noted enrols = grind (arith, still_noted, length_push)

-- ---- more answers

-- one lease, once those of some clients are revoked
revoked_then : (choice : Lease → Bool) (chosen : Bool) (o : Option Lease) → ((a : Lease) → o ≡ Some a → choice a ≡ chosen) →
    is_revoked (revoked_one choice o) ≡ (is_revoked o || (chosen && is_unasked o))
revoked_then choice chosen o h1 = grind arith

unrevoked : (o : Option Lease) → is_unasked o ≡ true → is_revoked o ≡ false
unrevoked o h1 = grind (arith, not-true)

unasked_held : (o : Option Lease) → is_unasked o ≡ true → is_held o ≡ true
unasked_held o h1 = grind arith

number_or_none : (cs : List ClientValue) (d : ℕ) → IsNumber cs d ⊎ (IsNumber cs d → ⊥)
number_or_none cs d = grind (arith, cases_lt)

-- a client of another node doesn't live at this one
pub lives_elsewhere : (s : StateValue) (n c : ℕ) → AreLeases (world_of s) (leases_of s) → (client_in s.clients c).home ≢ n → lives s.levels.home c n ≡ false
unfolding world_of leases_of
lives_elsewhere s n c leases other = grind (arith, number_or_none, ne_eqb)

-- whoever holds a lease was opened
holder_number : (s : StateValue) → AreLeases (world_of s) (leases_of s) → (c i : ℕ) → is_held (lease_of (s.levels.clients i) c) ≡ true → IsNumber s.clients c
unfolding world_of leases_of
holder_number s leases c i held =
    elim (number_or_none s.clients c) [
      | inl is ↦ is
      | inr none ↦ absurd (none_some ((world_of s).home c) (sym (leases.strangers c (λ is. none record { some = is.0; there = is.1 }))
          ∙ holder_home (world_of s) (leases_of s) c i leases held))
    ]
  where
    none_some : (m : ℕ) → None ≡ Some m → ⊥
    none_some m same = cc

-- the leases of some clients are revoked, and their answers come
module _ (s t : StateValue) (who : ℕ → Bool) (choice : Lease → Bool) (asked : List Asked) (cuts : t.cuts ≡ s.cuts ++ asked)
    (more : length s.clients ≤ length t.clients)
    (leases : AreLeases (world_of s) (leases_of s)) (left : AreLeft s who asked) (noted : CutsInvariant s)
    (revoked : (i : ℕ) → t.levels.clients i ≡ revoke choice (s.levels.clients i)) (chosen : (c i : ℕ) (a : Lease) → lease_of (s.levels.clients i) c ≡ Some a →
    choice a ≡ who c) where
  abbrev held_before : ℕ → ℕ → Option Lease
  held_before c i = lease_of (s.levels.clients i) c

  free : (c i : ℕ) → is_asked asked c i ≡ true → is_unasked (held_before c i) ≡ true
  free c i now = (and_parts (who c) (is_unasked (held_before c i)) (sym (left.all c i) ∙ now)).1

  first_answer : (c i : ℕ) → is_asked s.cuts c i ≡ true → is_asked asked c i ≡ false
  first_answer c i before = grind (arith, false_from_ne_true, unrevoked, free)

  pub more_noted : CutsInvariant t
  more_noted = record {
    once = ap are_once cuts ∙ once_both s.cuts asked noted.once left.once first_answer;
    known = λ c i h. (let there : IsNumber s.clients c = elim (asked_either s.cuts asked c i (ap (λ answers. is_asked answers c i) (sym cuts) ∙ h)) [
      | inl before ↦ noted.known c i before
      | inr now ↦ holder_number s leases c i (unasked_held (held_before c i) (free c i now))
    ] in record { some = there.some; there = omega (arith, there.there, more) });
    noted = λ c i.
        ap (λ answers. is_asked answers c i) cuts
        ∙ list_any-append (is_of c i) s.cuts asked
        ∙ (λ k. noted.noted c i k || left.all c i k)
        ∙ sym (ap (λ ls. is_revoked (lease_of ls c)) (revoked i) ∙ ap is_revoked (revoke_of choice (s.levels.clients i) c)
        ∙ revoked_then choice (who c) (held_before c i) (chosen c i));
  }

pub crash_noted : (s : StateValue) (c : ℕ) (levels : TwoLevels) (asked : List Asked) → CutsInvariant s → AreLeases (world_of s) (leases_of s) →
    IsRevoked s.levels levels c → AreLeft s (λ d. d == c) asked →
    CutsInvariant (after_crash s c levels asked)
crash_noted s c levels asked noted leases revoked left =
    more_noted s (after_crash s c levels asked) (λ d. d == c) (is_own c) asked refl
    (omega (arith, length-with s.clients c (crashed_at (end_of_log (world_of s) c) (client_in s.clients c)))) leases left noted
    revoked.clients (λ d i a is. ap (λ h. h == c) (lease_among (s.levels.clients i) d a is).1)

pub failure_noted : (s : StateValue) (n : ℕ) (inodes : set.FinSet nat_cmp) (levels : TwoLevels) (asked : List Asked) → CutsInvariant s →
    AreLeases (world_of s) (leases_of s) →
    ((i : ℕ) → levels.clients i ≡ revoke (λ a. lives s.levels.home a.holder n) (s.levels.clients i)) → AreLeft s (λ c. lives s.levels.home c n) asked →
    CutsInvariant (after_failure s n inodes levels asked)
failure_noted s n inodes levels asked noted leases revoked left =
    more_noted s (after_failure s n inodes levels asked) (λ c. lives s.levels.home c n) (λ a. lives s.levels.home a.holder n) asked refl
    (omega (arith, count_over n (kept_at_failure (world_of s) n) s.clients (length s.clients))) leases left noted
    revoked (λ d i a is. ap (λ h. lives s.levels.home h n) (lease_among (s.levels.clients i) d a is).1)
