-- A lease whose answer is ripe goes, and the answer with it.
use Rattle.assise_machine_calls.proofs.Common.{◌≡◌, ◌≢◌, inl, inr, ℕ, zero, suc, ◌+◌, ◌-◌, ◌<◌, ◌≤◌, nat_le, Bool, true, false, not, ◌||◌, ◌==◌, if◌then◌else◌}
use Rattle.assise_machine_calls.proofs.Common.{List, [], ◌∷◌, ◌++◌, length, filter, slice_index_or, take, drop, Some, None, refl, ap, sym, subst, ◌∙◌, arith}
use Rattle.assise_machine_calls.proofs.Common.{eq-eqb, and_from, and_parts, cases_Bool, cases_eq, eqb-true, false_from_ne_true, leb-true, not-true, or_left}
use Rattle.assise_machine_calls.proofs.Common.{or_right, length-append, length-take, Asked, lease_of, is_revoked, ReleasesLease, TwoLevels, without_other}
use Rattle.assise_machine_calls.proofs.Common.{without_own, digested_by_all, end_of_log, HoldsAsLeased, ReleasesReady, AreLeases, IsRevokedLease}
use Rattle.assise_machine_calls.proofs.Common.{OtherAreasStay, after_letting_go, ClientValue, client_in, cut_once_asked, are_once, cut_in, is_asked, is_of}
use Rattle.assise_machine_calls.proofs.Common.{observed, own_seen, world_of, IsNumber, CutsInvariant, ShapeInvariant, StateValue, leases_of, number_client}
use Rattle.assise_machine_calls.proofs.Common.{areas_stay, leases_held, letting_go_shaped, LetsSomeGo, is_early, is_ripe}
use Rattle.std.proofs.Common.{true≢false}
use Rattle.assise_model_leases.proofs.Shared.LeasesGo.{release_keeps}

-- ---- one answer among others

is_own_answer : (a : Asked) (d j : ℕ) → a.client ≡ d → a.inode ≡ j → is_of d j a ≡ true
is_own_answer a d j client inode = and_from (a.client == d) (a.inode == j) (eq-eqb a.client d client) (eq-eqb a.inode j inode)

pub answer_parts : (a : Asked) (d j : ℕ) → is_of d j a ≡ true → (a.client ≡ d) × (a.inode ≡ j)
answer_parts a d j is =
    let parts = and_parts (a.client == d) (a.inode == j) is in
    (eqb-true a.client d parts.0, eqb-true a.inode j parts.1)

asked_there : (xs ys : List Asked) (a : Asked) → is_asked (xs ++ a ∷ ys) a.client a.inode ≡ true
asked_there [] ys a = or_left (is_of a.client a.inode a) (is_asked ys a.client a.inode) (is_own_answer a a.client a.inode refl refl)
asked_there (x ∷ xs) ys a = or_right (is_of a.client a.inode x) (is_asked (xs ++ a ∷ ys) a.client a.inode) (asked_there xs ys a)

-- others are asked as before without it
asked_without : (xs ys : List Asked) (a : Asked) (d j : ℕ) → is_of d j a ≡ false → is_asked (xs ++ ys) d j ≡ is_asked (xs ++ a ∷ ys) d j
asked_without [] ys a d j other = sym (ap (λ b. b || is_asked ys d j) other)
asked_without (x ∷ xs) ys a d j other = ap (λ b. is_of d j x || b) (asked_without xs ys a d j other)

cut_without : (xs ys : List Asked) (a : Asked) (d j : ℕ) → is_of d j a ≡ false → cut_in (xs ++ ys) d j ≡ cut_in (xs ++ a ∷ ys) d j
cut_without [] ys a d j other = sym (ap (λ b. if b then a.cut else cut_in ys d j) other)
cut_without (x ∷ xs) ys a d j other = ap (λ k. if is_of d j x then x.cut else k) (cut_without xs ys a d j other)

asked_more : (xs ys : List Asked) (a : Asked) (d j : ℕ) → is_asked (xs ++ ys) d j ≡ true → is_asked (xs ++ a ∷ ys) d j ≡ true
asked_more xs ys a d j asked =
    elim (cases_Bool (is_of d j a)) [
      | inl is ↦
          let parts = answer_parts a d j is in
          subst (λ e. is_asked (xs ++ a ∷ ys) e j ≡ true) parts.0 (subst (λ k. is_asked (xs ++ a ∷ ys) a.client k ≡ true) parts.1 (asked_there xs ys a))
      | inr other ↦ sym (asked_without xs ys a d j other) ∙ asked
    ]

once_without : (xs ys : List Asked) (a : Asked) → are_once (xs ++ a ∷ ys) ≡ true → are_once (xs ++ ys) ≡ true
once_without [] ys a once = (and_parts (not (is_asked ys a.client a.inode)) (are_once ys) once).1
once_without (x ∷ xs) ys a once =
    let parts = and_parts (not (is_asked (xs ++ a ∷ ys) x.client x.inode)) (are_once (xs ++ a ∷ ys)) once in
    let none : is_asked (xs ++ ys) x.client x.inode ≡ false =
    false_from_ne_true (is_asked (xs ++ ys) x.client x.inode)
    (λ asked. true≢false (sym (asked_more xs ys a x.client x.inode asked) ∙ not-true (is_asked (xs ++ a ∷ ys) x.client x.inode) parts.0)) in
    and_from (not (is_asked (xs ++ ys) x.client x.inode)) (are_once (xs ++ ys)) (ap not none) (once_without xs ys a parts.1)

-- it is none of those before it
first_other : (x : Asked) (xs ys : List Asked) (a : Asked) → are_once (x ∷ (xs ++ a ∷ ys)) ≡ true → is_of a.client a.inode x ≡ false
first_other x xs ys a once =
    let parts = and_parts (not (is_asked (xs ++ a ∷ ys) x.client x.inode)) (are_once (xs ++ a ∷ ys)) once in
    false_from_ne_true (is_of a.client a.inode x) (λ is.
    let same = answer_parts x a.client a.inode is in
    true≢false
    (sym (subst (λ e. is_asked (xs ++ a ∷ ys) e x.inode ≡ true) (sym same.0)
    (subst (λ k. is_asked (xs ++ a ∷ ys) a.client k ≡ true) (sym same.1) (asked_there xs ys a)))
    ∙ not-true (is_asked (xs ++ a ∷ ys) x.client x.inode) parts.0))

gone_unasked : (xs ys : List Asked) (a : Asked) → are_once (xs ++ a ∷ ys) ≡ true → is_asked (xs ++ ys) a.client a.inode ≡ false
gone_unasked [] ys a once = not-true (is_asked ys a.client a.inode) (and_parts (not (is_asked ys a.client a.inode)) (are_once ys) once).0
gone_unasked (x ∷ xs) ys a once =
    let parts = and_parts (not (is_asked (xs ++ a ∷ ys) x.client x.inode)) (are_once (xs ++ a ∷ ys)) once in
    ap (λ b. b || is_asked (xs ++ ys) a.client a.inode) (first_other x xs ys a once) ∙ gone_unasked xs ys a parts.1

cut_there : (xs ys : List Asked) (a : Asked) → are_once (xs ++ a ∷ ys) ≡ true → cut_in (xs ++ a ∷ ys) a.client a.inode ≡ a.cut
cut_there [] ys a once = ap (λ b. if b then a.cut else cut_in ys a.client a.inode) (is_own_answer a a.client a.inode refl refl)
cut_there (x ∷ xs) ys a once =
    let parts = and_parts (not (is_asked (xs ++ a ∷ ys) x.client x.inode)) (are_once (xs ++ a ∷ ys)) once in
    ap (λ b. if b then x.cut else cut_in (xs ++ a ∷ ys) a.client a.inode) (first_other x xs ys a once) ∙ cut_there xs ys a parts.1

-- ---- one lease goes

module _ (s : StateValue) (levels : TwoLevels) (a : Asked) (xs ys : List Asked) (is : s.cuts ≡ xs ++ a ∷ ys) (noted : CutsInvariant s)
    (ripe : is_ripe s a ≡ true)
    (released : ReleasesLease s.levels levels a.client ((world_of s).home a.client) a.inode) where
  abbrev t : StateValue
  t = after_letting_go s levels (xs ++ ys)

  once : are_once (xs ++ a ∷ ys) ≡ true
  once = ap are_once (sym is) ∙ noted.once

  revoked_here : IsRevokedLease (leases_of s) a.client a.inode
  unfolding leases_of
  revoked_here = sym (noted.noted a.client a.inode) ∙ ap (λ l. is_asked l a.client a.inode) is ∙ asked_there xs ys a

  cut_here : (leases_of s).cut a.client a.inode ≡ cut_once_asked (client_in s.clients a.client) a.cut
  unfolding leases_of
  cut_here = ap (cut_once_asked (client_in s.clients a.client)) (ap (λ l. cut_in l a.client a.inode) is ∙ cut_there xs ys a once)

  lease_gone : lease_of (levels.clients a.inode) a.client ≡ None
  lease_gone = ap (λ ls. lease_of ls a.client) released.clients.here ∙ without_own (s.levels.clients a.inode) a.client

  lease_else : (d j : ℕ) → is_of d j a ≡ false → lease_of (levels.clients j) d ≡ lease_of (s.levels.clients j) d
  lease_else d j other =
      elim (cases_eq j a.inode) [
        | inl here ↦
            let differs : d ≢ a.client = λ same. true≢false (sym (is_own_answer a d j (sym same) (sym here)) ∙ other) in
            subst (λ k. lease_of (levels.clients k) d ≡ lease_of (s.levels.clients k) d) (sym here)
            (ap (λ ls. lease_of ls d) released.clients.here ∙ without_other (s.levels.clients a.inode) a.client d differs)
        | inr away ↦ ap (λ ls. lease_of ls d) (released.clients.elsewhere j away)
      ]

  -- what is revoked now isn't it
  still_else : (d j : ℕ) → is_revoked (lease_of (levels.clients j) d) ≡ true → is_of d j a ≡ false
  still_else d j revoked =
      false_from_ne_true (is_of d j a) (λ same.
      let which = answer_parts a d j same in
      let none : lease_of (levels.clients j) d ≡ None =
      subst (λ e. lease_of (levels.clients j) e ≡ None) which.0 (subst (λ k. lease_of (levels.clients k) a.client ≡ None) which.1 lease_gone) in
      true≢false (sym revoked ∙ ap is_revoked none))

  cuts_kept : (d j : ℕ) → IsRevokedLease (leases_of t) d j → (leases_of t).cut d j ≡ (leases_of s).cut d j
  unfolding leases_of
  cuts_kept d j revoked =
      ap (cut_once_asked (client_in s.clients d)) (cut_without xs ys a d j (still_else d j revoked) ∙ ap (λ l. cut_in l d j) (sym is))

  held : HoldsAsLeased (world_of s) (world_of t) (leases_of t)
  unfolding world_of own_seen leases_of
  held = (let h = leases_held s levels in
      record { logs = h.logs; clients = h.clients; goals = h.goals; nodes = h.nodes; held = record { holds = λ d j. refl; writes = λ d j. refl } })

  pub goes_now : ReleasesReady (world_of s) (leases_of s) a.client a.inode (world_of t) (leases_of t)
  unfolding leases_of
  goes_now = record {
    revoked = revoked_here;
    ready =
        subst (λ k. k ≤ digested_by_all (world_of s) a.client) (sym cut_here)
        (leb-true (cut_once_asked (client_in s.clients a.client) a.cut) (digested_by_all (world_of s) a.client) ripe);
    released = released;
    cuts = cuts_kept;
    holds = held;
  }

  pub others_stay : OtherAreasStay (world_of s) (world_of t)
  others_stay = areas_stay s t refl

  pub leases_then : AreLeases (world_of s) (leases_of s) → AreLeases (world_of t) (leases_of t)
  leases_then leases = release_keeps (world_of s) (world_of t) (leases_of s) (leases_of t) a.client a.inode leases goes_now

  was_asked : (d j : ℕ) → is_asked (xs ++ ys) d j ≡ true → is_asked s.cuts d j ≡ true
  was_asked d j asked = ap (λ l. is_asked l d j) is ∙ asked_more xs ys a d j asked

  noted_else : (d j : ℕ) → is_asked (xs ++ ys) d j ≡ is_revoked (lease_of (levels.clients j) d)
  noted_else d j =
      elim (cases_Bool (is_of d j a)) [
        | inl same ↦
            let which = answer_parts a d j same in
            subst (λ e. is_asked (xs ++ ys) e j ≡ is_revoked (lease_of (levels.clients j) e)) which.0
            (subst (λ k. is_asked (xs ++ ys) a.client k ≡ is_revoked (lease_of (levels.clients k) a.client)) which.1
            (gone_unasked xs ys a once ∙ sym (ap is_revoked lease_gone)))
        | inr other ↦ asked_without xs ys a d j other ∙ ap (λ l. is_asked l d j) (sym is) ∙ noted.noted d j ∙ ap is_revoked (sym (lease_else d j other))
      ]

  pub noted_then : CutsInvariant t
  noted_then = record { once = once_without xs ys a once; known = λ d j asked. noted.known d j (was_asked d j asked); noted = noted_else }

  same_ripe : (b : Asked) → is_ripe t b ≡ is_ripe s b
  unfolding world_of own_seen digested_by_all end_of_log
  same_ripe b = refl

  -- what goes then goes after it
  pub goes_first : (u : StateValue) (count : ℕ) → LetsSomeGo t count u → LetsSomeGo s (count + 1) u
  goes_first u count r = record {
    gone = record { client = a.client; inode = a.inode; world = world_of t; leases = leases_of t } ∷ r.gone;
    count = ap suc r.count ∙ omega arith;
    goes = (goes_now, others_stay, r.goes);
    world = r.world;
    leases = r.leases;
    rest = r.rest;
  }

  pub early_then : (b : Asked) → is_early t b ≡ is_early s b
  early_then b = ap not (same_ripe b)

-- ---- answers that are left

pub early_left : (e : Asked → Bool) (xs ys : List Asked) (a : Asked) → e a ≡ true →
    filter e (take (length xs) (xs ++ a ∷ ys)) ++ drop (length xs) (xs ++ a ∷ ys) ≡ filter e (take (suc (length xs)) (xs ++ a ∷ ys)) ++ drop (suc (length xs))
    (xs ++ a ∷ ys)
early_left e [] ys a early = rw early refl
early_left e (x ∷ xs) ys a early =
    elim (cases_Bool (e x)) [
      | inl stays ↦ rw stays (ap (λ l. x ∷ l) (early_left e xs ys a early))
      | inr goes ↦ rw goes (early_left e xs ys a early)
    ]

pub ripe_left : (e : Asked → Bool) (xs ys : List Asked) (a : Asked) → e a ≡ false →
    filter e (take (length xs) (xs ++ ys)) ++ drop (length xs) (xs ++ ys) ≡ filter e (take (suc (length xs)) (xs ++ a ∷ ys)) ++ drop (suc (length xs))
    (xs ++ a ∷ ys)
ripe_left e [] ys a ripe = rw ripe refl
ripe_left e (x ∷ xs) ys a ripe =
    elim (cases_Bool (e x)) [
      | inl stays ↦ rw stays (ap (λ l. x ∷ l) (ripe_left e xs ys a ripe))
      | inr goes ↦ rw goes (ripe_left e xs ys a ripe)
    ]

-- ---- what the code tests

pub ripe_as : (s : StateValue) (a : Asked) (x : ClientValue) (cut digested : ℕ) → IsNumber s.clients a.client → x ≡ client_in s.clients a.client →
    cut ≡ cut_once_asked x a.cut →
    digested ≡ digested_by_all (world_of s) a.client → nat_le cut digested ≡ is_ripe s a
ripe_as s a x cut digested there known is all =
    (λ i. nat_le (is i) (all i)) ∙ ap (λ y. nat_le (cut_once_asked y a.cut) (digested_by_all (world_of s) a.client)) known

-- ---- the whole step, as the code has it

answer_split : (xs : List Asked) (p : ℕ) (d : Asked) → p < length xs → xs ≡ take p xs ++ slice_index_or xs p d ∷ drop (suc p) xs
answer_split [] p d low = absurd (omega (arith, low))
answer_split (x ∷ xs) zero d low = refl
answer_split (x ∷ xs) (suc p) d low = ap (λ l. x ∷ l) (answer_split xs p d (omega (arith, low)))

module _ (s : StateValue) (place : ℕ) (a : Asked) (some : 0 < place) (low : place ≤ length s.cuts) (is_it : a ≡ slice_index_or s.cuts (place - 1) a)
    (noted : CutsInvariant s) where
  abbrev before : List Asked
  before = take (place - 1) s.cuts

  abbrev behind : List Asked
  behind = drop (suc (place - 1)) s.cuts

  split : s.cuts ≡ before ++ a ∷ behind
  split = answer_split s.cuts (place - 1) a (omega (arith, some, low)) ∙ ap (λ b. before ++ b ∷ behind) (sym is_it)

  so_many : length before ≡ place - 1
  so_many = length-take (place - 1) s.cuts ∙ omega (arith, some, low)

  back : place - 1 ≡ length before
  back = sym so_many

  joined : before ++ a ∷ behind ≡ s.cuts
  joined = sym split

  last_one : suc (length before) ≡ place
  last_one = omega (arith, so_many, some)

  pub answer_known : IsNumber s.clients a.client
  answer_known = noted.known a.client a.inode (ap (λ l. is_asked l a.client a.inode) split ∙ asked_there before behind a)

  -- the cuts that are left, where it isn't ripe
  pub early_cuts : is_ripe s a ≡ false → filter (is_early s) (take (place - 1) s.cuts) ++ drop (place - 1) s.cuts
      ≡ filter (is_early s) (take place s.cuts) ++ drop place s.cuts
  early_cuts early =
      (λ k. filter (is_early s) (take (back k) (split k)) ++ drop (back k) (split k))
      ∙ early_left (is_early s) before behind a (ap not early)
      ∙ (λ k. filter (is_early s) (take (last_one k) (joined k)) ++ drop (last_one k) (joined k))

  module _ (leases : AreLeases (world_of s) (leases_of s)) where
    home_is : s.levels.home a.client ≡ Some ((world_of s).home a.client)
    unfolding observed world_of leases_of
    home_is = leases.homes a.client (number_client s a.client answer_known)

    module _ (ripe : is_ripe s a ≡ true) (levels : TwoLevels)
        (released : (n : ℕ) → s.levels.home a.client ≡ Some n → ReleasesLease s.levels levels a.client n a.inode) (cuts : List Asked)
        (left : cuts ≡ before ++ behind) where
      abbrev u : StateValue
      u = after_letting_go s levels cuts

      here : ReleasesLease s.levels levels a.client ((world_of s).home a.client) a.inode
      here = released ((world_of s).home a.client) home_is

      pub leases_now : AreLeases (world_of u) (leases_of u)
      leases_now = subst (λ l. AreLeases (world_of (after_letting_go s levels l)) (leases_of (after_letting_go s levels l))) (sym left)
          (leases_then s levels a before behind split noted ripe here leases)

      pub shape_now : ShapeInvariant s → ShapeInvariant u
      shape_now = letting_go_shaped s levels cuts

      pub noted_now : CutsInvariant u
      noted_now = subst (λ l. CutsInvariant (after_letting_go s levels l)) (sym left) (noted_then s levels a before behind split noted ripe here)

      pub room_now : place - 1 ≤ length cuts
      room_now = (let count = ap length left ∙ length-append before behind in omega (arith, so_many, count))

      pub gone_now : (v : StateValue) (many : ℕ) → LetsSomeGo u many v → LetsSomeGo s (many + 1) v
      gone_now v many = subst (λ l. LetsSomeGo (after_letting_go s levels l) many v → LetsSomeGo s (many + 1) v) (sym left)
          (goes_first s levels a before behind split noted ripe here v many)

      pub ripe_cuts : filter (is_early u) (take (place - 1) cuts) ++ drop (place - 1) cuts ≡ filter (is_early s) (take place s.cuts) ++ drop place s.cuts
      ripe_cuts =
          (λ k. filter (is_early (after_letting_go s levels (left k))) (take (back k) (left k)) ++ drop (back k) (left k))
          ∙ (λ k. filter (λ b. early_then s levels a before behind split noted ripe here b k) (take (length before) (before ++ behind)) ++ drop (length before)
          (before ++ behind))
          ∙ ripe_left (is_early s) before behind a (ap not ripe)
          ∙ (λ k. filter (is_early s) (take (last_one k) (joined k)) ++ drop (last_one k) (joined k))
