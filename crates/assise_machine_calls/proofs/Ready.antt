-- Once each lease went whose answer was ripe, none is left that was ready.
use Rattle.assise_machine_calls.proofs.Common.{◌≡◌, ◌⊎◌, inl, inr, ℕ, nat_le, Bool, true, false, not, ◌||◌, if◌then◌else◌, List, [], ◌∷◌, filter, None, refl}
use Rattle.assise_machine_calls.proofs.Common.{ap, sym, subst, ◌∙◌, and_parts, cases_Bool, cases_eq, not-true, or_cases, or_left, or_right, Asked, lease_of}
use Rattle.assise_machine_calls.proofs.Common.{without_holder, is_revoked, without_other, without_own, World, digested_by_all, ReleasesReady, Leases}
use Rattle.assise_machine_calls.proofs.Common.{client_lease, Gone, LetsGo, is_ready, leases_after, client_in, cut_once_asked, are_once, cut_in, is_asked, is_of}
use Rattle.assise_machine_calls.proofs.Common.{world_of, CutsInvariant, StateValue, leases_of, LetsSomeGo, is_early, is_ripe}
use Rattle.std.proofs.Common.{true≢false}
use Rattle.assise_machine_calls.proofs.RipeReleases.{answer_parts}

-- ---- a lease stays, or goes

stays_or_went : (w w' : World) (l l' : Leases) (c i d j : ℕ) → ReleasesReady w l c i w' l' → (client_lease l' d j ≡ client_lease l d j)
    ⊎ (client_lease l' d j ≡ None)
stays_or_went w w' l l' c i d j r =
    elim (cases_eq j i) [
      | inr away ↦ inl (ap (λ ls. lease_of ls d) (r.released.clients.elsewhere j away))
      | inl here ↦
          let left : client_lease l' d j ≡ lease_of (l'.levels.clients i) d = ap (λ k. client_lease l' d k) here in
          elim (cases_eq d c) [
            | inl own ↦ inr (left ∙ ap (λ ls. lease_of ls d) r.released.clients.here ∙ without_its l i c d own)
            | inr other ↦ inl (left ∙ ap (λ ls. lease_of ls d) r.released.clients.here ∙ without_other (l.levels.clients i) c d other
                ∙ ap (λ k. client_lease l d k) (sym here))
          ]
    ]
  where
    without_its : (m : Leases) (k c d : ℕ) → d ≡ c → lease_of (without_holder c (m.levels.clients k)) d ≡ None
    without_its m k c d own = subst (λ e. lease_of (without_holder c (m.levels.clients k)) e ≡ None) (sym own) (without_own (m.levels.clients k) c)

left_or_went : (w : World) (l : Leases) (gs : List Gone) (d j : ℕ) → LetsGo w l gs → (client_lease (leases_after l gs) d j ≡ client_lease l d j)
    ⊎ (client_lease (leases_after l gs) d j ≡ None)
left_or_went w l [] d j goes = inl refl
left_or_went w l (g ∷ gs) d j goes =
    elim (left_or_went g.world g.leases gs d j goes.2) [
      | inr none ↦ inr none
      | inl later ↦ elim (stays_or_went w g.world l g.leases g.client g.inode d j goes.0) [
        | inl now ↦ inl (later ∙ now)
        | inr none ↦ inr (later ∙ none)
      ]
    ]

-- ---- the answers that are left

gone_first : (e : Asked → Bool) (x : Asked) (xs : List Asked) → e x ≡ false → (d j : ℕ) → is_asked (filter e (x ∷ xs)) d j ≡ is_asked (filter e xs) d j
gone_first e x xs ripe d j = rw ripe refl

kept_first : (e : Asked → Bool) (x : Asked) (xs : List Asked) → e x ≡ true → (d j : ℕ) → is_asked (filter e (x ∷ xs)) d j
    ≡ (is_of d j x || is_asked (filter e xs) d j)
kept_first e x xs early d j = rw early refl

filter_asked : (e : Asked → Bool) (xs : List Asked) (d j : ℕ) → is_asked (filter e xs) d j ≡ true → is_asked xs d j ≡ true
filter_asked e [] d j asked = asked
filter_asked e (x ∷ xs) d j asked =
    elim (cases_Bool (e x)) [
      | inr ripe ↦ or_right (is_of d j x) (is_asked xs d j) (filter_asked e xs d j (sym (gone_first e x xs ripe d j) ∙ asked))
      | inl early ↦ elim (or_cases (is_of d j x) (is_asked (filter e xs) d j) (sym (kept_first e x xs early d j) ∙ asked)) [
        | inl own ↦ or_left (is_of d j x) (is_asked xs d j) own
        | inr rest ↦ or_right (is_of d j x) (is_asked xs d j) (filter_asked e xs d j rest)
      ]
    ]

unasked_behind : (x : Asked) (xs : List Asked) (d j : ℕ) → is_of d j x ≡ true → not (is_asked xs x.client x.inode) ≡ true → is_asked xs d j ≡ false
unasked_behind x xs d j is none =
    let same = answer_parts x d j is in
    subst (λ c. is_asked xs c j ≡ false) same.0 (subst (λ i. is_asked xs x.client i ≡ false) same.1 (not-true (is_asked xs x.client x.inode) none))

still_asked : (e : Asked → Bool) (x : Asked) (xs : List Asked) (d j : ℕ) → is_of d j x ≡ false → is_asked (filter e (x ∷ xs)) d j ≡ true →
    is_asked (filter e xs) d j ≡ true
still_asked e x xs d j other asked =
    elim (cases_Bool (e x)) [
      | inr ripe ↦ sym (gone_first e x xs ripe d j) ∙ asked
      | inl early ↦ sym (ap (λ b. b || is_asked (filter e xs) d j) other) ∙ sym (kept_first e x xs early d j) ∙ asked
    ]

-- one of them is early, and it is the client's
early_one : (e : Asked → Bool) (xs : List Asked) (d j : ℕ) → are_once xs ≡ true → is_asked (filter e xs) d j ≡ true → (a : Asked) × (a.client ≡ d)
    × (e a ≡ true) × (cut_in xs d j ≡ a.cut)
early_one e [] d j once asked = cc
early_one e (x ∷ xs) d j once asked =
    let parts = and_parts (not (is_asked xs x.client x.inode)) (are_once xs) once in
    elim (cases_Bool (is_of d j x)) [
      | inl is ↦ elim (cases_Bool (e x)) [
        | inl early ↦ (x, (answer_parts x d j is).0, early, ap (λ b. if b then x.cut else cut_in xs d j) is)
        | inr ripe ↦ absurd (true≢false (sym (filter_asked e xs d j (sym (gone_first e x xs ripe d j) ∙ asked)) ∙ unasked_behind x xs d j is parts.0))
      ]
      | inr other ↦
          let rest = early_one e xs d j parts.1 (still_asked e x xs d j other asked) in
          (rest.0, rest.1, rest.2, ap (λ b. if b then x.cut else cut_in xs d j) other ∙ rest.3)
    ]

module _ (s t : StateValue) (many : ℕ) (noted : CutsInvariant s) (noted_there : CutsInvariant t) (goes : LetsSomeGo s many t)
    (left : t.cuts ≡ filter (is_early s) s.cuts) where
  now_ripe : (c i : ℕ) (a : Asked) → a.client ≡ c → cut_in s.cuts c i ≡ a.cut → is_ready (world_of s) (leases_of s) c i ≡ true → is_ripe s a ≡ true
  unfolding leases_of
  now_ripe c i a is cut ready =
      (λ k. nat_le (cut_once_asked (client_in s.clients (is k)) (sym cut k)) (digested_by_all (world_of s) (is k)))
      ∙ (and_parts (is_revoked (client_lease (leases_of s) c i)) (nat_le ((leases_of s).cut c i) (digested_by_all (world_of s) c)) ready).1

  revoked_then : (c i : ℕ) → is_ready (world_of s) (leases_of s) c i ≡ true → client_lease (leases_after (leases_of s) goes.gone) c i
      ≡ client_lease (leases_of s) c i →
      is_revoked (lease_of (t.levels.clients i) c) ≡ true
  unfolding leases_of
  revoked_then c i ready same =
      ap is_revoked (ap (λ l. client_lease l c i) goes.leases ∙ same)
      ∙ (and_parts (is_revoked (client_lease (leases_of s) c i)) (nat_le ((leases_of s).cut c i) (digested_by_all (world_of s) c)) ready).0

  pub none_ready : (c i : ℕ) → is_ready (world_of s) (leases_of s) c i ≡ true → client_lease (leases_of t) c i ≡ None
  none_ready c i ready =
      elim (left_or_went (world_of s) (leases_of s) goes.gone c i goes.goes) [
        | inr none ↦ ap (λ l. client_lease l c i) goes.leases ∙ none
        | inl same ↦
            let asked : is_asked (filter (is_early s) s.cuts) c i ≡ true = ap (λ l. is_asked l c i) (sym left) ∙ noted_there.noted c i
            ∙ revoked_then c i ready same in
            let one = early_one (is_early s) s.cuts c i noted.once asked in
            absurd (true≢false (sym (now_ripe c i one.0 one.1 one.3 ready) ∙ not-true (is_ripe s one.0) one.2))
      ]
