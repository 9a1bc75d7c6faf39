-- Nodes that aren't full and whose clients hold nothing give up their leases.
use Rattle.assise_machine_calls.proofs.Common.{◌≡◌, ℕ, ◌-◌, ◌≤◌, true, false, List, [], ◌∷◌, ◌++◌, None, inl, inr, refl, ap, sym, subst, ◌∙◌, arith, both_ways}
use Rattle.assise_machine_calls.proofs.Common.{cases_eq, Lease, lease_of, without_holder, is_busy, is_revoked, IsFreed, IsIdle, TwoLevels, without_other}
use Rattle.assise_machine_calls.proofs.Common.{without_own, Full, World, Leases, Freed, Frees, leases_freed, after_leases, is_full_in, own_seen, world_of}
use Rattle.assise_machine_calls.proofs.Common.{CutsInvariant, StateValue, leases_of, standings, full_seen, seen_full, leases_noted, FreesAmong}

-- ---- one node

kept_as : (s : StateValue) (n : ℕ) → ((Full (world_of s) n → ⊥) → IsIdle s.levels n → ⊥) → FreesAmong s n n s
kept_as s n never = record {
  freed = [];
  frees = tt;
  all = λ k low high away idle i. (let is : k ≡ n = omega (arith, low, high) in
      absurd (never (subst (λ j. Full (world_of s) j → ⊥) is away) (subst (λ j. IsIdle s.levels j) is idle)));
  none = λ k i is. is;
  idle = λ k is. is;
  world = refl;
  leases = refl;
  rest = refl;
}

pub full_kept : (s : StateValue) (n : ℕ) → is_full_in (standings s) n ≡ true → FreesAmong s n n s
full_kept s n full = kept_as s n (λ away idle. away (seen_full s n full))

pub busy_kept : (s : StateValue) (n i : ℕ) → is_busy s.levels.home (s.levels.clients i) n ≡ true → FreesAmong s n n s
busy_kept s n i busy = kept_as s n (λ away idle. both_ways (is_busy s.levels.home (s.levels.clients i) n) (idle i) busy)

still_none : (ls : List Lease) (n k : ℕ) → lease_of ls k ≡ None → lease_of (without_holder n ls) k ≡ None
still_none ls n k is =
    elim (cases_eq k n) [
      | inl own ↦ subst (λ j. lease_of (without_holder n ls) j ≡ None) (sym own) (without_own ls n)
      | inr other ↦ without_other ls n k other ∙ is
    ]

module _ (s : StateValue) (n : ℕ) (levels : TwoLevels) (freed : IsFreed s.levels levels n) where
  same_world : world_of (after_leases s levels) ≡ world_of s
  unfolding world_of own_seen leases_of
  same_world = λ k. world_of (after_leases s (record { home = s.levels.home; clients = λ i. freed.clients i k; nodes = s.levels.nodes }))

  pub freed_noted : CutsInvariant s → CutsInvariant (after_leases s levels)
  freed_noted noted = leases_noted s levels noted (λ c i. ap (λ ls. is_revoked (lease_of ls c)) (freed.clients i))

  pub freed_as : is_full_in (standings s) n ≡ false → IsIdle s.levels n → FreesAmong s n n (after_leases s levels)
  unfolding leases_of
  freed_as away idle = record {
    freed = record { node = n; leases = leases_of (after_leases s levels) } ∷ [];
    frees = (record { away = λ full. both_ways (is_full_in (standings s) n) away (full_seen s n full); idle = idle; freed = freed; cuts = λ d i. refl }, tt);
    all = λ k low high out rests i. (let is : k ≡ n = omega (arith, low, high) in
        ap (λ ls. lease_of ls k) (freed.nodes i) ∙ subst (λ j. lease_of (without_holder n (s.levels.nodes i)) j ≡ None) (sym is)
        (without_own (s.levels.nodes i) n));
    none = λ k i is. ap (λ ls. lease_of ls k) (freed.nodes i) ∙ still_none (s.levels.nodes i) n k is;
    idle = λ k rests i. (λ j. is_busy (λ c. freed.home c j) (freed.clients i j) k) ∙ rests i;
    world = same_world;
    leases = refl;
    rest = refl;
  }

-- ---- one after another

both_free : (w : World) (l : Leases) (fs gs : List Freed) → Frees w l fs → Frees w (leases_freed l fs) gs → Frees w l (fs ++ gs)
both_free w l [] gs first then = then
both_free w l (f ∷ fs) gs first then = (first.0, both_free w f.leases fs gs first.1 then)

both_freed : (l : Leases) (fs gs : List Freed) → leases_freed l (fs ++ gs) ≡ leases_freed (leases_freed l fs) gs
both_freed l [] gs = refl
both_freed l (f ∷ fs) gs = both_freed f.leases fs gs

pub freed_next : (s t u : StateValue) (n : ℕ) → 1 ≤ n → FreesAmong s 1 (n - 1) t → FreesAmong t n n u → FreesAmong s 1 n u
freed_next s t u n some e f = record {
  freed = e.freed ++ f.freed;
  frees = both_free (world_of s) (leases_of s) e.freed f.freed e.frees
      (subst (λ l. Frees (world_of s) l f.freed) e.leases (subst (λ w. Frees w (leases_of t) f.freed) e.world f.frees));
  all = λ k low high away idle i. elim (cases_eq k n) [
    | inl is ↦ f.all k (omega (arith, is)) high (λ full. away (subst (λ w. Full w k) e.world full)) (e.idle k idle) i
    | inr other ↦ f.none k i (e.all k low (omega (arith, low, high, other)) away idle i)
  ];
  none = λ k i is. f.none k i (e.none k i is);
  idle = λ k is. f.idle k (e.idle k is);
  world = f.world ∙ e.world;
  leases = f.leases ∙ ap (λ l. leases_freed l f.freed) e.leases ∙ sym (both_freed (leases_of s) e.freed f.freed);
  rest = f.rest ∙ ap (λ v. after_leases v u.levels) e.rest;
}

pub none_freed : (s : StateValue) (n : ℕ) → n ≡ 0 → FreesAmong s 1 n s
none_freed s n none = record {
  freed = [];
  frees = tt;
  all = λ k low high away idle i. absurd (omega (arith, none, low, high));
  none = λ k i is. is;
  idle = λ k is. is;
  world = refl;
  leases = refl;
  rest = refl;
}
