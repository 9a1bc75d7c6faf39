-- Each step can be made: the state to which it leads.
use Rattle.assise_model_world.proofs.Common.{◌≡◌, ◌⊎◌, ℕ, suc, ◌+◌, ◌-◌, ◌≤◌, ◌≢◌, inl, inr, min, max, true, false, not, List, [], ◌∷◌, ◌++◌, if◌then◌else◌}
use Rattle.assise_model_world.proofs.Common.{refl, sym, ◌∙◌, subst, ◌&&◌, ◌||◌, nat_le, ◌==◌, arith, take, drop, length, filter, cases_Bool, eqb-true, leb-true}
use Rattle.assise_model_world.proofs.Common.{le-leb, eq-eqb, ne_eqb, and_parts, and_from, false_from_ne_true, both_ways, or_cases, or_right, Mode, all_effects}
use Rattle.assise_model_world.proofs.Common.{record_of, value_after, touched, contains, NumberedCall, below, Opens, MakesCall, RaisesGoals, Crashes}
use Rattle.assise_model_world.proofs.Common.{is_for_writing, IsModeFree, Acquires, Releases, Delivers, Digests, Drops, kept_at_failure, Fails, Joins, Rests}
use Rattle.assise_model_world.proofs.Common.{WorldInvariant, World, Full, end_of_log, call_at, records_between, undigested_below, step_at_home}
use Rattle.assise_model_world.proofs.Common.{call_makes_inode}
use Rattle.assise_model_world.specs.Chances.{MayMakeCall, MayDeliver, MayDigest, MayDrop, MayFail, MayJoin}
use Rattle.assise_model_world.proofs.Shared.Logs.{length-both}

-- ---- one of many

pub chosen : {A : Type 0} (d c : ℕ) (x y : A) → d ≡ c → (if d == c then x else y) ≡ x
chosen d c x y e = rw (eq-eqb d c e) refl

pub passed : {A : Type 0} (d c : ℕ) (x y : A) → d ≢ c → (if d == c then x else y) ≡ y
passed d c x y e = rw (ne_eqb d c e) refl

-- of functions

pub chosen_at : {B : Type 0} (d c : ℕ) (x y : ℕ → B) → d ≡ c → (i : ℕ) → (if d == c then x else y) i ≡ x i
chosen_at d c x y e i = rw (eq-eqb d c e) refl

pub passed_at : {B : Type 0} (d c : ℕ) (x y : ℕ → B) → d ≢ c → (i : ℕ) → (if d == c then x else y) i ≡ y i
passed_at d c x y e i = rw (ne_eqb d c e) refl

-- the value at one node, or of one client at one node

pub at_one : {A : Type 0} → ℕ → ℕ → A → (ℕ → ℕ → A) → ℕ → ℕ → A
at_one n c x f m d = if (m == n) && (d == c) then x else f m d

pub at_one-here : {A : Type 0} (n c : ℕ) (x : A) (f : ℕ → ℕ → A) → at_one n c x f n c ≡ x
unfolding at_one
at_one-here n c x f = rw (and_from (n == n) (c == c) (eq-eqb n n refl) (eq-eqb c c refl)) refl

pub at_one-else : {A : Type 0} (n c : ℕ) (x : A) (f : ℕ → ℕ → A) (m d : ℕ) → (m ≡ n → d ≡ c → ⊥) → at_one n c x f m d ≡ f m d
unfolding at_one
at_one-else n c x f m d other =
    rw (false_from_ne_true ((m == n) && (d == c)) (λ t. let p : ((m == n) ≡ true) × ((d == c) ≡ true) = and_parts (m == n) (d == c) t in
    other (eqb-true m n p.0) (eqb-true d c p.1))) refl

-- ---- clients

pub may_open : (w : World) (n : ℕ) → Full w n → (u : World) × Opens w n u
may_open w n f =
    let c : ℕ = suc w.clients in
    let u : World = record w {
      clients = c;
      home = λ d. if d == c then n else w.home d;
      lives = λ d. if d == c then true else w.lives d;
      crashed = λ d. if d == c then false else w.crashed d;
      goal = λ d. if d == c then 0 else w.goal d;
    } in
    (u, search (chosen, passed) parts 3)

called : World → NumberedCall → World
called w x =
    record w {
      calls = w.calls ++ x ∷ [];
      records = λ d. if d == x.client then w.records d ++ record_of x.number (step_at_home w x).effects else w.records d;
      log = at_one (w.home x.client) x.client (w.log (w.home x.client) x.client ++ record_of x.number (step_at_home w x).effects) w.log;
      received = at_one (w.home x.client) x.client (w.first x.client + length (w.records x.client ++ record_of x.number (step_at_home w x).effects)) w.received;
      next = λ d. if d == x.client then suc x.number else w.next d;
      made = λ d. if d == x.client then (if call_makes_inode w x then suc (w.made d) else w.made d) else w.made d;
      border = λ d k. if nat_le k (end_of_log w d) then w.border d k else true;
    }

end-called : (w : World) (x : NumberedCall) (d : ℕ) → end_of_log w d ≤ end_of_log (called w x) d
unfolding end_of_log called
end-called w x d = grind (arith, length-both)

border_last : (w : World) (x : NumberedCall) → WorldInvariant w → (called w x).border x.client (end_of_log (called w x) x.client) ≡ true
unfolding called
border_last w x s = grind (arith, cases_Bool, called, leb-true, end-called)

made_few : (w : World) (x : NumberedCall) → WorldInvariant w → MayMakeCall w x → (called w x).made x.client ≤ 1048576
unfolding called
made_few w x s m = grind (arith, eq-eqb)

received_end : (w : World) (x : NumberedCall) → (called w x).received (w.home x.client) x.client ≡ end_of_log (called w x) x.client
unfolding called end_of_log
received_end w x = at_one-here (w.home x.client) x.client _ w.received ∙ rw (eq-eqb x.client x.client refl) refl

pub may_call : (w : World) (x : NumberedCall) → WorldInvariant w → MayMakeCall w x → (u : World) × MakesCall w x u
unfolding called
may_call w x s m =
    let border : (d k : ℕ) → k ≤ end_of_log w d → (called w x).border d k ≡ w.border d k = λ d k h. rw (le-leb k (end_of_log w d) h) refl in
    (called w x, search (chosen, passed, at_one-here, at_one-else, border, border_last w x s, made_few w x s m, received_end w x) parts 3)

pub may_raise : (w : World) (k : ℕ → ℕ) → ((c : ℕ) → k c ≤ end_of_log w c) → (u : World) × RaisesGoals w k u
may_raise w k h = let u : World = record w { goal = λ c. max (w.goal c) (k c) } in (u, search parts 3)

pub may_crash : (w : World) (c : ℕ) → w.lives c ≡ true → w.crashed c ≡ false → (u : World) × Crashes w c u
may_crash w c lives running =
    let u : World = record w { crashed = λ d. if d == c then true else w.crashed d; goal = λ d. if d == c then end_of_log w d else w.goal d } in
    (u, search (chosen, passed) parts 3)

-- ---- leases

pub may_acquire : (w : World) (c i : ℕ) (mode : Mode) → IsModeFree w c i mode → (u : World) × Acquires w c i mode u
may_acquire w c i mode free =
    let u : World = record w { holds = at_one c i true w.holds; writes = at_one c i (w.writes c i || is_for_writing mode) w.writes } in
    (u, search (at_one-here, at_one-else) parts 3)

pub may_release : (w : World) (c i : ℕ) → contains (touched (all_effects (w.records c))) i ≡ false → (u : World) × Releases w c i u
may_release w c i none =
    let u : World = record w { holds = at_one c i false w.holds; writes = at_one c i false w.writes } in (u, search (at_one-here, at_one-else) parts 3)

-- ---- nodes

pub may_deliver : (w : World) (n c k : ℕ) → MayDeliver w n c k → (u : World) × Delivers w n c k u
may_deliver w n c k m =
    let u : World = record w { log = at_one n c (w.log n c ++ records_between w c (w.received n c) k) w.log; received = at_one n c k w.received } in
    (u, search (at_one-here, at_one-else) parts 3)

abbrev pub digested_world : World → ℕ → ℕ → ℕ → World
digested_world w n c k = record w {
  digested = at_one n c k w.digested;
  area = λ o. if o == n then (λ i. value_after i (w.area n i) (all_effects (undigested_below w n c k))) else w.area o;
}

pub world_digests : (w : World) (n c k : ℕ) → MayDigest w n c k → Digests w n c k (digested_world w n c k)
world_digests w n c k m = search (at_one-here, at_one-else, chosen_at, passed_at) parts 3

pub may_digest : (w : World) (n c k : ℕ) → MayDigest w n c k → (u : World) × Digests w n c k u
may_digest w n c k m = (digested_world w n c k, world_digests w n c k m)

pub may_drop : (w : World) (f : ℕ → ℕ) → MayDrop w f → (u : World) × Drops w f u
may_drop w f m =
    let u : World = record w { first = f; records = λ c. drop (f c - w.first c) (w.records c); log = λ n c. drop (f c - w.first c) (w.log n c) } in
    (u, search parts 3)

-- the full nodes but one
kept-of : (ns : List ℕ) (n m : ℕ) → contains (filter (λ k. not (k == n)) ns) m ≡ true → (contains ns m ≡ true) × (m ≢ n)
kept-of [] n m h = cc
kept-of (k ∷ ns) n m h =
    elim (cases_Bool (k == n)) [
      | inl e ↦ (let t : (contains ns m ≡ true) × (m ≢ n) = kept-of ns n m (rw e at h) in (or_right (k == m) (contains ns m) t.0, t.1))
      | inr e ↦ elim (cases_Bool (k == m)) [
        | inl is ↦ (rw is refl, λ q. both_ways (k == n) e (eq-eqb k n (eqb-true k m is ∙ q)))
        | inr other ↦ (let t : (contains ns m ≡ true) × (m ≢ n) = kept-of ns n m (rw (e, other) at h) in (or_right (k == m) (contains ns m) t.0, t.1))
      ]
    ]

of-kept : (ns : List ℕ) (n m : ℕ) → contains ns m ≡ true → m ≢ n → contains (filter (λ k. not (k == n)) ns) m ≡ true
of-kept [] n m h other = h
of-kept (k ∷ ns) n m h other =
    elim (cases_Bool (k == n)) [
      | inl e ↦ rw e (of-kept ns n m (rw (ne_eqb k m (λ is. other (sym is ∙ eqb-true k n e))) at h) other)
      | inr e ↦ rw e (elim (cases_Bool (k == m)) [
        | inl is ↦ rw is refl
        | inr differs ↦ rw differs (of-kept ns n m (rw differs at h) other)
      ])
    ]

abbrev pub cut_world : World → ℕ → World
cut_world w n = record w {
  full = filter (λ k. not (k == n)) w.full;
  calls = filter (below (λ c. call_at w c (kept_at_failure w n c))) w.calls;
  records = λ c. records_between w c (w.first c) (kept_at_failure w n c);
  goal = λ c. min (w.goal c) (kept_at_failure w n c);
  lives = λ c. if w.home c == n then false else w.lives c;
  log = λ k c. take (kept_at_failure w n c - w.first c) (w.log k c);
  received = λ k c. min (w.received k c) (kept_at_failure w n c);
}

pub world_fails : (w : World) (n : ℕ) → MayFail w n → Fails w n (cut_world w n)
world_fails w n m = grind (arith, kept-of, of-kept, chosen, passed)

pub may_fail : (w : World) (n : ℕ) → MayFail w n → (u : World) × Fails w n u
may_fail w n m = (cut_world w n, world_fails w n m)

-- a node more is full
pub record FullAlso (w : World) (n : ℕ) (u : World) : Type 0 where
  pub joined : Full u n
  pub stay : (k : ℕ) → Full w k → Full u k
  pub only : (k : ℕ) → Full u k → (k ≡ n) ⊎ Full w k

pub one_more_full : (w : World) (n : ℕ) (u : World) → u.full ≡ n ∷ w.full → FullAlso w n u
one_more_full w n u is = record {
  joined = rw (is, eq-eqb n n refl) refl;
  stay = λ k f. rw is (or_right (n == k) (contains w.full k) f);
  only = λ k h. elim (or_cases (n == k) (contains w.full k) (rw is at h)) [ inl here ↦ inl (sym (eqb-true n k here)) | inr there ↦ inr there ];
}

pub may_join : (w : World) (n donor : ℕ) → MayJoin w n donor → (u : World) × Joins w n donor u
may_join w n donor m =
    let u : World = record w {
      full = n ∷ w.full;
      area = λ k. if k == n then w.area donor else w.area k;
      log = λ k. if k == n then w.log donor else w.log k;
      received = λ k. if k == n then w.received donor else w.received k;
      digested = λ k. if k == n then w.digested donor else w.digested k;
    } in
    let isnt : (k : ℕ) → Full w k → k ≢ n = λ k f is. m.absent (subst (λ j. contains w.full j ≡ true) is f) in
    let full_as : FullAlso w n u = one_more_full w n u refl in
    (u, search (isnt, full_as.joined, full_as.stay, full_as.only, chosen_at, passed_at) parts 3)

pub may_rest : (w : World) → (u : World) × Rests w u
may_rest w = (w, search parts 3)
