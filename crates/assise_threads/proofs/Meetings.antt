-- Where clients meet with a pass of nobody, each twice, there is one history with the calls of all.
use Rattle.assise_threads.proofs.Common.{is_some, ◌≡◌, ◌∙◌, ℕ, true, List, [], ◌∷◌, ◌++◌, Option, Some, refl, sym, ap, subst, append_assoc, append-nil, ◌==◌}
use Rattle.assise_threads.proofs.Common.{AllByRecursion, cond_both, eqb-true, append_cancel_left, EntryValue, IsLegal, Extends, calls_by, calls_of, openings_of}
use Rattle.assise_threads.proofs.Common.{calls-append, extends-same, extends-on, sight_of, AreMet, Covers, CoversSight, Sights, Pass, client, last, mine, seen}
use Rattle.assise_threads.proofs.Common.{machine, IsWorkedTo, worked_on, ClusterOf, Machine, machine_seen, client_of, pass_of, seen_by, LibFs}

first_nothing : (xs ys : List EntryValue) → xs ++ ys ≡ [] → xs ≡ []
first_nothing [] ys e = refl
first_nothing (x ∷ xs) ys e = absurd (cc)

-- what has no call more than an earlier one, no history between has
same_between : (c : ℕ) (a b d : List EntryValue) → Extends b a → Extends d b → calls_by c d ≡ calls_by c a → calls_by c b ≡ calls_by c a
same_between c a b d more behind same =
    let first : calls_by c b ≡ calls_by c a ++ calls_by c more.0 = ap (calls_by c) more.1 ∙ calls-append c a more.0 in
    let all : calls_by c d ≡ calls_by c a ++ (calls_by c more.0 ++ calls_by c behind.0) = ap (calls_by c) behind.1
    ∙ (calls-append c b behind.0 ∙ (ap (λ z. z ++ calls_by c behind.0) first ∙ append_assoc (calls_by c a) (calls_by c more.0) (calls_by c behind.0))) in
    let none : calls_by c more.0 ≡ [] =
    first_nothing (calls_by c more.0) (calls_by c behind.0)
    (append_cancel_left (calls_by c a) (calls_by c more.0 ++ calls_by c behind.0) [] (sym all ∙ (same ∙ sym (append-nil (calls_by c a))))) in
    first ∙ (ap (λ z. calls_by c a ++ z) none ∙ append-nil (calls_by c a))

-- what a pass has of its client
pub mine_same : (c : ℕ) (o p : Option ℕ) (h g : List EntryValue) → o ≡ p → p ≡ Some c → calls_of o h ≡ calls_of p g → calls_by c h ≡ calls_by c g
mine_same c o p h g same is calls = subst (λ (z : Option ℕ). calls_of z h ≡ calls_of z g) is (subst (λ (z : Option ℕ). calls_of z h ≡ calls_of p g) same calls)

pub met_one : (c : ℕ) (m0 m1 : Machine) (g : List EntryValue) (us : Sights) (s2 s3 : List EntryValue) → IsWorkedTo m0 m1 → Extends m1.history m0.history →
    openings_of m1.history ≡ openings_of m0.history → Extends m1.history g → calls_by c m1.history ≡ calls_by c g → AreMet m1 us s2 → Extends s3 s2 →
    calls_by c s3 ≡ calls_by c m1.history
    → AreMet m0 ((c, g) ∷ us) s3
met_one c m0 m1 g us s2 s3 worked from none own first met behind second = let h = met.between.history in record {
  between = met.between;
  legal = met.legal;
  worked = worked_on m0 m1 met.between worked met.worked;
  since = extends-on h m1.history m0.history met.since from;
  until = extends-on s3 s2 h behind met.until;
  clients = (
    (extends-on h m1.history g met.since own, same_between c m1.history h s3 met.since (extends-on s3 s2 h behind met.until) second ∙ first),
    met.clients,
  );
  openings = met.openings ∙ none;
}

pub met_none : (m0 m1 : Machine) → IsWorkedTo m0 m1 → Extends m1.history m0.history → ∥ IsLegal m1.history ∥₁ →
    openings_of m1.history ≡ openings_of m0.history → AreMet m0 [] m1.history
met_none m0 m1 worked on legal none =
    record { between = m1; legal = legal; worked = worked; since = on; until = extends-same m1.history; clients = tt; openings = none }

-- each client that is there is covered
pub covers_each : (c : ℕ) (h : List EntryValue) (us : Sights) → AllByRecursion (Covers h) us → CoversSight c h (sight_of c us)
covers_each c h [] all = tt
covers_each c h (x ∷ xs) (first, rest) =
    cond_both (x.0 == c) (Some x.1) (sight_of c xs) (CoversSight c h)
    (λ is. subst (λ d. Covers h (d, x.1)) (eqb-true x.0 c is) first) (λ is. covers_each c h xs rest)

-- ---- of a pass

-- it has seen a machine last, whose history it has seen
abbrev pub IsKnown : {C : Type 0} → Pass (ClusterOf C) → Type 0
IsKnown p = (is_some (last p) ≡ true) × (seen p ≡ (machine_seen (last p)).history)

pub is_known : {C : Type 0} (p : Pass (ClusterOf C)) (x : ClusterOf C) → seen p ≡ (machine x).history → last p ≡ Some x → IsKnown p
is_known p x seen_is last_is = (ap is_some last_is, seen_is ∙ sym (ap (λ z. (machine_seen z).history) last_is))

module _ {C : Type 0} (l : LibFs (ClusterOf C)) (p0 p a b d e f : Pass (ClusterOf C)) (us : Sights) where
  -- a client meets with the pass, what follows is met, and it meets with the pass again
  pub met_client : p ≡ pass_of l → IsKnown p0 → IsKnown a → IsWorkedTo (machine_seen (last p0)) (machine_seen (last a)) → seen a ≡ seen b →
      Extends (seen a) (seen p0) → openings_of (seen a) ≡ openings_of (seen p0) → Extends (seen b) (seen p) → client b ≡ client p → mine b ≡ mine p →
      AreMet (machine_seen (last a)) us (seen d)
      → Extends (seen e) (seen d) → seen e ≡ seen f → client f ≡ client b → mine f ≡ mine b → AreMet (machine_seen (last p0)) ((client_of l, seen_by l) ∷ us)
      (seen e)
  met_client is known0 known1 worked one first none second same own met first2 one2 same2 own2 =
      let its : client p ≡ Some (client_of l) = ap (λ z. client z) is ∙ l.its in
      let here : client b ≡ Some (client_of l) = same ∙ its in
      let known : seen p ≡ seen_by l = ap (λ z. seen z) is in
      let m0 = machine_seen (last p0) in
      let m1 = machine_seen (last a) in
      let at0 : seen p0 ≡ m0.history = known0.1 in
      let at1 : seen a ≡ m1.history = known1.1 in
      met_one (client_of l) m0 m1 (seen_by l) us (seen d) (seen e) worked (rw (at0, at1) at first) (rw (at0, at1) at none) (rw (known, ← one, at1) at second)
      (ap (calls_by (client_of l)) (sym at1 ∙ one)
      ∙ (mine_same (client_of l) (client b) (client p) (seen b) (seen p) same its own ∙ ap (calls_by (client_of l)) known))
      met first2
      (ap (calls_by (client_of l)) one2
      ∙ (mine_same (client_of l) (client f) (client b) (seen f) (seen b) same2 here own2 ∙ ap (calls_by (client_of l)) (sym one ∙ at1)))
