-- That a node is full again has one proof at most, where it is known how it stood.
use Rattle.assise_machine_failures.proofs.Common.{◌≡◌, ℕ, Some, None, inl, inr, ap, sym, ◌∙◌, Coded-set, coded_option, coded_ℕ, nat_cmp, ∥∥₁_elim, props}
use Rattle.assise_machine_failures.proofs.Common.{cases_eq, same_Some, coded_content, donor_of, join_fault, Membership, returning, standing_of, World, Rejoins}
use Rattle.std.specs.FinSet as set
use Rattle.assise_manager.specs.Changes.{joined}
use Rattle.assise_machine_failures.proofs.Codes.{coded_calls, coded_records}

module _ (w w' : World) (m m' : Membership) (n since donor : ℕ) (stale : set.FinSet nat_cmp) (some : ∥ Rejoins w m n w' m' ∥₁)
    (stands : standing_of m.nodes n ≡ Some (returning since donor stale)) (fine : join_fault m n ≡ None) (members : m' ≡ joined m n) where
  same_donor : (r : Rejoins w m n w' m') → r.donor ≡ donor
  same_donor r = same_Some r.donor donor (ap donor_of (sym r.stands ∙ stands))

  number : (k l : ℕ) → (Rejoins w m n w' m' → k ≡ l) → k ≡ l
  number k l shows = ∥∥₁_elim some (Coded-set coded_ℕ k l) shows

  pub settled : Rejoins w m n w' m'
  settled = record {
    since = since;
    donor = donor;
    stale = stale;
    stands = stands;
    fine = fine;
    members = members;
    joined = ∥∥₁_elim some (search props) (λ r. r.joined);
    stay = λ k f. ∥∥₁_elim some (search props) (λ r. r.stay k f);
    only = λ k f. elim (cases_eq k n) [
      | inl is ↦ inl is
      | inr other ↦ inr (∥∥₁_elim some (search props) (λ r. elim (r.only k f) [ inl is ↦ absurd (other is) | inr was ↦ was ]))
    ];
    logs = ∥∥₁_elim some (hlevel (props, Coded-set coded_calls, Coded-set coded_records)) (λ r. r.logs);
    clients = ∥∥₁_elim some (hlevel props) (λ r. r.clients);
    goals = ∥∥₁_elim some (hlevel props) (λ r. r.goals);
    leases = ∥∥₁_elim some (hlevel props) (λ r. r.leases);
    area = λ k i. ∥∥₁_elim some (Coded-set (coded_option coded_content) (w'.area k i) (w.area k i)) (λ r. r.area k i);
    log_here = λ c. ∥∥₁_elim some (Coded-set coded_records (w'.log n c) (w.log donor c)) (λ r. r.log_here c ∙ ap (λ d. w.log d c) (same_donor r));
    received_here = λ c. number (w'.received n c) (w.received donor c) (λ r. r.received_here c ∙ ap (λ d. w.received d c) (same_donor r));
    digested_here = λ c. number (w'.digested n c) (w.digested donor c) (λ r. r.digested_here c ∙ ap (λ d. w.digested d c) (same_donor r));
    else_same = λ k f. ∥∥₁_elim some (hlevel (props, Coded-set (coded_option coded_content), Coded-set coded_records)) (λ r. r.else_same k f);
  }
