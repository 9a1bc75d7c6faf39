-- That a node failed has one proof at most, where another full node is known.
use Rattle.assise_machine_failures.proofs.Common.{◌≡◌, ◌≢◌, ℕ, Coded-set, coded_bool, coded_option, coded_ℕ, ∥∥₁_elim, props, coded_content, Fails, Full, World}
use Rattle.assise_machine_failures.proofs.Codes.{coded_calls, coded_records}

module _ (w : World) (n : ℕ) (w' : World) (some : ∥ Fails w n w' ∥₁) (survivor : (m : ℕ) × ((m ≢ n) × Full w m)) where
  number : (k l : ℕ) → (Fails w n w' → k ≡ l) → k ≡ l
  number k l shows = ∥∥₁_elim some (Coded-set coded_ℕ k l) shows

  pub fails_settled : Fails w n w'
  fails_settled = record {
    full_node = ∥∥₁_elim some (search props) (λ f. f.full_node);
    survivor = survivor;
    gone = λ full. ∥∥₁_elim some (λ a b. absurd a) (λ f. f.gone full);
    only = λ m full. ∥∥₁_elim some (search props) (λ f. f.only m full);
    others = λ m full other. ∥∥₁_elim some (search props) (λ f. f.others m full other);
    calls = ∥∥₁_elim some (Coded-set coded_calls w'.calls _) (λ f. f.calls);
    records = λ c. ∥∥₁_elim some (Coded-set coded_records (w'.records c) _) (λ f. f.records c);
    first = λ c. number (w'.first c) (w.first c) (λ f. f.first c);
    border = λ c k low. ∥∥₁_elim some (Coded-set coded_bool (w'.border c k) (w.border c k)) (λ f. f.border c k low);
    next = λ c. number (w'.next c) (w.next c) (λ f. f.next c);
    made = λ c. number (w'.made c) (w.made c) (λ f. f.made c);
    goals = λ c. number (w'.goal c) _ (λ f. f.goals c);
    clients = number w'.clients w.clients (λ f. f.clients);
    home = λ c. number (w'.home c) (w.home c) (λ f. f.home c);
    lives_there = λ c here. ∥∥₁_elim some (Coded-set coded_bool (w'.lives c) _) (λ f. f.lives_there c here);
    lives_else = λ c other. ∥∥₁_elim some (Coded-set coded_bool (w'.lives c) (w.lives c)) (λ f. f.lives_else c other);
    crashed = λ c. ∥∥₁_elim some (Coded-set coded_bool (w'.crashed c) (w.crashed c)) (λ f. f.crashed c);
    leases = ∥∥₁_elim some (hlevel props) (λ f. f.leases);
    log = λ m c full. ∥∥₁_elim some (Coded-set coded_records (w'.log m c) _) (λ f. f.log m c full);
    received = λ m c full. number (w'.received m c) _ (λ f. f.received m c full);
    digested = λ m c full. number (w'.digested m c) (w.digested m c) (λ f. f.digested m c full);
    area = λ m i full. ∥∥₁_elim some (Coded-set (coded_option coded_content) (w'.area m i) (w.area m i)) (λ f. f.area m i full);
  }
