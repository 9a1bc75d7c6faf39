-- Places up to which logs are kept where a node fails, and what is left of logs there.
use Rattle.assise_machine_state.proofs.Common.{◌≡◌, ◌≢◌, ◌⊎◌, ℕ, ◌-◌, ◌≤◌, min, false, ◌==◌, length, take, inl, inr, refl, sym, subst, ◌∙◌, arith, true≢false}
use Rattle.assise_machine_state.proofs.Common.{and_right, cases_Bool, ne_eqb, length-take, take-take, take_all, NumberedLog, log_end, without_tail}
use Rattle.assise_machine_state.proofs.Common.{kept_at_failure, WorldInvariant, Full, World, end_of_log, records_between, kept_low, first-received_by_all}
use Rattle.assise_machine_state.proofs.Common.{least_of-below}
use Rattle.assise_model_history.proofs.Shared.FailureList.{cut_there, is_left, least_kept, others_of}

pub kept_elsewhere : (w : World) (n c : ℕ) → w.home c ≢ n → kept_at_failure w n c ≡ end_of_log w c
unfolding kept_at_failure
kept_elsewhere w n c other = rw (and_right (w.lives c) (w.home c == n) (ne_eqb (w.home c) n other)) refl

kept_once_over : (w : World) (n c : ℕ) → w.lives c ≡ false → kept_at_failure w n c ≡ end_of_log w c
unfolding kept_at_failure
kept_once_over w n c over = rw over refl

pub kept_from_first : (w : World) (n c : ℕ) → WorldInvariant w → w.first c ≤ kept_at_failure w n c
kept_from_first w n c sound = omega (arith, first-received_by_all w sound.coherent c, kept_low w n c)

-- of a client whose node fails, or failed before, each other full node has what is kept
pub kept_received : (w : World) (n m c : ℕ) → WorldInvariant w → Full w m → m ≢ n → (w.lives c ≡ false) ⊎ (w.home c ≡ n) →
    kept_at_failure w n c ≤ w.received m c
kept_received w n m c sound f other ends =
    elim (cases_Bool (w.lives c)) [
      | inl lives ↦
          let here : w.home c ≡ n = elim ends [ inl over ↦ absurd (true≢false (sym lives ∙ over)) | inr here ↦ here ] in
          let least : kept_at_failure w n c ≡ least_kept w n c = cut_there w n c lives here in
          subst (λ k. k ≤ w.received m c) (sym least) (least_of-below (others_of w n) (λ k. w.received k c) (end_of_log w c) m (is_left w.full n m f other))
      | inr over ↦ omega (arith, kept_once_over w n c over, sound.left m c over f)
    ]

pub part_first : (w : World) (c k : ℕ) → records_between w c (w.first c) k ≡ take (k - w.first c) (w.records c)
unfolding records_between
part_first w c k = (let none : w.first c - w.first c ≡ 0 = omega arith in rw none refl)

-- the prefix of a node's log, as far as it is kept
pub prefix_kept : (w : World) (n m c : ℕ) → WorldInvariant w → Full w m → kept_at_failure w n c ≤ w.received m c →
    take (kept_at_failure w n c - w.first c) (w.log m c) ≡ take (kept_at_failure w n c - w.first c) (w.records c)
prefix_kept w n m c sound f low = grind (arith, take-take)

pub all_kept : (w : World) (n c : ℕ) → kept_at_failure w n c ≡ end_of_log w c → take (kept_at_failure w n c - w.first c) (w.records c) ≡ w.records c
unfolding end_of_log
all_kept w n c all = take_all (kept_at_failure w n c - w.first c) (w.records c) (omega (arith, all))

-- a log that is cut ends there
pub end_cut : (l : NumberedLog) (k : ℕ) → l.first ≤ k → log_end (without_tail l k) ≡ min (log_end l) k
end_cut l k low = (let left : length (take (k - l.first) l.records) ≡ min (k - l.first) (length l.records) = length-take (k - l.first) l.records in
    omega (arith, low, left))
