-- Node 1 fails with a record that node 2 lacks: the call of the record is lost.
use Rattle.assise_model_events.proofs.Common.{◌≡◌, List, [], ◌∷◌, refl, arith, lt-ltb, Loss, never, kept_at_failure, call_at, end_of_log, least_of-below}
use Rattle.assise_model_events.proofs.Common.{losses_of, cut_there, is_left, least_kept, others_of, failed, Machine, Failing, Comes}
use Rattle.assise_model_events.proofs.ReachedCreate.{HasFile, has_file}
use Rattle.assise_model_events.proofs.Shared.Failable.{failed_can}

-- client 1's first call
abbrev first_call : Loss
first_call = record { client = 1; first = 0 }

module _ (m : Machine) (f : HasFile 1 m) where
  -- no record is kept, for node 2 has none
  none_kept : kept_at_failure m.world 1 1 ≡ 0
  none_kept = grind (arith, least_kept, cut_there, least_of-below, others_of, is_left)

  one_record : end_of_log m.world 1 ≡ 1
  unfolding end_of_log
  one_record = rw (f.first, f.records) refl

  call_of_record : call_at m.world 1 0 ≡ 0
  unfolding call_at
  call_of_record = rw (f.first, f.records) refl

  lost_list : losses_of m.world 1 ≡ first_call ∷ []
  lost_list = grind (arith, lt-ltb, none_kept, one_record, call_of_record)

  loses : (m' : Machine) (losses : List Loss) → Failing m 1 (failed losses) m' → Failing m 1 (failed (first_call ∷ [])) m'
  loses m' losses h = grind (arith, never, lost_list)

pub failed_comes : (l : Loss) × Comes (λ m m'. Failing m 1 (failed (l ∷ [])) m')
failed_comes =
    let (m, f) = has_file 1 (omega arith) in
    let (m', (losses, e)) = failed_can m 1 f.holds (rw f.members refl) in
    (first_call, record { limit = 1; before = m; reached = f.reached; after = m'; outcome = loses m f m' losses e })
