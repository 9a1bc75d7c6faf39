-- A client's last records give way to groups without what is overridden in them, and come to the same.
use Rattle.assise_digest.proofs.Common.{ℕ, zero, suc, ◌≤◌, List, [], ◌∷◌, ◌++◌, length, take, drop, map, subst, arith, take-append-drop, length-drop}
use Rattle.assise_digest.proofs.Common.{all_records, coalesced_group, groups_of, LogRecord, ComeToSame, same_both, same_group, same_none, groups_from}
use Rattle.assise_digest.proofs.Common.{NumberedLog, records_from}

come_along : (n : ℕ) (rs : List LogRecord) → length rs ≤ n → ComeToSame (all_records (map coalesced_group (groups_of n rs))) rs
come_along zero [] few = same_none
come_along zero (r ∷ rs) few = absurd (omega arith)
come_along (suc n) [] few = same_none
come_along (suc n) (r ∷ rs) few =
    let prefix : List LogRecord = take 64 (r ∷ rs) in
    let rest : List LogRecord = drop 64 (r ∷ rs) in
    subst (λ qs. ComeToSame (coalesced_group prefix ++ all_records (map coalesced_group (groups_of n rest))) qs) (take-append-drop 64 (r ∷ rs))
    (same_both (coalesced_group prefix) prefix (all_records (map coalesced_group (groups_of n rest))) rest (same_group prefix)
    (come_along n rest (omega (arith, length-drop 64 (r ∷ rs)))))

pub groups_come : (l : NumberedLog) (from : ℕ) → ComeToSame (all_records (groups_from l from)) (records_from l from)
groups_come l from = come_along (length (records_from l from)) (records_from l from) (omega arith)
