-- Lists of log records: their effects, and their calls.
use Rattle.assise_record.proofs.Common.{◌≡◌, ℕ, ◌<◌, List, [], ◌∷◌, ◌++◌, refl, ap, sym, ◌∙◌, append_assoc, append-nil, Effect, LogRecord, all_effects}
use Rattle.assise_record.proofs.Common.{record_of, call_of, Ascending}

pub all_effects-append : (rs zs : List LogRecord) → all_effects (rs ++ zs) ≡ all_effects rs ++ all_effects zs
all_effects-append [] zs = refl
all_effects-append (r ∷ rs) zs = ap (λ es. r.effects ++ es) (all_effects-append rs zs) ∙ sym (append_assoc r.effects (all_effects rs) (all_effects zs))

pub all_effects-one : (n : ℕ) (es : List Effect) → all_effects (record { call = n; effects = es } ∷ []) ≡ es
all_effects-one n es = append-nil es

-- also where the call has none, and no record
pub all_effects-record_of : (n : ℕ) (es : List Effect) → all_effects (record_of n es) ≡ es
all_effects-record_of n [] = refl
all_effects-record_of n (e ∷ es) = all_effects-one n (e ∷ es)

pub ascending-append : (rs zs : List LogRecord) (d : ℕ) → Ascending rs (call_of zs 0 d) → Ascending zs d → Ascending (rs ++ zs) d
ascending-append [] zs d h k = k
ascending-append (r ∷ rs) zs d h k = (first_of rs h.0, ascending-append rs zs d h.1 k)
  where
    first_of : (qs : List LogRecord) → r.call < call_of qs 0 (call_of zs 0 d) → r.call < call_of (qs ++ zs) 0 d
    first_of [] g = g
    first_of (q ∷ qs) g = g
