-- How a node comes back: what makes it up, and that it is a trace of events.
use Rattle.assise_rounds.proofs.Common.{⊤, ◌≡◌, ◌<◌, ℕ, zero, suc, Result, Err, Refusal, began, left, refused, Machine, IsEventTrace, Told, ComesBack, Fills}
use Rattle.assise_rounds.proofs.Common.{FillsOne, FillsUp, IsFilled, StopsFilling, begins, gets_all, is_filled, is_stopped, lacks_none}
use Rattle.assise_model_events.specs.MemberEvents.{Joining, Refilling, Returning}
use Rattle.assise_machine_failures.specs.Answers.{joining_answer}
use Rattle.assise_rounds.specs.Returning.{is_refused}
use Rattle.assise_rounds.proofs.Shared.Traces.{both, event, event_trace, nothing_trace, then_trace}

-- ---- a node is filled

pub next_inode : (n k j stale : ℕ) (m u m' : Machine) → j ≡ suc k → 0 < stale → (es : Told) × Fills n k m es u → Refilling u n (left stale) m' →
    (gs : Told) × Fills n j m gs m'
next_inode n k j stale m u m' is some before h = rw is (_, both _ _ _ before.1 (record { stale = stale; some = some; event = event h }))

pub last_inode : (stale n k none : ℕ) (m u m' : Machine) → k < stale → none ≡ 0 → (es : Told) × Fills n k m es u → Refilling u n (left none) m' →
    (gs : Told) × IsFilled stale n m gs m'
last_inode stale n k none m u m' few is before h = (_, lacks_none k few (both _ _ _ before.1 (event (rw is at h))))

pub no_inode : (stale n k : ℕ) (r : Refusal) (m u m' : Machine) → k < stale → (es : Told) × Fills n k m es u → Refilling u n (refused r) m' →
    (gs : Told) × StopsFilling stale n r m gs m'
no_inode stale n k r m u m' few before h = (_, record { before = k; few = few; stops = both _ _ _ before.1 (event h) })

-- ---- a node comes back

pub comes_back : (n stale : ℕ) (r : Result ⊤ Refusal) (m v w m' : Machine) → Returning m n (began stale) v → (es : Told) × IsFilled stale n v es w →
    Joining w n (joining_answer r) m' → (gs : Told) × ComesBack n r m gs m'
comes_back n stale r m v w m' h fills joins = (_, begins stale (both _ _ _ (event h) (is_filled (both _ _ _ fills.1 (event joins)))))

pub comes_partly : (n stale : ℕ) (r : Result ⊤ Refusal) (e : Refusal) (m v m' : Machine) → r ≡ Err e → Returning m n (began stale) v →
    (es : Told) × StopsFilling stale n e v es m' → (gs : Told) × ComesBack n r m gs m'
comes_partly n stale r e m v m' is h stops = (_, begins stale (both _ _ _ (event h) (is_stopped e is stops.1)))

pub comes_not : (n : ℕ) (r : Result ⊤ Refusal) (e : Refusal) (m m' : Machine) → r ≡ Err e → Returning m n (refused e) m' → (gs : Told) × ComesBack n r m gs m'
comes_not n r e m m' is h = (_, is_refused e is (event h))

-- ---- which is a trace of events

fills_trace : (n k : ℕ) (m : Machine) (es : Told) (m' : Machine) → Fills n k m es m' → IsEventTrace m es m'
fills_trace n zero m es m' h = nothing_trace m es m' h
fills_trace n (suc k) m es m' h = then_trace (Fills n k) (FillsOne n) (fills_trace n k) (λ v fs w f. event_trace _ _ v fs w f.event) m es m' h

filled_trace : (stale n : ℕ) (m : Machine) (es : Told) (m' : Machine) → IsFilled stale n m es m' → IsEventTrace m es m'
filled_trace stale n m es m' (lacks_none k few h) = then_trace (Fills n k) _ (fills_trace n k) (event_trace _ _) m es m' h
filled_trace stale n m es m' (gets_all h) = fills_trace n stale m es m' h

up_trace : (stale n : ℕ) (r : Result ⊤ Refusal) (m : Machine) (es : Told) (m' : Machine) → FillsUp stale n r m es m' → IsEventTrace m es m'
up_trace stale n r m es m' (is_filled h) = then_trace (IsFilled stale n) _ (filled_trace stale n) (event_trace _ _) m es m' h
up_trace stale n r m es m' (is_stopped e is h) = then_trace (Fills n h.before) _ (fills_trace n h.before) (event_trace _ _) m es m' h.stops

pub return_trace : (n : ℕ) (r : Result ⊤ Refusal) (m : Machine) (es : Told) (m' : Machine) → ComesBack n r m es m' → IsEventTrace m es m'
return_trace n r m es m' (begins stale h) = then_trace _ (FillsUp stale n r) (event_trace _ _) (up_trace stale n r) m es m' h
return_trace n r m es m' (is_refused e is h) = event_trace _ _ m es m' h
