-- What is Short: bytes that end inside the header, or before the end of the body.
use Rattle.assise_record.proofs.Common.{◌≡◌, ℕ, ◌+◌, ◌<◌, List, length, Result, Ok, Err, refl, ap, ◌∙◌, inl, inr, ◌↔◌, ◌⊎◌, Header, LogFrame, is_marked}
use Rattle.assise_record.proofs.Common.{FrameFault, Short, ◌>>=◌, Read, bytes_at, body_at, header_at, read_frame, frame_at, IsUnfinished, arith}
use Rattle.assise_record.proofs.Never.{body_never}
use Rattle.assise_record.proofs.Headers.{ends_inside, header_says, header_then}

-- ---- what is Short

-- the reader finds the header too short, or fewer bytes behind it than it announces
abbrev EndsEarly : ℕ → List ℕ → Type 0
EndsEarly newest bytes = (header_at newest bytes ≡ Err Short)
    ⊎ ((h : Header) × (rest : List ℕ) × (header_at newest bytes ≡ Ok (h, rest)) × (length rest < h.size))

abbrev short : (A : Type 0) → Result A FrameFault
short A = Err Short

-- what is read behind a header
abbrev behind : Header → List ℕ → Result (LogFrame × ℕ) FrameFault
behind h rest = bytes_at h.size Short rest >>= λ body. body_at (is_marked h.version) h.count body.0 >>= λ records. Ok (read_frame h records, 29 + h.size)

few_behind : (h : Header) (rest : List ℕ) → behind h rest ≡ short (LogFrame × ℕ) → length rest < h.size
few_behind h rest e = grind (arith, body_never)

unfinished : (newest : ℕ) (bytes : List ℕ) → frame_at newest bytes ≡ short (LogFrame × ℕ) → EndsEarly newest bytes
unfolding frame_at
unfinished newest bytes e = by_header (header_at newest bytes) refl e where
  by_header : (r : Read Header) → header_at newest bytes ≡ r → (r >>= λ head. behind head.0 head.1) ≡ short (LogFrame × ℕ) → EndsEarly newest bytes
  by_header (Ok x) is e = inr (x.0, x.1, is, few_behind x.0 x.1 e)
  by_header (Err fault) is e =
      let same : fault ≡ Short = cc in
      let failed = λ (f : FrameFault). let r : Read Header = Err f in r in
      inl (is ∙ ap failed same)

not_finished : (newest : ℕ) (bytes : List ℕ) → EndsEarly newest bytes → frame_at newest bytes ≡ short (LogFrame × ℕ)
unfolding frame_at
not_finished newest bytes (inl header) = ap (λ (r : Read Header). r >>= λ head. behind head.0 head.1) header
not_finished newest bytes (inr body) = grind arith

said : (newest : ℕ) (bytes : List ℕ) → EndsEarly newest bytes → IsUnfinished newest bytes
said newest bytes (inl header) = ends_inside newest bytes header
said newest bytes (inr body) = header_then newest bytes body.0 body.1 body.2 body.3

seen : (newest : ℕ) (bytes : List ℕ) → IsUnfinished newest bytes → EndsEarly newest bytes
seen newest bytes u = header_says newest bytes u

pub short_is : (newest : ℕ) (bytes : List ℕ) → (frame_at newest bytes ≡ Err Short) ↔ IsUnfinished newest bytes
short_is newest bytes = (λ e. said newest bytes (unfinished newest bytes e), λ u. not_finished newest bytes (seen newest bytes u))
