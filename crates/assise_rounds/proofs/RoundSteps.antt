-- Rounds, node by node, and tries of a call with rounds behind them.
use Rattle.assise_rounds.proofs.Common.{◌==◌, ◌||◌, ◌≡◌, ◌≤◌, ◌<◌, ℕ, zero, suc, ◌+◌, ◌-◌, Bool, true, false, not, List, [], ◌∷◌, ◌++◌, map, length, Option}
use Rattle.assise_rounds.proofs.Common.{None, Some, Result, Err, is_none, inl, inr, refl, ap, sym, subst, ◌∙◌, arith, or_assoc, cases_eq, Op, Refusal, Busy}
use Rattle.assise_rounds.proofs.Common.{Reply, MOST_NODES, LogFrame, Answer, digest, not_yet, outgoing, refused, release_ready, sent, node_fault, Trying}
use Rattle.assise_rounds.proofs.Common.{Machine, Digesting, Releasing, Sending, Told, AreCarried, DigestsOnce, EachFull, IfFull, ReleasesOnce, RoundsOver}
use Rattle.assise_rounds.proofs.Common.{TakesTurn, UnlessAtFault, WithWork, deliveries, is_refused, is_work, letter, replicates, Awaits, TriesOften, is_busy}
use Rattle.assise_rounds.proofs.Common.{is_settled, is_stuck, settled_answer}
use Rattle.assise_rounds.proofs.Busy.{both_work, no_more_work, one_work, turn_work}
use Rattle.assise_rounds.proofs.CarriedFrames.{carried_turn}
use Rattle.assise_rounds.proofs.Shared.Traces.{both, event}

-- ---- node by node

last_does : (Does : ℕ → Machine → Told → Machine → Type 0) (n : ℕ) (m v m' : Machine) (es fs : Told) → (n ≡ 0 → ⊥) → EachFull Does (n - 1) m es v →
    IfFull Does n v fs m' → EachFull Does n m (es ++ fs) m'
last_does Does zero m v m' es fs some before now = absurd (some refl)
last_does Does (suc n) m v m' es fs some before now = grind arith

next_does : (Does : ℕ → Machine → Told → Machine → Type 0) (n : ℕ) (m v m' : Machine) (es fs : Told) → 1 ≤ n → EachFull Does (n - 1) m es v →
    IfFull Does n v fs m' → EachFull Does (n + 1 - 1) m (es ++ fs) m'
next_does Does n m v m' es fs some before now = grind arith

pub full_does : (fault : Option Refusal) (Does : Machine → Told → Machine → Type 0) (m : Machine) (es : Told) (m' : Machine) → is_none fault ≡ true →
    Does m es m' → UnlessAtFault fault Does m es m'
full_does None Does m es m' fine h = h
full_does (Some r) Does m es m' fine h = absurd (let bad : false ≡ true = fine in cc)

pub faulty_does : (fault : Option Refusal) (Does : Machine → Told → Machine → Type 0) (m : Machine) → is_none fault ≡ false → UnlessAtFault fault Does m [] m
faulty_does None Does m fine = absurd (let bad : true ≡ false = fine in cc)
faulty_does (Some r) Does m fine = record { told = refl; stays = refl }

-- a node more, as a loop over the nodes from 1 on comes to it: it is full, or it isn't

pub full_next : (Does : ℕ → Machine → Told → Machine → Type 0) (n : ℕ) (m v m' : Machine) (so_far now : Bool) → 1 ≤ n → is_none (node_fault v n) ≡ true
    → (es : Told) × WithWork (EachFull Does (n - 1)) so_far m es v → (fs : Told) × WithWork (Does n) now v fs m' →
    (gs : Told) × WithWork (EachFull Does (n + 1 - 1)) (so_far || now) m gs m'
full_next Does n m v m' so_far now some full (es, before) (fs, h) = grind (
  arith,
  next_does Does n m v m' es fs some before.does (full_does (node_fault v n) (Does n) v fs m' full h.does),
  both_work so_far now es fs before.work h.work,
)

pub faulty_next : (Does : ℕ → Machine → Told → Machine → Type 0) (n : ℕ) (m v : Machine) (so_far : Bool) → 1 ≤ n → is_none (node_fault v n) ≡ false
    → (es : Told) × WithWork (EachFull Does (n - 1)) so_far m es v → (gs : Told) × WithWork (EachFull Does (n + 1 - 1)) so_far m gs v
faulty_next Does n m v so_far some faulty (es, before) = grind
    (arith, next_does Does n m v v es, faulty_does (node_fault v n) (Does n) v faulty, no_more_work so_far es before.work)

-- the nodes behind one that isn't there
pub none_behind : (Does : ℕ → Machine → Told → Machine → Type 0) (n last : ℕ) (m v : Machine) (so_far : Bool) → 1 ≤ n → n - 1 ≤ last →
    ((j : ℕ) → n ≤ j → is_none (node_fault v j) ≡ false)
    → (es : Told) × WithWork (EachFull Does (n - 1)) so_far m es v → (gs : Told) × WithWork (EachFull Does last) so_far m gs v
none_behind Does n zero m v so_far some low none before = grind arith
none_behind Does n (suc last) m v so_far some low none before =
    elim (cases_eq (n - 1) (suc last)) [
      | inl same ↦ subst (λ k. (es : Told) × WithWork (EachFull Does k) so_far m es v) same before
      | inr other ↦
          let (es, h) = none_behind Does n last m v so_far some (omega (arith, low, other)) none before in (
            es ++ [],
            record {
              does = both _ _ _ h.does (faulty_does (node_fault v (suc last)) (Does (suc last)) v (none (suc last) (omega (arith, some, low, other))));
              work = no_more_work so_far es h.work;
            },
          )
    ]

-- ---- what a node does in a round

pub turn_taken : (F : Type 0) (m v : Machine) (n count size : ℕ) (frames : List (LogFrame × ℕ)) (none : Bool) → size ≡ length frames → none ≡ (size == 0) →
    Sending m n (sent frames) m → AreCarried F frames count m v
    → (es : Told) × WithWork (TakesTurn F n) (not none) m es v
turn_taken F m v n count size frames none whole is sends h = (
  (outgoing n, sent (map letter h.carried)) ∷ deliveries h.carried,
  record {
    does = replicates count (carried_turn F m v n count frames sends h);
    work = ap not (is ∙ ap (λ k. k == 0) (whole ∙ ap length (sym h.letters))) ∙ turn_work (outgoing n) h.carried;
  },
)

pub turn_refused : (F : Type 0) (m m' : Machine) (n : ℕ) (e : Refusal) → Sending m n (refused e) m' → (es : Told) × WithWork (TakesTurn F n) true m es m'
turn_refused F m m' n e h = ((outgoing n, refused e) ∷ [], record { does = is_refused e (event h); work = refl })

pub digests_once : (m m' : Machine) (n : ℕ) (a : Answer) → Digesting m n a m' → (es : Told) × WithWork (DigestsOnce n) (is_work a) m es m'
digests_once m m' n a h = ((digest n, a) ∷ [], record { does = record { answer = a; event = event h }; work = one_work (digest n) a })

pub releases_once : (m m' : Machine) (a : Answer) → Releasing m a m' → (es : Told) × WithWork ReleasesOnce (is_work a) m es m'
releases_once m m' a h = ((release_ready, a) ∷ [], record { does = record { answer = a; event = event h }; work = one_work release_ready a })

pub whole_round : (F : ℕ → Type 0) (m u v m' : Machine) (sends digests releases : Bool) → (es : Told) × WithWork (EachFull (λ n. TakesTurn (F n) n) MOST_NODES)
    sends m es u → (fs : Told) × WithWork (EachFull DigestsOnce MOST_NODES) digests u fs v
    → (gs : Told) × WithWork ReleasesOnce releases v gs m' → (hs : Told) × RoundsOver F (sends || digests || releases) m hs m'
whole_round F m u v m' sends digests releases (es, first) (fs, second) (gs, third) = (
  es ++ (fs ++ gs),
  record {
    does = record { round = both _ _ _ first.does (both _ _ _ second.does third.does) };
    work = or_assoc sends digests releases ∙ both_work sends (digests || releases) es (fs ++ gs) first.work
        (both_work digests releases fs gs second.work third.work);
  },
)

-- ---- tries

pub next_try : (F : ℕ → Type 0) (c : ℕ) (op : Op) (k j : ℕ) (a : Answer) (busy : Bool) (m u v m' : Machine) → j ≡ suc k → a ≡ not_yet → busy ≡ true
    → (es : Told) × Awaits F c op k m es u → Trying u c op a v → (fs : Told) × RoundsOver F busy v fs m' → (gs : Told) × Awaits F c op j m gs m'
next_try F c op k j a busy m u v m' is awaited some before h round = rw is (_, both _ _ _ before.1 (both _ _ _ (event (rw awaited at h)) (rw some at round.1)))

pub settled : (F : ℕ → Type 0) (turns c : ℕ) (op : Op) (r : Result Reply Refusal) (a : Answer) (k : ℕ) (m v m' : Machine) → k ≤ turns - 1 → a ≡ settled_answer r
    → (es : Told) × Awaits F c op k m es v → Trying v c op a m' → (gs : Told) × TriesOften F turns c op r m gs m'
settled F turns c op r a k m v m' few settles before h = (_, is_settled k few (both _ _ _ before.1 (event (rw settles at h))))

pub busy : (F : ℕ → Type 0) (turns c : ℕ) (op : Op) (a : Answer) (k : ℕ) (m v m' : Machine) → k ≡ turns - 1 → a ≡ not_yet
    → (es : Told) × Awaits F c op k m es v → Trying v c op a m' → (gs : Told) × TriesOften F turns c op (Err Busy) m gs m'
busy F turns c op a k m v m' is awaited before h = (_, is_busy refl (both _ _ _ (rw is at before.1) (event (rw awaited at h))))

pub stuck : (F : ℕ → Type 0) (turns c : ℕ) (op : Op) (a : Answer) (some : Bool) (k : ℕ) (m u v m' : Machine) → k < turns - 1 → a ≡ not_yet → some ≡ false
    → (es : Told) × Awaits F c op k m es u → Trying u c op a v → (fs : Told) × RoundsOver F some v fs m' → (gs : Told) × TriesOften F turns c op (Err Busy) m gs
    m'
stuck F turns c op a some k m u v m' few awaited none before h round =
    (_, is_stuck k few refl (both _ _ _ before.1 (both _ _ _ (event (rw awaited at h)) (rw none at round.1))))
