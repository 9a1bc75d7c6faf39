-- Lists of events that are served, one after another.
use Rattle.assise_machine.proofs.Common.{◌≡◌, ℕ, ◌+◌, ◌<◌, ◌≤◌, List, [], ◌∷◌, ◌++◌, Option, Some, None, get_or, length, take, refl, ap, sym, subst, ◌∙◌}
use Rattle.assise_machine.proofs.Common.{append_assoc, append-nil, arith, length-take, take-take, take_all, take_more, unwrap_or, Durability, Refusal}
use Rattle.assise_machine.proofs.Common.{BadClient, NumberedLog, Answer, ClusterEvent, all_entries, entries_of, open_client, refused, open_fault, Leads}
use Rattle.assise_machine.proofs.Common.{MachineInvariant, Machine, state_of, event_keeps, event_leads, event_told, then_leads, IsLasting, Answered, Event}
use Rattle.assise_machine.proofs.Common.{AllApplied, AllServed, IsApplied, IsServed, Stocked, answer_seen, event_seen, happens, lacks_revoker, stock_after}
use Rattle.assise_machine.proofs.Common.{stock_left, told}
use Rattle.assise_model_events.specs.ClientEvents.{is_refused}
use Rattle.assise_model_events.proofs.Shared.EventTraces.{same_leads, same_told}
use Rattle.assise_model_history.proofs.Shared.TracesKeep.{trace_lasts}

-- ---- one event

pub served_keeps : (k : ℕ) (m m' : Machine) (e : ClusterEvent) (a : Answer) → MachineInvariant m → IsServed k m e a m' → MachineInvariant m'
served_keeps k m m' e a h (happens step) = event_keeps m m' e a h step
served_keeps k m m' e a h (lacks_revoker n u is none fine answer same) = subst MachineInvariant (sym same) h

pub served_told : (k : ℕ) (m m' : Machine) (e : ClusterEvent) (a : Answer) → IsServed k m e a m' → m'.history ≡ m.history ++ entries_of m.history e a
served_told k m m' e a (happens step) = event_told m m' e a step
served_told k m m' e a (lacks_revoker n u is none fine answer same) = same_told m m' same ∙ (λ i. m.history ++ entries_of m.history (sym is i) (sym answer i))

pub served_leads : (k : ℕ) (m m' : Machine) (e : ClusterEvent) (a : Answer) → MachineInvariant m → IsServed k m e a m' → Leads m m'
served_leads k m m' e a h (happens step) = event_leads m m' e a h step
served_leads k m m' e a h (lacks_revoker n u is none fine answer same) = same_leads m m' same

-- ---- all of them

pub all_keep : (k : ℕ) (m m' : Machine) (es : List (ClusterEvent × Answer)) → MachineInvariant m → AllServed k m es m' → MachineInvariant m'
all_keep k m m' [] h e = subst MachineInvariant (sym e) h
all_keep k m m' ((e, a) ∷ es) h (v, (step, rest)) = all_keep (stock_after k a) v m' es (served_keeps k m v e a h step) rest

pub all_told : (k : ℕ) (m m' : Machine) (es : List (ClusterEvent × Answer)) → AllServed k m es m' → m'.history ≡ m.history ++ all_entries m.history es
all_told k m m' [] e = ap (λ x. x.history) e ∙ sym (append-nil m.history)
all_told k m m' ((e, a) ∷ es) (v, (step, rest)) = grind (
  arith,
  all_told (stock_after k a) v m' es rest,
  served_told k m v e a step,
  append_assoc m.history (entries_of m.history e a)
      (all_entries (m.history ++ entries_of m.history e a) es),
)

pub all_lead : (k : ℕ) (m m' : Machine) (es : List (ClusterEvent × Answer)) → MachineInvariant m → AllServed k m es m' → Leads m m'
all_lead k m m' [] h e = same_leads m m' e
all_lead k m m' ((e, a) ∷ es) h (v, (step, rest)) =
    then_leads m v m' (served_leads k m v e a h step) (all_lead (stock_after k a) v m' es (served_keeps k m v e a h step) rest)

pub all_last : (k : ℕ) (m m' : Machine) (es : List (ClusterEvent × Answer)) → MachineInvariant m → AllServed k m es m' → IsLasting (state_of m) (state_of m')
all_last k m m' es h run = grind (arith, all_lead, trace_lasts)

-- ---- one event more

pub served_more : (k : ℕ) (m v m' : Machine) (es : List (ClusterEvent × Answer)) (e : ClusterEvent) (a : Answer) → AllServed k m es v →
    IsServed (stock_left k es) v e a m' → AllServed k m (es ++ (e, a) ∷ []) m'
served_more k m v m' [] e a same h = (m', (subst (λ u. IsServed k u e a m') same h, refl))
served_more k m v m' ((f, b) ∷ es) e a (u, (first, rest)) h = (u, (first, served_more (stock_after k b) u v m' es e a rest h))

pub applied_more : {C : Type 0} (answers : C → NumberedLog → ℕ → ℕ → Type 0) (s v t : Stocked C) (es : List (ClusterEvent × Answer)) (e : ClusterEvent)
    (a : Answer) →
    AllApplied answers s es v → IsApplied answers v e a t → AllApplied answers s (es ++ (e, a) ∷ []) t
applied_more answers s v t [] e a same h = (t, (subst (λ u. IsApplied answers u e a t) same h, refl))
applied_more answers s v t ((f, b) ∷ es) e a (u, (first, rest)) h = (u, (first, applied_more answers u v t es e a rest h))

pub left_more : (k : ℕ) (es : List (ClusterEvent × Answer)) (e : ClusterEvent) (a : Answer) → stock_left k (es ++ (e, a) ∷ []) ≡ stock_after (stock_left k es) a
left_more k [] e a = refl
left_more k ((f, b) ∷ es) e a = left_more (stock_after k b) es e a

pub told_more : (es : List Event) (bs : List Answered) (e : Event) (a : Answered) → length es ≡ length bs → told (es ++ e ∷ []) (bs ++ a ∷ [])
    ≡ told es bs ++ (event_seen e, answer_seen a) ∷ []
told_more [] [] e a same = refl
told_more [] (b ∷ bs) e a same = cc
told_more (f ∷ es) [] e a same = cc
told_more (f ∷ es) (b ∷ bs) e a same = ap (λ ts. (event_seen f, answer_seen b) ∷ ts) (told_more es bs e a (omega (arith, same)))

grown_length : (bs : List Answered) (a : Answered) → length (bs ++ a ∷ []) ≡ length bs + 1
grown_length [] a = refl
grown_length (b ∷ bs) a = (let rest = grown_length bs a in omega (arith, rest))

-- one event of a list is served, behind those before it
module _ (k j : ℕ) (m v m' : Machine) (es : List Event) (bs cs : List Answered) (i : ℕ) (e : Event) (a : Answered)
    (count : length bs ≡ i) (inside : i < length es) (is : e ≡ get_or es i e) (grown : cs ≡ bs ++ a ∷ []) (left : j ≡ stock_left k (told (take i es) bs))
  where
    pub told_now : told (take (i + 1) es) cs ≡ told (take i es) bs ++ (event_seen e, answer_seen a) ∷ []
    told_now =
        let few = length-take i es in
        let same : length (take i es) ≡ length bs = omega (arith, few, count, inside) in
        (λ t. told (take_more es i e inside t) (grown t)) ∙ told_more (take i es) bs (get_or es i e) a same
        ∙ ap (λ x. told (take i es) bs ++ (event_seen x, answer_seen a) ∷ []) (sym is)

    pub served_on : AllServed k m (told (take i es) bs) v → IsServed j v (event_seen e) (answer_seen a) m' → AllServed k m (told (take (i + 1) es) cs) m'
    served_on before step =
        subst (λ ts. AllServed k m ts m') (sym told_now)
        (served_more k m v m' (told (take i es) bs) (event_seen e) (answer_seen a) before
        (subst (λ q. IsServed q v (event_seen e) (answer_seen a) m') left step))

    pub applied_on : {C : Type 0} (answers : C → NumberedLog → ℕ → ℕ → Type 0) (s u t : Stocked C) → AllApplied answers s (told (take i es) bs) u →
        IsApplied answers u (event_seen e) (answer_seen a) t →
        AllApplied answers s (told (take (i + 1) es) cs) t
    applied_on answers s u t before step =
        subst (λ ts. AllApplied answers s ts t) (sym told_now) (applied_more answers s u t (told (take i es) bs) (event_seen e) (answer_seen a) before step)

    pub left_on : stock_after j (answer_seen a) ≡ stock_left k (told (take (i + 1) es) cs)
    left_on =
        ap (λ q. stock_after q (answer_seen a)) left
        ∙ sym (left_more k (told (take i es) bs) (event_seen e) (answer_seen a))
        ∙ ap (stock_left k) (sym told_now)

    pub count_on : length cs ≡ i + 1
    count_on = ap length grown ∙ grown_length bs a ∙ ap (λ q. q + 1) count

-- a prefix of a prefix
pub prefix_on : {X : Type 0} (xs ys zs : List X) → ys ≡ take (length ys) xs → zs ≡ take (length zs) ys → zs ≡ take (length zs) xs
prefix_on xs ys zs first second = grind (arith, length-take, take-take)

-- a whole list
pub told_all : (k : ℕ) (m m' : Machine) (es : List Event) (bs : List Answered) (i : ℕ) → length es ≤ i → AllServed k m (told (take i es) bs) m' →
    m'.history ≡ m.history ++ all_entries m.history (told es bs)
told_all k m m' es bs i past run = all_told k m m' (told es bs) (subst (λ xs. AllServed k m (told xs bs) m') (take_all i es past) run)

-- ---- a client is to be opened, and no revoker is left

pub opened_bare : (k : ℕ) (m : Machine) (n : ℕ) (u : Durability) (o : Option Refusal) (r : Refusal) → k ≡ 0 → o ≡ open_fault m n → r ≡ unwrap_or o BadClient →
    IsServed k m (open_client n u) (refused r) m
opened_bare k m n u None r none is answer = lacks_revoker n u refl none (sym is) (ap refused answer) refl
opened_bare k m n u (Some e) r none is answer = happens (is_refused r (sym is ∙ ap Some (sym answer)) refl refl)
