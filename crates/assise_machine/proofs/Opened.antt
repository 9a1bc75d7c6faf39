-- The clients that events opened, and what they store.
use Rattle.assise_machine.proofs.Common.{◌≡◌, ◌≢◌, ◌⊎◌, inl, inr, ℕ, suc, ◌+◌, ◌<◌, ◌≤◌, Option, List, [], ◌∷◌, ◌++◌, Contains, get_or, length, take, refl, ap}
use Rattle.assise_machine.proofs.Common.{sym, subst, ◌∙◌, append_assoc, append-nil, arith, ∥∥₁_elim, option_to_list, take_all, Op, Fsync, Dsync, Durability}
use Rattle.assise_machine.proofs.Common.{clients_opened, durability_of, Calling, Crashing, Noting, Opening, Syncing, Coalescing, Answer, ClusterEvent}
use Rattle.assise_machine.proofs.Common.{open_client, try_call, try_fsync, crash, opened, entries_of, Dsyncing, Fsyncing, Happens, Trying, MachineInvariant}
use Rattle.assise_machine.proofs.Common.{Machine, Answered, Event, AllServed, IsServed, all_opened, answer_seen, event_seen, last_first, opened_of, stock_after}
use Rattle.assise_machine.proofs.Common.{stock_left, told}
use Rattle.std.proofs.lemmas.List.Elements.{Contains-append_cases, Contains-append_left, Contains-append_right, Contains-push}
use Rattle.assise_history.proofs.Shared.ClientCounts.{opened_append}
use Rattle.assise_machine.proofs.Shared.EventLists.{served_keeps, served_told, told_now}

-- ---- an answer

-- no client was opened
record OpensNone (a : Answer) : Type 0 where
  pub never : (c : ℕ) → a ≢ opened c
  pub none : opened_of a ≡ []
  pub stock : (k : ℕ) → stock_after k a ≡ k

opens_or : (a : Answer) → ((c : ℕ) × (a ≡ opened c)) ⊎ OpensNone a
opens_or (opened c) = inl (c, refl)
opens_or _ = inr (record { never = λ c is. cc; none = refl; stock = λ k. refl })

in_none : (c : ℕ) → Contains [] c → ⊥
in_none c (k, low, is) = omega (arith, low)

opened_is : (a : Answer) (c : ℕ) → Contains (opened_of a) c → a ≡ opened c
opened_is a c here = grind arith

opened_there : (a : Answer) (c : ℕ) → a ≡ opened c → Contains (opened_of a) c
opened_there a c is = subst (λ b. Contains (opened_of b) c) (sym is) (Contains-push [] c)

-- ---- an event

-- the next client was opened
record OpensNext (m m' : Machine) (c : ℕ) : Type 0 where
  pub next : c ≡ suc m.world.clients
  pub clients : m'.world.clients ≡ c

opening_next : (m m' : Machine) (n : ℕ) (u : Durability) (c : ℕ) → Opening m n u (opened c) m' → OpensNext m m' c
opening_next m m' n u c s = grind arith

calling_none : (m m' : Machine) (d : ℕ) (op : Op) (c : ℕ) → Calling m d op (opened c) m' → ⊥
calling_none m m' d op c s = grind arith

syncing_none : (m m' : Machine) (d : ℕ) (op : Op) (c : ℕ) → Syncing m d op (opened c) m' → ⊥
syncing_none m m' d op c s = grind arith

noting_none : (m m' : Machine) (d c : ℕ) → Noting m d (opened c) m' → ⊥
noting_none m m' d c s = grind arith

fsyncing_none : (m m' : Machine) (u : Durability) (d c : ℕ) → Fsyncing u m d (opened c) m' → ⊥
fsyncing_none m m' u d c s = grind (arith, syncing_none, noting_none)

coalescing_none : (m m' : Machine) (d c : ℕ) → Coalescing m d (opened c) m' → ⊥
coalescing_none m m' d c s = grind arith

dsyncing_none : (m m' : Machine) (u : Durability) (d c : ℕ) → Dsyncing u m d (opened c) m' → ⊥
dsyncing_none m m' u d c s = grind (arith, syncing_none, coalescing_none)

crashing_none : (m m' : Machine) (d c : ℕ) → Crashing m d (opened c) m' → ⊥
crashing_none m m' d c s = grind arith

trying_none : (m m' : Machine) (d : ℕ) (op : Op) (c : ℕ) → Trying m d op (opened c) m' → ⊥
trying_none m m' d Fsync c s = fsyncing_none m m' (durability_of d m.history) d c s
trying_none m m' d Dsync c s = dsyncing_none m m' (durability_of d m.history) d c s
trying_none m m' d op c s = calling_none m m' d op c s

event_next : (m m' : Machine) (e : ClusterEvent) (c : ℕ) → Happens m e (opened c) m' → OpensNext m m' c
event_next m m' (open_client n u) c s = opening_next m m' n u c s
event_next m m' (try_call d op) c s = absurd (trying_none m m' d op c s)
event_next m m' (try_fsync d) c s = absurd (fsyncing_none m m' (durability_of d m.history) d c s)
event_next m m' (crash d) c s = absurd (crashing_none m m' d c s)
event_next m m' e c s = grind arith

served_next : (k : ℕ) (m m' : Machine) (e : ClusterEvent) (c : ℕ) → IsServed k m e (opened c) m' → OpensNext m m' c
served_next k m m' e c s = grind (arith, event_next)

-- ---- the clients are opened by ascending numbers

clients_grow : (k : ℕ) (m m' : Machine) (e : ClusterEvent) (a : Answer) → MachineInvariant m → IsServed k m e a m' → m.world.clients ≤ m'.world.clients
clients_grow k m m' e a h step =
    let h' = served_keeps k m m' e a h step in
    let old = h.recorded.count in
    let new = h'.recorded.count in
    let told = ap clients_opened (served_told k m m' e a step) ∙ opened_append m.history (entries_of m.history e a) in
    omega (arith, old, new, told)

all_grow : (k : ℕ) (m m' : Machine) (es : List (ClusterEvent × Answer)) → MachineInvariant m → AllServed k m es m' → m.world.clients ≤ m'.world.clients
all_grow k m m' [] h same = (let is = ap (λ x. x.world.clients) same in omega (arith, is))
all_grow k m m' ((e, a) ∷ es) h (v, (step, rest)) = grind
    (arith, all_grow (stock_after k a) v m' es (served_keeps k m v e a h step) rest, clients_grow k m v e a h step)

-- those that were opened so far have no higher numbers than there are clients
opened_low : (k : ℕ) (m m' : Machine) (es : List (ClusterEvent × Answer)) → MachineInvariant m → AllServed k m es m' → (c : ℕ) → Contains (all_opened es) c →
    c ≤ m'.world.clients
opened_low k m m' [] h same c here = absurd (in_none c here)
opened_low k m m' ((e, a) ∷ es) h (v, (step, rest)) c here =
    let still = served_keeps k m v e a h step in
    elim (Contains-append_cases (opened_of a) (all_opened es) c here) [
      | inl now ↦
          grind (arith, all_grow (stock_after k a) v m' es still rest)
      | inr then ↦ opened_low (stock_after k a) v m' es still rest c then
    ]

-- who is opened next is none of them
pub opened_new : (k j : ℕ) (m v m' : Machine) (es : List (ClusterEvent × Answer)) (e : ClusterEvent) (a : Answer) → MachineInvariant m → AllServed k m es v →
    IsServed j v e a m' →
    (c : ℕ) → Contains (all_opened es) c → a ≢ opened c
opened_new k j m v m' es e a h run step c here is = grind (arith, opened_low k m v es h run c here)

-- ---- what they store

pub opened_more : (es : List (ClusterEvent × Answer)) (e : ClusterEvent) (a : Answer) → all_opened (es ++ (e, a) ∷ []) ≡ all_opened es ++ opened_of a
opened_more [] e a = append-nil (opened_of a)
opened_more ((f, b) ∷ es) e a = ap (λ cs. opened_of b ++ cs) (opened_more es e a) ∙ sym (append_assoc (opened_of b) (all_opened es) (opened_of a))

module _ {C : Type 0} where
  last_append : (f : ℕ → Option C) (cs ds : List ℕ) → last_first f (cs ++ ds) ≡ last_first f ds ++ last_first f cs
  last_append f [] ds = sym (append-nil (last_first f ds))
  last_append f (c ∷ cs) ds = grind (arith, last_append f cs ds, append_assoc)

  same_stored : (f g : ℕ → Option C) (cs : List ℕ) → ((c : ℕ) → Contains cs c → g c ≡ f c) → last_first g cs ≡ last_first f cs
  same_stored f g [] same = refl
  same_stored f g (c ∷ cs) same =
      (λ i. same_stored f g cs (λ d here. same d (Contains-append_right (c ∷ []) cs d here)) i ++ option_to_list
      (same c (Contains-append_left (c ∷ []) cs c (Contains-push [] c)) i))

  -- one answer more: what went from the stock is what the clients store that were opened
  pub gets_on : (f g : ℕ → Option C) (xs ys zs : List C) (cs : List ℕ) (a : Answer) → xs ≡ ys ++ last_first f cs →
      ((c : ℕ) → Contains cs c → a ≢ opened c) →
      ((c : ℕ) → a ≡ opened c → ys ≡ zs ++ option_to_list (g c)) →
      ((c : ℕ) → (a ≡ opened c → ⊥) → g c ≡ f c) →
      length zs ≡ stock_after (length ys) a → zs ≡ take (length zs) ys → xs ≡ zs ++ last_first g (cs ++ opened_of a)
  gets_on f g xs ys zs cs a before new gets others stock prefix =
      let stay : last_first f cs ≡ last_first g cs = sym (same_stored f g cs (λ c here. others c (new c here))) in
      elim (opens_or a) [
        | inl (c, is) ↦
            grind (arith, append_assoc, last_append)
        | inr none ↦
            grind (arith, take_all, append-nil)
      ]

  pub others_on : (f g h : ℕ → Option C) (cs : List ℕ) (a : Answer) → ((c : ℕ) → (Contains cs c → ⊥) → g c ≡ f c) → ((c : ℕ) → (a ≡ opened c → ⊥) → h c ≡ g c) →
      (c : ℕ) → (Contains (cs ++ opened_of a) c → ⊥) → h c ≡ f c
  others_on f g h cs a before now c not_there =
      now c (λ is. not_there (Contains-append_right cs (opened_of a) c (opened_there a c is)))
      ∙ before c (λ here. not_there (Contains-append_left cs (opened_of a) c here))

-- ---- a run

-- who was opened, behind those before
pub opened_now : (k j : ℕ) (m v m' : Machine) (es : List Event) (bs cs : List Answered) (i : ℕ) (e : Event) (a : Answered) →
    length bs ≡ i → i < length es → e ≡ get_or es i e → cs ≡ bs ++ a ∷ [] → j ≡ stock_left k (told (take i es) bs) →
    all_opened (told (take (i + 1) es) cs) ≡ all_opened (told (take i es) bs) ++ opened_of (answer_seen a)
opened_now k j m v m' es bs cs i e a count inside is grown stock =
    ap all_opened (told_now k j m v m' es bs cs i e a count inside is grown stock) ∙ opened_more (told (take i es) bs) (event_seen e) (answer_seen a)

-- who is opened next is none of them, whatever proof there is that the first state holds
pub opened_anew : (k j : ℕ) (m v m' : Machine) (es : List (ClusterEvent × Answer)) (e : ClusterEvent) (a : Answer) → ∥ MachineInvariant m ∥₁ →
    AllServed k m es v → IsServed j v e a m' →
    (c : ℕ) → Contains (all_opened es) c → a ≢ opened c
opened_anew k j m v m' es e a holds run step c here is = ∥∥₁_elim holds (λ x y. absurd x) (λ h. opened_new k j m v m' es e a h run step c here is)
