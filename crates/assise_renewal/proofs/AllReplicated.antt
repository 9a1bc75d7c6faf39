-- Where each client's calls are replicated, all kept calls are.
use Rattle.assise_renewal.proofs.Common.{◌≡◌, ◌≤◌, ◌+◌, ℕ, Bool, true, false, nat_lt, if◌then◌else◌, List, [], ◌∷◌, ◌++◌, filter, refl, ap, sym, subst, ◌∙◌}
use Rattle.assise_renewal.proofs.Common.{inl, inr, arith, append_assoc, cases_lt, lt-ltb, MOST_CLIENTS, Call, EntryValue, opens, calls, crashes, fails, returns}
use Rattle.assise_renewal.proofs.Common.{is_lost, kept, IsLegal, IsNextCall, clients_opened, observed, world_of, ClusterOf, machine, history_of}
use Rattle.assise_renewal.proofs.Common.{replicated_calls, replicated_to, HasReplicatedAll}
use Rattle.std.proofs.Math.Bridge.{le_prop}
use Rattle.std.proofs.Math.Logic.{∥∥₁_elim}
use Rattle.assise_history.proofs.Shared.ClientCounts.{next_opened, number_below, opened_append, opened_within}
use Rattle.assise_history.proofs.Shared.Legality.{fits_in, prefix_in}
use Rattle.assise_model_world.specs.World.{IsClient}
use Rattle.assise_machine_state.specs.ClientValues.{ClientValue}
use Rattle.assise_machine_state.specs.Whole.{value_of}
use Rattle.assise_machine.specs.KnownClients.{IsKnownClient}
use Rattle.assise_machine.proofs.Shared.Few.{few_clients}
use Rattle.assise_machine.proofs.Shared.Replicated.{count_known}

-- ---- calls that all pass

keeps_all : (p : Call → Bool) (before es : List EntryValue) → ((b later : List EntryValue) (x : Call) → before ++ es ≡ b ++ calls x ∷ later → p x ≡ true) →
    filter p (kept es) ≡ kept es
keeps_all p before [] each = refl
keeps_all p before (calls x ∷ es) each =
    let rest : filter p (kept es) ≡ kept es = keeps_all p (before ++ calls x ∷ []) es
    (λ b later y split. each b later y (sym (append_assoc before (calls x ∷ []) es) ∙ split)) in
    let passes : p x ≡ true = each before es x refl in
    elim (is_lost es x) as (λ b. filter p (if b then kept es else x ∷ kept es) ≡ (if b then kept es else x ∷ kept es)) [
      | true ↦ rest
      | false ↦ rw passes (ap (λ xs. x ∷ xs) rest)
    ]
keeps_all p before (opens c n u ∷ es) each =
    keeps_all p (before ++ opens c n u ∷ []) es (λ b later y split. each b later y (sym (append_assoc before (opens c n u ∷ []) es) ∙ split))
keeps_all p before (crashes c ∷ es) each =
    keeps_all p (before ++ crashes c ∷ []) es (λ b later y split. each b later y (sym (append_assoc before (crashes c ∷ []) es) ∙ split))
keeps_all p before (fails n losses ∷ es) each =
    keeps_all p (before ++ fails n losses ∷ []) es (λ b later y split. each b later y (sym (append_assoc before (fails n losses ∷ []) es) ∙ split))
keeps_all p before (returns n ∷ es) each =
    keeps_all p (before ++ returns n ∷ []) es (λ b later y split. each b later y (sym (append_assoc before (returns n ∷ []) es) ∙ split))

-- ---- one client after another

pub one_further : (P : ℕ → Type 0) (k : ℕ) → ((c : ℕ) → 1 ≤ c → c ≤ k → P c) → P (k + 1) → (c : ℕ) → 1 ≤ c → c ≤ k + 1 → P c
one_further P k before here c some few =
    elim (cases_lt c (k + 1)) [
      | inl below ↦ before c some (omega (arith, below))
      | inr past ↦ (let same : k + 1 ≡ c = omega (arith, few, past) in subst P same here)
    ]

-- ---- who makes a call was opened

caller : (h before later : List EntryValue) (x : Call) → IsLegal h → h ≡ before ++ calls x ∷ later → (1 ≤ x.client) × (x.client ≤ clients_opened h)
caller h before later x legal split =
    let next : IsNextCall before x = (fits_in h before later (calls x) legal split).follows in
    let ready = next.ready in
    let o = ready.opened in
    let legal_before : IsLegal before = prefix_in h before (calls x ∷ later) legal split in
    let within = opened_within before o.before o.since x.client ready.node o.durability legal_before o.split in
    let number = next_opened o.before x.client ready.node o.durability
    (fits_in before o.before o.since (opens x.client ready.node o.durability) legal_before o.split) in
    let all = ap clients_opened split ∙ opened_append before (calls x ∷ later) in
    (omega (arith, number), omega (arith, within, all))

module _ {C : Type 0} (cluster : ClusterOf C) where
  opened_count : clients_opened (history_of cluster) ≡ (machine cluster).world.clients
  unfolding observed world_of
  opened_count =
      let sound = cluster.sound in
      count_known (value_of sound.state) sound.invariant.shape sound.state.members.lawful.some_full sound.invariant.holds

  -- ---- what is known of a client

  pub known_replicated : (c count : ℕ) (known : ClientValue) → ∥ IsKnownClient (machine cluster).history c known ∥₁ → count ≡ replicated_to cluster c →
      known.next ≤ count → HasReplicatedAll cluster c
  known_replicated c count known is all few = λ client. ∥∥₁_elim is le_prop (λ k. (let made = k.calls in omega (arith, made, all, few)))

  -- ---- of all clients

  pub all_replicated : IsLegal (history_of cluster) → ((c : ℕ) → 1 ≤ c → c ≤ MOST_CLIENTS → HasReplicatedAll cluster c) → replicated_calls cluster
      ≡ kept (history_of cluster)
  unfolding observed
  all_replicated legal each =
      let h = history_of cluster in
      keeps_all (λ x. nat_lt x.number (replicated_to cluster x.client)) [] h
      (λ before later x split.
      (let opened = caller h before later x legal split in
      let client : IsClient (machine cluster).world x.client = (opened.0, omega (arith, opened.1, opened_count)) in
      let few = few_clients cluster in
      let safe = each x.client opened.0 (omega (arith, client.1, few)) client in
      let made = number_below h before later x legal split in
      lt-ltb x.number (replicated_to cluster x.client) (omega (arith, made, safe))))
