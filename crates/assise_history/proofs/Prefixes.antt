-- What the summary of a prefix says, in the words of its entries.
use Rattle.assise_history.proofs.Common.{◌≡◌, ℕ, ◌+◌, Bool, true, false, not, ◌||◌, ◌==◌, List, [], ◌∷◌, ◌++◌, filter, length, Option, Some, None, refl, ap}
use Rattle.assise_history.proofs.Common.{sym, subst, ◌∙◌, ◌⊎◌, inl, inr, arith, eqb-true, list_any, cases_Bool, or_cases, or_left, or_right, or_parts, or_from}
use Rattle.assise_history.proofs.Common.{length-map, length-append, list_any-append, Durability, Loss, ClientSummary, EntryValue, opens, calls, crashes, fails}
use Rattle.assise_history.proofs.Common.{returns, Summary, nothing_yet, newly_opened, summary_with_call, with_crash, with_failure, summary_after, summed_from}
use Rattle.assise_history.proofs.Common.{summary, is_down, comes_next, is_crash_of, is_failure_of, is_return_of, clients_opened, IsDown}
use Rattle.assise_history.proofs.Shared.TestedElements.{list_any-map}

-- what an entry changes of what is known of a client
abbrev pub with_entry : EntryValue → ClientSummary → ClientSummary
with_entry (calls x) k = summary_with_call x k
with_entry (crashes c) k = with_crash c k
with_entry (fails n losses) k = with_failure n k
with_entry _ k = k

abbrev pub through : List EntryValue → ClientSummary → ClientSummary
through [] k = k
through (e ∷ es) k = through es (with_entry e k)

pub through-push : (es : List EntryValue) (e : EntryValue) (k : ClientSummary) → through (es ++ e ∷ []) k ≡ with_entry e (through es k)
through-push [] e k = refl
through-push (x ∷ es) e k = through-push es e (with_entry x k)

-- a client that was opened, of which something is known
pub record Found (p : ClientSummary → Bool) (es : List EntryValue) : Type 0 where
  pub client : ℕ
  pub node : ℕ
  pub durability : Durability
  pub before : List EntryValue
  pub since : List EntryValue
  pub split : es ≡ before ++ opens client node durability ∷ since
  pub holds : p (through since (newly_opened client node durability)) ≡ true

last_any : (p : ClientSummary → Bool) (ks : List ClientSummary) (k : ClientSummary) → list_any p (ks ++ k ∷ []) ≡ true → (list_any p ks ≡ true) ⊎ (p k ≡ true)
last_any p ks k h = grind (arith, list_any-append)

pub record Newly (p : ClientSummary → Bool) (e : EntryValue) : Type 0 where
  pub client : ℕ
  pub node : ℕ
  pub durability : Durability
  pub is : e ≡ opens client node durability
  pub holds : p (newly_opened client node durability) ≡ true

any_after : (p : ClientSummary → Bool) (s : Summary) (e : EntryValue) → list_any p (summary_after s e).clients ≡ true →
    (list_any (λ k. p (with_entry e k)) s.clients ≡ true) ⊎ Newly p e
any_after p s (opens c n u) h = grind (arith, last_any)
any_after p s (calls x) h = inl (sym (list_any-map p (summary_with_call x) s.clients) ∙ h)
any_after p s (crashes c) h = inl (sym (list_any-map p (with_crash c) s.clients) ∙ h)
any_after p s (fails n losses) h = inl (sym (list_any-map p (with_failure n) s.clients) ∙ h)
any_after p s (returns n) h = inl h

any_before : (p : ClientSummary → Bool) (s : Summary) (e : EntryValue) → list_any (λ k. p (with_entry e k)) s.clients ≡ true →
    list_any p (summary_after s e).clients ≡ true
any_before p s (opens c n u) h = list_any-append p s.clients (newly_opened c n u ∷ []) ∙ or_left (list_any p s.clients) _ h
any_before p s (calls x) h = list_any-map p (summary_with_call x) s.clients ∙ h
any_before p s (crashes c) h = list_any-map p (with_crash c) s.clients ∙ h
any_before p s (fails n losses) h = list_any-map p (with_failure n) s.clients ∙ h
any_before p s (returns n) h = h

found_from : (p : ClientSummary → Bool) (s : Summary) (es : List EntryValue) → list_any p (summed_from s es).clients ≡ true →
    (list_any (λ k. p (through es k)) s.clients ≡ true) ⊎ Found p es
found_from p s [] h = inl h
found_from p s (e ∷ es) h =
    elim (found_from p (summary_after s e) es h) [
      | inl a ↦ elim (any_after (λ k. p (through es k)) s e a) [
        | inl b ↦ inl b
        | inr o ↦ inr record {
          client = o.client;
          node = o.node;
          durability = o.durability;
          before = [];
          since = es;
          split = ap (λ x. x ∷ es) o.is;
          holds =
              grind arith;
        }
      ]
      | inr f ↦ inr record {
        client = f.client;
        node = f.node;
        durability = f.durability;
        before = e ∷ f.before;
        since = f.since;
        split =
            grind arith;
        holds = f.holds;
      }
    ]

-- a client of the summary was opened
pub found : (p : ClientSummary → Bool) (h : List EntryValue) → list_any p (summary h).clients ≡ true → Found p h
found p h is = grind (arith, found_from p nothing_yet h is)

any_stays : (p : ClientSummary → Bool) (s : Summary) (es : List EntryValue) → list_any (λ k. p (through es k)) s.clients ≡ true →
    list_any p (summed_from s es).clients ≡ true
any_stays p s [] h = h
any_stays p s (e ∷ es) h = any_stays p (summary_after s e) es (any_before (λ k. p (through es k)) s e h)

any_opened : (p : ClientSummary → Bool) (s : Summary) (before since : List EntryValue) (c n : ℕ) (u : Durability) → p (through since (newly_opened c n u))
    ≡ true → list_any p (summed_from s (before ++ opens c n u ∷ since)).clients ≡ true
any_opened p s [] since c n u h = grind (arith, any_stays, list_any-append)
any_opened p s (e ∷ before) since c n u h = any_opened p (summary_after s e) before since c n u h

-- a client that was opened is in the summary
pub seen : (p : ClientSummary → Bool) (h before since : List EntryValue) (c n : ℕ) (u : Durability) → h ≡ before ++ opens c n u ∷ since →
    p (through since (newly_opened c n u)) ≡ true → list_any p (summary h).clients ≡ true
seen p h before since c n u split is = subst (λ es. list_any p (summary es).clients ≡ true) (sym split) (any_opened p nothing_yet before since c n u is)

count_from : (s : Summary) (es : List EntryValue) → length (summed_from s es).clients ≡ length s.clients + clients_opened es
count_from s [] = omega arith
count_from s (opens c n u ∷ es) = grind (arith, count_from (summary_after s (opens c n u)) es, length-append)
count_from s (calls x ∷ es) = count_from (summary_after s (calls x)) es ∙ ap (λ k. k + clients_opened es) (length-map s.clients (summary_with_call x))
count_from s (crashes c ∷ es) = count_from (summary_after s (crashes c)) es ∙ ap (λ k. k + clients_opened es) (length-map s.clients (with_crash c))
count_from s (fails n losses ∷ es) = count_from (summary_after s (fails n losses)) es ∙ ap (λ k. k + clients_opened es) (length-map s.clients (with_failure n))
count_from s (returns n ∷ es) = count_from (summary_after s (returns n)) es

pub count_clients : (h : List EntryValue) → length (summary h).clients ≡ clients_opened h
count_clients h = let e = count_from nothing_yet h in omega arith

-- what stays of a client, and what changes
entry_client : (e : EntryValue) (k : ClientSummary) → (with_entry e k).client ≡ k.client
entry_client (calls x) k = elim (cases_Bool (k.client == x.client)) [ inl t ↦ rw t refl | inr f ↦ rw f refl ]
entry_client (crashes c) k = elim (cases_Bool (k.client == c)) [ inl t ↦ rw t refl | inr f ↦ rw f refl ]
entry_client (fails n losses) k = elim (cases_Bool (k.node == n)) [ inl t ↦ rw t refl | inr f ↦ rw f refl ]
entry_client _ k = refl

entry_node : (e : EntryValue) (k : ClientSummary) → (with_entry e k).node ≡ k.node
entry_node (calls x) k = elim (cases_Bool (k.client == x.client)) [ inl t ↦ rw t refl | inr f ↦ rw f refl ]
entry_node (crashes c) k = elim (cases_Bool (k.client == c)) [ inl t ↦ rw t refl | inr f ↦ rw f refl ]
entry_node (fails n losses) k = elim (cases_Bool (k.node == n)) [ inl t ↦ rw t refl | inr f ↦ rw f refl ]
entry_node _ k = refl

entry_durability : (e : EntryValue) (k : ClientSummary) → (with_entry e k).durability ≡ k.durability
entry_durability (calls x) k = elim (cases_Bool (k.client == x.client)) [ inl t ↦ rw t refl | inr f ↦ rw f refl ]
entry_durability (crashes c) k = elim (cases_Bool (k.client == c)) [ inl t ↦ rw t refl | inr f ↦ rw f refl ]
entry_durability (fails n losses) k = elim (cases_Bool (k.node == n)) [ inl t ↦ rw t refl | inr f ↦ rw f refl ]
entry_durability _ k = refl

or_none : (b : Bool) → b ≡ (b || false)
or_none true = refl
or_none false = refl

or_true : (b : Bool) → true ≡ (b || true)
or_true true = refl
or_true false = refl

entry_crashed : (e : EntryValue) (k : ClientSummary) → (with_entry e k).crashed ≡ (k.crashed || is_crash_of k.client e)
entry_crashed (calls x) k = elim (cases_Bool (k.client == x.client)) [ inl t ↦ rw t (or_none k.crashed) | inr f ↦ rw f (or_none k.crashed) ]
entry_crashed (crashes c) k = elim (cases_Bool (k.client == c)) [ inl t ↦ rw t (or_true k.crashed) | inr f ↦ rw f (or_none k.crashed) ]
entry_crashed (fails n losses) k = elim (cases_Bool (k.node == n)) [ inl t ↦ rw t (or_none k.crashed) | inr f ↦ rw f (or_none k.crashed) ]
entry_crashed _ k = or_none k.crashed

entry_failed : (e : EntryValue) (k : ClientSummary) → (with_entry e k).failed ≡ (k.failed || is_failure_of k.node e)
entry_failed (calls x) k = elim (cases_Bool (k.client == x.client)) [ inl t ↦ rw t (or_none k.failed) | inr f ↦ rw f (or_none k.failed) ]
entry_failed (crashes c) k = elim (cases_Bool (k.client == c)) [ inl t ↦ rw t (or_none k.failed) | inr f ↦ rw f (or_none k.failed) ]
entry_failed (fails n losses) k = elim (cases_Bool (k.node == n)) [ inl t ↦ rw t (or_true k.failed) | inr f ↦ rw f (or_none k.failed) ]
entry_failed _ k = or_none k.failed

pub through_client : (es : List EntryValue) (k : ClientSummary) → (through es k).client ≡ k.client
through_client [] k = refl
through_client (e ∷ es) k = through_client es (with_entry e k) ∙ entry_client e k

pub through_node : (es : List EntryValue) (k : ClientSummary) → (through es k).node ≡ k.node
through_node [] k = refl
through_node (e ∷ es) k = through_node es (with_entry e k) ∙ entry_node e k

pub through_durability : (es : List EntryValue) (k : ClientSummary) → (through es k).durability ≡ k.durability
through_durability [] k = refl
through_durability (e ∷ es) k = through_durability es (with_entry e k) ∙ entry_durability e k

through_crashed : (es : List EntryValue) (k : ClientSummary) → (through es k).crashed ≡ (k.crashed || list_any (is_crash_of k.client) es)
through_crashed [] k = or_none k.crashed
through_crashed (e ∷ es) k = grind (arith, through_crashed es (with_entry e k))

through_failed : (es : List EntryValue) (k : ClientSummary) → (through es k).failed ≡ (k.failed || list_any (is_failure_of k.node) es)
through_failed [] k = or_none k.failed
through_failed (e ∷ es) k = grind (arith, through_failed es (with_entry e k))

-- a client has crashed exactly if a crash of it stands behind its open, and likewise its node
pub crashed_since : (es : List EntryValue) (c n : ℕ) (u : Durability) → (through es (newly_opened c n u)).crashed ≡ list_any (is_crash_of c) es
crashed_since es c n u = through_crashed es (newly_opened c n u)

pub failed_since : (es : List EntryValue) (c n : ℕ) (u : Durability) → (through es (newly_opened c n u)).failed ≡ list_any (is_failure_of n) es
failed_since es c n u = through_failed es (newly_opened c n u)

-- the nodes that are down
back_left : (down : List ℕ) (m n : ℕ) → list_any (λ k. k == n) (filter (λ k. not (k == m)) down) ≡ true → (list_any (λ k. k == n) down ≡ true)
    × ((n == m) ≡ false)
back_left [] m n h = cc
back_left (k ∷ ks) m n h =
    elim (cases_Bool (k == m)) [
      | inl gone ↦
          let rest : list_any (λ j. j == n) (filter (λ j. not (j == m)) ks) ≡ true = rw gone at h in
          let q = back_left ks m n rest in
          (or_right (k == n) _ q.0, q.1)
      | inr left ↦
          let all : ((k == n) || list_any (λ j. j == n) (filter (λ j. not (j == m)) ks)) ≡ true = rw left at h in
          elim (or_cases (k == n) _ all) [
            | inl here ↦ (or_left (k == n) _ here, subst (λ j. (j == m) ≡ false) (eqb-true k n here) left)
            | inr there ↦ let q = back_left ks m n there in (or_right (k == n) _ q.0, q.1)
          ]
    ]

down_after : (s : Summary) (e : EntryValue) (n : ℕ) → is_down (summary_after s e) n ≡ true → ((is_down s n ≡ true) × (is_return_of n e ≡ false))
    ⊎ ((losses : List Loss) × (e ≡ fails n losses))
down_after s (fails m losses) n h = grind (arith, list_any-append)
down_after s (returns m) n h = inl (back_left s.down m n h)
down_after s _ n h = inl (h, refl)

back_stays : (down : List ℕ) (m n : ℕ) → list_any (λ k. k == n) down ≡ true → (n == m) ≡ false → list_any (λ k. k == n) (filter (λ k. not (k == m)) down) ≡ true
back_stays [] m n h other = h
back_stays (k ∷ ks) m n h other =
    elim (or_cases (k == n) (list_any (λ j. j == n) ks) h) [
      | inl here ↦
          grind arith
      | inr there ↦ grind (arith, back_stays ks m n there other)
    ]

down_from : (s : Summary) (es : List EntryValue) (n : ℕ) → is_down (summed_from s es) n ≡ true → ((is_down s n ≡ true) × (list_any (is_return_of n) es ≡ false))
    ⊎ IsDown es n
down_from s [] n h = inl (h, refl)
down_from s (e ∷ es) n h =
    elim (down_from (summary_after s e) es n h) [
      | inl a ↦ elim (down_after s e n a.0) [
        | inl b ↦ inl (b.0, or_from (is_return_of n e) (list_any (is_return_of n) es) b.1 a.1)
        | inr f ↦ inr record { losses = f.0; before = []; since = es; split = ap (λ x. x ∷ es) f.1; no_return = a.1 }
      ]
      | inr d ↦ inr record { losses = d.losses; before = e ∷ d.before; since = d.since; split = ap (λ xs. e ∷ xs) d.split; no_return = d.no_return }
    ]

pub down_found : (h : List EntryValue) (n : ℕ) → is_down (summary h) n ≡ true → IsDown h n
down_found h n is = grind (arith, down_from)

stays_after : (s : Summary) (e : EntryValue) (n : ℕ) → is_down s n ≡ true → is_return_of n e ≡ false → is_down (summary_after s e) n ≡ true
stays_after s (fails m losses) n h other = list_any-append (λ k. k == n) s.down (m ∷ []) ∙ or_left (is_down s n) _ h
stays_after s (returns m) n h other = back_stays s.down m n h other
stays_after s _ n h other = h

stays_down : (s : Summary) (es : List EntryValue) (n : ℕ) → is_down s n ≡ true → list_any (is_return_of n) es ≡ false → is_down (summed_from s es) n ≡ true
stays_down s [] n h none = h
stays_down s (e ∷ es) n h none =
    let q = or_parts (is_return_of n e) (list_any (is_return_of n) es) none in
    stays_down (summary_after s e) es n (stays_after s e n h q.0) q.1

down_since : (s : Summary) (before since : List EntryValue) (n : ℕ) (losses : List Loss) → list_any (is_return_of n) since ≡ false →
    is_down (summed_from s (before ++ fails n losses ∷ since)) n ≡ true
down_since s [] since n losses none = grind (arith, stays_down, list_any-append)
down_since s (e ∷ before) since n losses none = down_since (summary_after s e) before since n losses none

pub down_seen : (h : List EntryValue) (n : ℕ) → IsDown h n → is_down (summary h) n ≡ true
down_seen h n d = subst (λ es. is_down (summary es) n ≡ true) (sym d.split) (down_since nothing_yet d.before d.since n d.losses d.no_return)

-- the number of the client's next call
abbrev pub next : Option ℕ → ℕ
next None = 0
next (Some l) = l + 1

pub comes_next_is : (o : Option ℕ) (j : ℕ) → comes_next o j ≡ (j == next o)
comes_next_is None j = refl
comes_next_is (Some l) j = refl
