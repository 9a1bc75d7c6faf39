-- The summary of a prefix allows just what may follow it.
use Rattle.assise_history.proofs.Common.{◌≡◌, ◌↔◌, ℕ, ◌+◌, ◌<◌, true, false, not, ◌&&◌, ◌==◌, List, [], ◌∷◌, ◌++◌, Option, Some, None, refl, ap, sym, subst}
use Rattle.assise_history.proofs.Common.{◌∙◌, inl, inr, arith, eqb-true, ltb-true, list_any, list_all, cases_Bool, not-true, Durability, Call, Loss}
use Rattle.assise_history.proofs.Common.{ClientSummary, EntryValue, opens, calls, crashes, fails, returns, IsLegal, Fits, is_sync, syncs, is_crash_of}
use Rattle.assise_history.proofs.Common.{is_failure_of, calls_made, IsAlive, IsPastSyncs, MayLose, ClientsAscend, IsNextCall, MayOpen, IsFair, MayFollow}
use Rattle.assise_history.proofs.Common.{follows, summary, newly_opened, is_past, ascend_from, makes_next_call, may_lose, summary_with_call, with_crash}
use Rattle.assise_history.proofs.Common.{with_failure}
use Rattle.std.proofs.Common.{lt-ltb}
use Rattle.assise_history.proofs.Shared.TestedElements.{two, two_from, four, all_at, all_from, cut_end, not_nil}
use Rattle.assise_history.proofs.Shared.Legality.{along}
use Rattle.assise_history.proofs.Shared.ClientCounts.{early, durability_in, made_append, made_before, number_in}
use Rattle.assise_history.proofs.Shared.LivesOneMore.{past_syncs-prefix, past_syncs-push}
use Rattle.assise_history.proofs.Prefixes.{Found, found, seen, count_clients, through, through-push, with_entry, through_client, through_node}
use Rattle.assise_history.proofs.Prefixes.{through_durability, crashed_since, failed_since, down_found, down_seen, next}

-- what it takes to make a call
pub record Makes (x : Call) (k : ClientSummary) : Type 0 where
  pub client : k.client ≡ x.client
  pub no_crash : k.crashed ≡ false
  pub no_failure : k.failed ≡ false
  pub number : x.number ≡ next k.last

makes_parts : (x : Call) (k : ClientSummary) → makes_next_call x k ≡ true → Makes x k
makes_parts x k h = grind arith

makes_from : (x : Call) (k : ClientSummary) → Makes x k → makes_next_call x k ≡ true
makes_from x k m = grind arith

-- who makes a call
made_by : (h : List EntryValue) (x : Call) (f : Found (makes_next_call x) h) → Makes x (through f.since (newly_opened f.client f.node f.durability))
made_by h x f = makes_parts x (through f.since (newly_opened f.client f.node f.durability)) f.holds

maker : (h : List EntryValue) (x : Call) (f : Found (makes_next_call x) h) → f.client ≡ x.client
maker h x f = sym (through_client f.since (newly_opened f.client f.node f.durability)) ∙ (made_by h x f).client

-- a client's next number is the count of its calls
abbrev Numbered : List EntryValue → Type 0
Numbered h = (c n : ℕ) (u : Durability) (before since : List EntryValue) → h ≡ before ++ opens c n u ∷ since → next (through since (newly_opened c n u)).last
    ≡ calls_made c h

call_number : (h : List EntryValue) (x : Call) → Fits h (calls x) → x.number ≡ calls_made x.client h
call_number h x fits = let is : IsNextCall h x = fits.follows in is.number

number_open : (h : List EntryValue) (c n : ℕ) (u : Durability) → IsLegal h → Fits h (opens c n u) → 0 ≡ calls_made c (h ++ opens c n u ∷ [])
number_open h c n u legal fits = grind (arith, made_append c h (opens c n u ∷ []), early h legal c (omega arith))

last_own : (x : Call) (k : ClientSummary) → (k.client == x.client) ≡ true → (summary_with_call x k).last ≡ Some x.number
last_own x k own = rw own refl

last_other : (x : Call) (k : ClientSummary) → (k.client == x.client) ≡ false → (summary_with_call x k).last ≡ k.last
last_other x k other = rw other refl

number_more : (h : List EntryValue) (e : EntryValue) → IsLegal h → Fits h e → Numbered h → (c n : ℕ) (u : Durability) (before since : List EntryValue) →
    h ≡ before ++ opens c n u ∷ since
    → next (with_entry e (through since (newly_opened c n u))).last ≡ calls_made c (h ++ e ∷ [])
number_more h (crashes d) legal fits numbered c n u before since split = grind (arith, made_append c h (crashes d ∷ []))
number_more h (fails m losses) legal fits numbered c n u before since split = grind (arith, made_append c h (fails m losses ∷ []))
number_more h (calls x) legal fits numbered c n u before since split = grind (arith, made_append c h (calls x ∷ []), through_client since (newly_opened c n u))
number_more h e legal fits numbered c n u before since split = grind (arith, made_append c h (e ∷ []))

numbered_more : (h : List EntryValue) (e : EntryValue) → IsLegal h → Fits h e → Numbered h → Numbered (h ++ e ∷ [])
numbered_more h e legal fits numbered c n u before since split = grind
    (arith, cut_end h e before (opens c n u) since split, number_open, through-push, number_more)

numbered : (h : List EntryValue) → IsLegal h → Numbered h
numbered = along Numbered (λ c n u before since split. absurd (not_nil before since (opens c n u) split)) numbered_more

-- a call
call_allowed : (h : List EntryValue) (x : Call) → IsLegal h → list_any (makes_next_call x) (summary h).clients ≡ true → IsNextCall h x
call_allowed h x legal rule =
    let f = found (makes_next_call x) h rule in
    let who = maker h x f in
    let m = made_by h x f in
    let crash : list_any (is_crash_of f.client) f.since ≡ false = sym (crashed_since f.since f.client f.node f.durability) ∙ m.no_crash in
    record {
      ready = record {
        node = f.node;
        opened = grind arith;
        no_crash = subst (λ c. list_any (is_crash_of c) f.since ≡ false) who crash;
        no_failure = sym (failed_since f.since f.client f.node f.durability) ∙ m.no_failure;
      };
      number = m.number ∙ numbered h legal f.client f.node f.durability f.before f.since f.split ∙ ap (λ c. calls_made c h) who;
    }

call_follows : (h : List EntryValue) (x : Call) → IsLegal h → IsNextCall h x → list_any (makes_next_call x) (summary h).clients ≡ true
call_follows h x legal is = grind (arith, numbered, seen, makes_from, through_client, crashed_since, failed_since)

-- an open
open_allowed : (h : List EntryValue) (c n : ℕ) (u : Durability) → follows (summary h) (opens c n u) ≡ true → MayOpen h c n
open_allowed h c n u rule = grind (arith, count_clients, down_seen)

open_follows : (h : List EntryValue) (c n : ℕ) (u : Durability) → MayOpen h c n → follows (summary h) (opens c n u) ≡ true
open_follows h c n u may = grind (arith, count_clients, down_found)

-- a crash
crash_allowed : (h : List EntryValue) (c : ℕ) → list_any (λ k. (k.client == c) && not k.crashed) (summary h).clients ≡ true → IsAlive h c
crash_allowed h c rule =
    let f = found (λ k. (k.client == c) && not k.crashed) h rule in
    let k = through f.since (newly_opened f.client f.node f.durability) in
    let parts = two (k.client == c) (not k.crashed) f.holds in
    let who : f.client ≡ c = sym (through_client f.since (newly_opened f.client f.node f.durability)) ∙ eqb-true k.client c parts.0 in
    let crash : list_any (is_crash_of f.client) f.since ≡ false = sym (crashed_since f.since f.client f.node f.durability) ∙ not-true k.crashed parts.1 in
    record {
      node = f.node;
      opened = grind arith;
      no_crash = subst (λ d. list_any (is_crash_of d) f.since ≡ false) who crash;
    }

crash_follows : (h : List EntryValue) (c : ℕ) → IsAlive h c → list_any (λ k. (k.client == c) && not k.crashed) (summary h).clients ≡ true
crash_follows h c a = grind (arith, seen, through_client, crashed_since)

-- a failure: its clients ascend
past_more : (o : Option ℕ) (i j : ℕ) → is_past o i ≡ true → i < j → is_past o j ≡ true
past_more None i j h l = refl
past_more (Some k) i j h l = let first = ltb-true k i h in lt-ltb k j (omega arith)

ascend_all : (o : Option ℕ) (ls before behind : List Loss) (l : Loss) → ascend_from o ls ≡ true → ls ≡ before ++ l ∷ behind → is_past o l.client ≡ true
ascend_all o [] before behind l h split = absurd (not_nil before behind l split)
ascend_all o (m ∷ ms) [] behind l h split = grind arith
ascend_all o (m ∷ ms) (y ∷ before) behind l h split =
    let parts = two (is_past o m.client) (ascend_from (Some m.client) ms) h in
    let tails : ms ≡ before ++ l ∷ behind = cc in
    past_more o m.client l.client parts.0 (ltb-true m.client l.client (ascend_all (Some m.client) ms before behind l parts.1 tails))

ascends : (o : Option ℕ) (ls : List Loss) → ascend_from o ls ≡ true → ClientsAscend ls
ascends o [] h before between behind l m split = absurd (not_nil before (between ++ m ∷ behind) l split)
ascends o (x ∷ xs) h [] between behind l m split =
    let same : x ≡ l = cc in
    let tails : xs ≡ between ++ m ∷ behind = cc in
    let parts = two (is_past o x.client) (ascend_from (Some x.client) xs) h in
    subst (λ k. k.client < m.client) same (ltb-true x.client m.client (ascend_all (Some x.client) xs between behind m parts.1 tails))
ascends o (x ∷ xs) h (y ∷ before) between behind l m split =
    let tails : xs ≡ before ++ l ∷ (between ++ m ∷ behind) = cc in
    let parts = two (is_past o x.client) (ascend_from (Some x.client) xs) h in
    ascends (Some x.client) xs parts.1 before between behind l m tails

ascend_back : (o : Option ℕ) (ls : List Loss) → ClientsAscend ls →
    ((before behind : List Loss) (l : Loss) → ls ≡ before ++ l ∷ behind → is_past o l.client ≡ true) → ascend_from o ls ≡ true
ascend_back o [] ascending past = refl
ascend_back o (x ∷ xs) ascending past =
    two_from (is_past o x.client) (ascend_from (Some x.client) xs) (past [] xs x refl)
    (ascend_back (Some x.client) xs
    (λ before between behind l m split. ascending (x ∷ before) between behind l m (ap (λ ys. x ∷ ys) split))
    (λ before behind l split. lt-ltb x.client l.client (ascending [] before behind x l (ap (λ ys. x ∷ ys) split))))

-- what was synced of a client's calls
abbrev UpTo : List EntryValue → ℕ → ℕ → Type 0
UpTo h c j = IsPastSyncs h record { client = c; first = j }

abbrev Synced : List EntryValue → Type 0
Synced h = (c n : ℕ) (u : Durability) (before since : List EntryValue) → h ≡ before ++ opens c n u ∷ since → (j : ℕ) →
    (is_past (through since (newly_opened c n u)).synced j ≡ true) ↔ UpTo h c j

up_to-prefix : (h : List EntryValue) (e : EntryValue) (c j : ℕ) → UpTo (h ++ e ∷ []) c j → UpTo h c j
up_to-prefix h e c j all = past_syncs-prefix h e record { client = c; first = j } all

up_to-quiet : (h : List EntryValue) (e : EntryValue) (c j : ℕ) → ((x : Call) → e ≡ calls x → x.client ≡ c → syncs h x ≡ true → ⊥) → UpTo h c j →
    UpTo (h ++ e ∷ []) c j
up_to-quiet h e c j quiet all = past_syncs-push h e record { client = c; first = j } (λ x is client sync. absurd (quiet x is client sync)) all

-- the same is known of the client, and no sync of it more
synced_quiet : (h : List EntryValue) (e : EntryValue) (c j : ℕ) (k l : ClientSummary) → l.synced ≡ k.synced →
    ((x : Call) → e ≡ calls x → x.client ≡ c → syncs h x ≡ true → ⊥)
    → ((is_past k.synced j ≡ true) ↔ UpTo h c j) → (is_past l.synced j ≡ true) ↔ UpTo (h ++ e ∷ []) c j
synced_quiet h e c j k l same quiet before = (
  λ past. up_to-quiet h e c j quiet (before.0 (ap (λ s. is_past s j) (sym same) ∙ past)),
  λ all. ap (λ s. is_past s j) same ∙ before.1 (up_to-prefix h e c j all),
)

synced_other : (x : Call) (k : ClientSummary) → (k.client == x.client) ≡ false → (summary_with_call x k).synced ≡ k.synced
synced_other x k other = rw other refl

synced_plain : (x : Call) (k : ClientSummary) → is_sync x.op k.durability ≡ false → (summary_with_call x k).synced ≡ k.synced
synced_plain x k plain = elim (cases_Bool (k.client == x.client)) [ inl t ↦ rw (t, plain) refl | inr f ↦ rw f refl ]

synced_own : (x : Call) (k : ClientSummary) → (k.client == x.client) ≡ true → is_sync x.op k.durability ≡ true → (summary_with_call x k).synced ≡ Some x.number
synced_own x k own sync = rw (own, sync) refl

-- a sync more of the client
synced_sync : (h : List EntryValue) (x : Call) (j : ℕ) → IsLegal h → Fits h (calls x) → syncs h x ≡ true →
    (is_past (Some x.number) j ≡ true) ↔ UpTo (h ++ calls x ∷ []) x.client j
synced_sync h x j legal fits sync = (
  λ past before since y split client again.
      let below = ltb-true x.number j past in
      elim (cut_end h (calls x) before (calls y) since split) [
        | inl end ↦ let is = end.last_is in let same : x ≡ y = cc in subst (λ z. z.number < j) same below
        | inr early ↦
            grind (arith, number_in h before early.rest y legal early.split, made_before h before early.rest y x.client early.split client)
      ],
  λ all. lt-ltb x.number j (all h [] x refl refl sync),
)

synced_more : (h : List EntryValue) (e : EntryValue) → IsLegal h → Fits h e → Synced h → (c n : ℕ) (u : Durability) (before since : List EntryValue) →
    h ≡ before ++ opens c n u ∷ since
    → (j : ℕ) → (is_past (with_entry e (through since (newly_opened c n u))).synced j ≡ true) ↔ UpTo (h ++ e ∷ []) c j
synced_more h (crashes d) legal fits synced c n u before since split j =
    let k = through since (newly_opened c n u) in
    let same : (with_crash d k).synced ≡ k.synced = elim (cases_Bool (k.client == d)) [ inl t ↦ rw t refl | inr f ↦ rw f refl ] in
    synced_quiet h (crashes d) c j k (with_crash d k) same (λ x is. cc) (synced c n u before since split j)
synced_more h (fails m losses) legal fits synced c n u before since split j =
    let k = through since (newly_opened c n u) in
    let same : (with_failure m k).synced ≡ k.synced = elim (cases_Bool (k.node == m)) [ inl t ↦ rw t refl | inr f ↦ rw f refl ] in
    synced_quiet h (fails m losses) c j k (with_failure m k) same (λ x is. cc) (synced c n u before since split j)
synced_more h (calls y) legal fits synced c n u before since split j =
    let k = through since (newly_opened c n u) in
    let who : k.client ≡ c = through_client since (newly_opened c n u) in
    elim (cases_Bool (k.client == y.client)) [
      | inr other ↦
          let disjoint : (x : Call) → calls y ≡ calls x → x.client ≡ c → syncs h x ≡ true → ⊥ = grind arith in
          synced_quiet h (calls y) c j k (summary_with_call y k) (synced_other y k other) disjoint (synced c n u before since split j)
      | inl own ↦ elim (cases_Bool (is_sync y.op k.durability)) [
        | inr plain ↦
            let disjoint : (x : Call) → calls y ≡ calls x → x.client ≡ c → syncs h x ≡ true → ⊥ = grind (arith, durability_in, through_durability) in
            synced_quiet h (calls y) c j k (summary_with_call y k) (synced_plain y k plain) disjoint (synced c n u before since split j)
        | inl sync ↦
            grind (arith, through_durability, durability_in, synced_sync)
      ]
    ]
synced_more h e legal fits synced c n u before since split j =
    let k = through since (newly_opened c n u) in
    synced_quiet h e c j k k refl (λ x is. cc) (synced c n u before since split j)

-- a client that was just opened has no sync
synced_open : (h : List EntryValue) (c n : ℕ) (u : Durability) (j : ℕ) → IsLegal h → Fits h (opens c n u) → UpTo (h ++ opens c n u ∷ []) c j
synced_open h c n u j legal fits before since x split client sync =
    elim (cut_end h (opens c n u) before (calls x) since split) [
      | inl end ↦ let is = end.last_is in cc
      | inr early_on ↦
          grind (arith, early h legal c (omega arith), made_before h before early_on.rest x c early_on.split client)
    ]

synced_push : (h : List EntryValue) (e : EntryValue) → IsLegal h → Fits h e → Synced h → Synced (h ++ e ∷ [])
synced_push h e legal fits synced c n u before since split j =
    elim (cut_end h e before (opens c n u) since split) [
      | inl end ↦
          grind (arith, synced_open h c n u j legal (subst (Fits h) end.last_is fits))
      | inr early ↦
          grind (arith, through-push, synced_more)
    ]

synced : (h : List EntryValue) → IsLegal h → Synced h
synced = along Synced (λ c n u before since split. absurd (not_nil before since (opens c n u) split)) synced_push

fair_pair : (h : List EntryValue) (n : ℕ) (l : Loss) → IsLegal h → list_any (may_lose n l) (summary h).clients ≡ true → MayLose h n l
fair_pair h n l legal is =
    let f = found (may_lose n l) h is in
    let k = through f.since (newly_opened f.client f.node f.durability) in
    let parts = four (k.client == l.client) (k.node == n) (not k.failed) (is_past k.synced l.first) f.holds in
    let who : f.client ≡ l.client = sym (through_client f.since (newly_opened f.client f.node f.durability)) ∙ eqb-true k.client l.client parts.0 in
    let there : f.node ≡ n = sym (through_node f.since (newly_opened f.client f.node f.durability)) ∙ eqb-true k.node n parts.1 in
    let failed : list_any (is_failure_of f.node) f.since ≡ false = sym (failed_since f.since f.client f.node f.durability) ∙ not-true k.failed parts.2 in
    let placed : h ≡ f.before ++ opens l.client f.node f.durability ∷ f.since = subst (λ c. h ≡ f.before ++ opens c f.node f.durability ∷ f.since) who f.split
    in
    record {
      on = record {
        opened = grind arith;
        no_failure = subst (λ m. list_any (is_failure_of m) f.since ≡ false) there failed;
      };
      past = subst (λ c. UpTo h c l.first) who ((synced h legal f.client f.node f.durability f.before f.since f.split l.first).0 parts.3);
    }

pair_from : (h : List EntryValue) (n : ℕ) (l : Loss) → IsLegal h → MayLose h n l → list_any (may_lose n l) (summary h).clients ≡ true
pair_from h n l legal m = grind (arith, synced, seen, through_client, through_node, failed_since)

failure_allowed : (h : List EntryValue) (n : ℕ) (losses : List Loss) → IsLegal h → follows (summary h) (fails n losses) ≡ true → IsFair h n losses
failure_allowed h n losses legal rule =
    let parts = two (ascend_from None losses) (list_all (λ l. list_any (may_lose n l) (summary h).clients) losses) rule in
    record {
      ascending = ascends None losses parts.0;
      each = λ lower higher l split. fair_pair h n l legal
          (grind (arith, all_at));
    }

failure_follows : (h : List EntryValue) (n : ℕ) (losses : List Loss) → IsLegal h → IsFair h n losses → follows (summary h) (fails n losses) ≡ true
failure_follows h n losses legal fair = grind (arith, ascend_back, all_from, pair_from)

-- what the summary of a legal history allows may follow it, and what may follow is allowed
pub may_follow : (h : List EntryValue) (e : EntryValue) → IsLegal h → follows (summary h) e ≡ true → MayFollow h e
may_follow h (opens c n u) legal rule = open_allowed h c n u rule
may_follow h (calls x) legal rule = call_allowed h x legal rule
may_follow h (crashes c) legal rule = crash_allowed h c rule
may_follow h (fails n losses) legal rule = failure_allowed h n losses legal rule
may_follow h (returns n) legal rule = down_found h n rule

pub is_allowed : (h : List EntryValue) (e : EntryValue) → IsLegal h → MayFollow h e → follows (summary h) e ≡ true
is_allowed h (opens c n u) legal may = open_follows h c n u may
is_allowed h (calls x) legal may = call_follows h x legal may
is_allowed h (crashes c) legal may = crash_follows h c may
is_allowed h (fails n losses) legal may = failure_follows h n losses legal may
is_allowed h (returns n) legal may = down_seen h n may
