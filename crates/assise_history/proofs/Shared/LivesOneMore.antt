-- What stands in a history with an entry more: which entries keep that a client is alive or may call, and that a node is
-- down, and what they add to the counts. For whoever makes a history one entry at a time.
use Rattle.assise_history.proofs.Common.{◌≡◌, ℕ, ◌+◌, ◌<◌, Bool, true, false, ◌||◌, List, [], ◌∷◌, ◌++◌, refl, ap, subst, ◌∙◌, ◌⊎◌, inl, inr, arith}
use Rattle.assise_history.proofs.Common.{append_assoc, list_any, or_from, list_any-append, Durability, Call, Loss, EntryValue, opens, calls, fails, IsLegal}
use Rattle.assise_history.proofs.Common.{Fits, IsDown, IsOpenedOn, IsPastSyncs, MayCall, calls_made, clients_opened, is_call_of, is_crash_of, is_failure_of}
use Rattle.assise_history.proofs.Common.{is_opening, is_return_of, syncs}
use Rattle.assise_history.proofs.Shared.TestedElements.{cut_end, not_nil}
use Rattle.assise_history.proofs.Shared.Legality.{along}
use Rattle.assise_history.proofs.Shared.ClientCounts.{made_append, opened_append, opened_within}

-- none passes of a list and one more
none_more : {X : Type 0} (p : X → Bool) (xs : List X) (x : X) → list_any p xs ≡ false → p x ≡ false → list_any p (xs ++ x ∷ []) ≡ false
none_more p xs x none not_it = list_any-append p xs (x ∷ []) ∙ or_from (list_any p xs) (p x || false) none (or_from (p x) false not_it refl)

none_before : {X : Type 0} (p : X → Bool) (xs : List X) (x : X) → list_any p (xs ++ x ∷ []) ≡ false → (list_any p xs ≡ false) × (p x ≡ false)
none_before p xs x none = grind (arith, list_any-append)

-- where an entry stood it stands with an entry more
pub further : (h before since : List EntryValue) (x e : EntryValue) → h ≡ before ++ x ∷ since → h ++ e ∷ [] ≡ before ++ x ∷ (since ++ e ∷ [])
further h before since x e split = ap (λ g. g ++ e ∷ []) split ∙ append_assoc before (x ∷ since) (e ∷ [])

-- ---- a client's opening

abbrev opened_last : (h : List EntryValue) (c n : ℕ) (u : Durability) → IsOpenedOn (h ++ opens c n u ∷ []) c n
opened_last h c n u = record { durability = u; before = h; since = []; split = refl }

abbrev opened_further : (h : List EntryValue) (e : EntryValue) (c n : ℕ) → IsOpenedOn h c n → IsOpenedOn (h ++ e ∷ []) c n
opened_further h e c n o = record {
  durability = o.durability;
  before = o.before;
  since = o.since ++ e ∷ [];
  split = further h o.before o.since (opens c n o.durability) e o.split;
}

-- ---- a client that may call

pub may_call-opened : (h : List EntryValue) (c n : ℕ) (u : Durability) → MayCall (h ++ opens c n u ∷ []) c
may_call-opened h c n u = record { node = n; opened = opened_last h c n u; no_crash = refl; no_failure = refl }

pub may_call-push : (h : List EntryValue) (e : EntryValue) (c : ℕ) (m : MayCall h c) → is_crash_of c e ≡ false → is_failure_of m.node e ≡ false →
    MayCall (h ++ e ∷ []) c
may_call-push h e c m crash failure = record {
  node = m.node;
  opened = opened_further h e c m.node m.opened;
  no_crash = none_more (is_crash_of c) m.opened.since e m.no_crash crash;
  no_failure = none_more (is_failure_of m.node) m.opened.since e m.no_failure failure;
}

-- it might call before the entry, which is neither its crash nor its node's failure
pub record StillCalls (h : List EntryValue) (e : EntryValue) (c : ℕ) : Type 0 where
  pub could : MayCall h c
  pub no_crash : is_crash_of c e ≡ false
  pub no_failure : is_failure_of could.node e ≡ false

pub may_call-last : (h : List EntryValue) (e : EntryValue) (c : ℕ) → MayCall (h ++ e ∷ []) c → ((n : ℕ) × ((u : Durability) × (e ≡ opens c n u)))
    ⊎ StillCalls h e c
may_call-last h e c m =
    let o = m.opened in
    elim (cut_end h e o.before (opens c m.node o.durability) o.since o.split) [
      | inl last ↦ inl (m.node, (o.durability, last.last_is))
      | inr earlier ↦
          let crash = none_before (is_crash_of c) earlier.rest e (subst (λ es. list_any (is_crash_of c) es ≡ false) earlier.more_is m.no_crash) in
          let failure = none_before (is_failure_of m.node) earlier.rest e
          (subst (λ es. list_any (is_failure_of m.node) es ≡ false) earlier.more_is m.no_failure) in
          inr record {
            could = record {
              node = m.node;
              opened = record { durability = o.durability; before = o.before; since = earlier.rest; split = earlier.split };
              no_crash = crash.0;
              no_failure = failure.0;
            };
            no_crash = crash.1;
            no_failure = failure.1;
          }
    ]

-- ---- a node that is down

pub down-failed : (h : List EntryValue) (n : ℕ) (losses : List Loss) → IsDown (h ++ fails n losses ∷ []) n
down-failed h n losses = record { losses = losses; before = h; since = []; split = refl; no_return = refl }

pub down-push : (h : List EntryValue) (e : EntryValue) (n : ℕ) → IsDown h n → is_return_of n e ≡ false → IsDown (h ++ e ∷ []) n
down-push h e n d return = grind (arith, further h d.before d.since (fails n d.losses) e d.split, none_more (is_return_of n) d.since e d.no_return return)

pub down-last : (h : List EntryValue) (e : EntryValue) (n : ℕ) → IsDown (h ++ e ∷ []) n → ((losses : List Loss) × (e ≡ fails n losses))
    ⊎ (IsDown h n × (is_return_of n e ≡ false))
down-last h e n d = grind (arith, cut_end h e d.before (fails n d.losses) d.since d.split, none_before)

pub down-nil : (n : ℕ) → IsDown [] n → ⊥
down-nil n d = not_nil d.before d.since (fails n d.losses) d.split

-- ---- syncs

pub past_syncs-push : (h : List EntryValue) (e : EntryValue) (l : Loss) →
    ((x : Call) → e ≡ calls x → x.client ≡ l.client → syncs h x ≡ true → x.number < l.first) → IsPastSyncs h l → IsPastSyncs (h ++ e ∷ []) l
past_syncs-push h e l last all before since x split client sync = grind (arith, cut_end h e before (calls x) since split)

pub past_syncs-prefix : (h : List EntryValue) (e : EntryValue) (l : Loss) → IsPastSyncs (h ++ e ∷ []) l → IsPastSyncs h l
past_syncs-prefix h e l all before since x split = all before (since ++ e ∷ []) x (further h before since (calls x) e split)

-- ---- counts

pub opened-push : (h : List EntryValue) (c n : ℕ) (u : Durability) → clients_opened (h ++ opens c n u ∷ []) ≡ clients_opened h + 1
opened-push h c n u = opened_append h (opens c n u ∷ [])

pub opened-still : (h : List EntryValue) (e : EntryValue) → is_opening e ≡ false → clients_opened (h ++ e ∷ []) ≡ clients_opened h
opened-still h e other = let all = opened_append h (e ∷ []) in let still = rw other at all in omega arith

pub made-still : (h : List EntryValue) (e : EntryValue) (c : ℕ) → is_call_of c e ≡ false → calls_made c (h ++ e ∷ []) ≡ calls_made c h
made-still h e c other = let all = made_append c h (e ∷ []) in let still = rw other at all in omega arith

-- ---- one open of each client

-- two places of an open are one
pub record SamePlace (before since : List EntryValue) (n : ℕ) (u : Durability) (before2 since2 : List EntryValue) (n2 : ℕ) (u2 : Durability) : Type 0 where
  pub prefix : before ≡ before2
  pub rest : since ≡ since2
  pub node : n ≡ n2
  pub durability : u ≡ u2

abbrev OnePlace : List EntryValue → Type 0
OnePlace h = (c n n2 : ℕ) (u u2 : Durability) (before since before2 since2 : List EntryValue) → h ≡ before ++ opens c n u ∷ since →
    h ≡ before2 ++ opens c n2 u2 ∷ since2 → SamePlace before since n u before2 since2 n2 u2

opened_late : (h : List EntryValue) (c n m : ℕ) (u v : Durability) (before since : List EntryValue) → IsLegal h → Fits h (opens c n u) →
    h ≡ before ++ opens c m v ∷ since → ⊥
opened_late h c n m u v before since legal fits split = grind (arith, opened_within)

one_place_more : (h : List EntryValue) (e : EntryValue) → IsLegal h → Fits h e → OnePlace h → OnePlace (h ++ e ∷ [])
one_place_more h e legal fits place c n n2 u u2 before since before2 since2 split split2 = grind
    (arith, cut_end h e before (opens c n u) since split, cut_end h e before2 (opens c n2 u2) since2 split2, opened_late)

pub one_place : (h : List EntryValue) → IsLegal h → (c n n2 : ℕ) (u u2 : Durability) (before since before2 since2 : List EntryValue) →
    h ≡ before ++ opens c n u ∷ since → h ≡ before2 ++ opens c n2 u2 ∷ since2 → SamePlace before since n u before2 since2 n2 u2
one_place = along OnePlace (λ c n n2 u u2 before since before2 since2 split split2. absurd (not_nil before since (opens c n u) split)) one_place_more
