-- Which calls are lost and which are kept, in the words of the entries.
use Rattle.assise_history.proofs.Common.{◌≡◌, ◌↔◌, ℕ, zero, suc, nat_le, true, false, not, ◌&&◌, ◌==◌, List, [], ◌∷◌, ◌++◌, filter, Contains, refl, ap, sym}
use Rattle.assise_history.proofs.Common.{subst, inl, inr, arith, eqb-true, leb-true, cases_Bool, false_from_ne_true, Contains-append_right}
use Rattle.assise_history.proofs.Common.{Contains-append_cases, Call, Loss, EntryValue, calls, fails, IsTaken, Stays, loses, is_lost, kept}
use Rattle.assise_history.proofs.Shared.TestedElements.{passes_from, passes_at, two}
use Rattle.assise_history.proofs.Shared.Runs.{is_lost-append}

here : (es : List EntryValue) (n : ℕ) (losses : List Loss) (x : Call) → loses losses x ≡ true → IsTaken (fails n losses ∷ es) x
here es n losses x is =
    let q = passes_from (λ l. (l.client == x.client) && nat_le l.first x.number) losses is in
    let parts = two (q.item.client == x.client) (nat_le q.item.first x.number) q.holds in
    record {
      node = n;
      losses = losses;
      before = [];
      behind = es;
      split = refl;
      loss = q.item;
      lower = q.before;
      higher = q.behind;
      listed = q.split;
      client = eqb-true q.item.client x.client parts.0;
      first = leb-true q.item.first x.number parts.1;
    }

further : (e : EntryValue) (es : List EntryValue) (x : Call) → IsTaken es x → IsTaken (e ∷ es) x
further e es x t = record {
  node = t.node;
  losses = t.losses;
  before = e ∷ t.before;
  behind = t.behind;
  split = ap (λ xs. e ∷ xs) t.split;
  loss = t.loss;
  lower = t.lower;
  higher = t.higher;
  listed = t.listed;
  client = t.client;
  first = t.first;
}

pub taken : (es : List EntryValue) (x : Call) → is_lost es x ≡ true → IsTaken es x
taken [] x h = cc
taken (fails n losses ∷ es) x h =
    elim (cases_Bool (loses losses x)) [
      | inl now ↦ here es n losses x now
      | inr later ↦ let rest : is_lost es x ≡ true = rw later at h in further (fails n losses) es x (taken es x rest)
    ]
taken (e ∷ es) x h = further e es x (taken es x h)

lost_at : (before behind : List EntryValue) (n : ℕ) (losses : List Loss) (x : Call) → loses losses x ≡ true → is_lost (before ++ fails n losses ∷ behind) x
    ≡ true
lost_at [] behind n losses x h = rw h refl
lost_at (fails m others ∷ es) behind n losses x h = grind (arith, lost_at es behind n losses x h)
lost_at (_ ∷ es) behind n losses x h = lost_at es behind n losses x h

pub lost : (es : List EntryValue) (x : Call) → IsTaken es x → is_lost es x ≡ true
lost es x t = grind (arith, passes_at, lost_at)

pub lost_exactly : (es : List EntryValue) (x : Call) → (is_lost es x ≡ true) ↔ IsTaken es x
lost_exactly es x = (taken es x, lost es x)

-- what is kept of two parts
pub kept-append : (g h : List EntryValue) → kept (g ++ h) ≡ filter (λ x. not (is_lost h x)) (kept g) ++ kept h
kept-append [] h = refl
kept-append (calls x ∷ es) h = grind (arith, kept-append es h, is_lost-append)
kept-append (_ ∷ es) h = kept-append es h

first_of_kept : (cs : List Call) (x : Call) → Contains (x ∷ cs) x
first_of_kept cs x = (0, omega arith, refl)

behind_it : (y : Call) (cs : List Call) (x : Call) → Contains cs x → Contains (y ∷ cs) x
behind_it y cs x h = Contains-append_right (y ∷ []) cs x h

only : (y x : Call) → Contains (y ∷ []) x → y ≡ x
only y x (zero, few, is) = is
only y x (suc k, few, is) = absurd (omega arith)

kept_at : (before later : List EntryValue) (x : Call) → is_lost later x ≡ false → Contains (kept (before ++ calls x ∷ later)) x
kept_at [] later x safe = rw safe (first_of_kept (kept later) x)
kept_at (calls y ∷ es) later x safe = grind
    (arith, kept_at es later x safe, cases_Bool (is_lost (es ++ calls x ∷ later) y), behind_it y (kept (es ++ calls x ∷ later)) x (kept_at es later x safe))
kept_at (_ ∷ es) later x safe = kept_at es later x safe

later_on : (e : EntryValue) (es : List EntryValue) (x : Call) → Stays es x → Stays (e ∷ es) x
later_on e es x s = record { before = e ∷ s.before; later = s.later; split = ap (λ xs. e ∷ xs) s.split; safe = s.safe }

pub stays : (h : List EntryValue) (x : Call) → Contains (kept h) x → Stays h x
stays [] x h = absurd (omega (arith, h.1))
stays (calls y ∷ es) x h =
    elim (cases_Bool (is_lost es y)) [
      | inl gone ↦ later_on (calls y) es x (stays es x (rw gone at h))
      | inr left ↦
          let all : Contains (y ∷ kept es) x = rw left at h in
          elim (Contains-append_cases (y ∷ []) (kept es) x all) [
            | inl first ↦
                let same = only y x first in
                record {
                  before = [];
                  later = es;
                  split = ap (λ z. calls z ∷ es) same;
                  safe =
                      grind (arith, lost);
                }
            | inr rest ↦ later_on (calls y) es x (stays es x rest)
          ]
    ]
stays (e ∷ es) x h = later_on e es x (stays es x h)

pub kept_from : (h : List EntryValue) (x : Call) → Stays h x → Contains (kept h) x
kept_from h x s =
    let safe = false_from_ne_true (is_lost s.later x) (λ is. s.safe (taken s.later x is)) in
    subst (λ es. Contains (kept es) x) (sym s.split) (kept_at s.before s.later x safe)

pub kept_exactly : (h : List EntryValue) (x : Call) → Contains (kept h) x ↔ Stays h x
kept_exactly h x = (stays h x, kept_from h x)
