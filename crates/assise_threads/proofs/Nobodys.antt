-- What the main thread does in one take opens no client and answers no call.
use Rattle.assise_threads.proofs.Common.{◌≡◌, ◌∙◌, ℕ, List, [], ◌∷◌, ◌++◌, refl, sym, ap, ap₂, subst, append-nil, drop, length, Option, None, ∥∥₁_map}
use Rattle.assise_threads.proofs.Common.{EntryValue, opens, calls, IsLegal, Opens, Never, Extends, MayAddAll, MayGive, added, client_after, openings_of}
use Rattle.assise_threads.proofs.Common.{all-openings-append, drop-prefix, no_openings, machine, ClusterOf, extends-on, OpensNone, AddsNobodys, AreNobodys}
use Rattle.assise_threads.proofs.LedTakes.{leads_itself, not_never}

-- ---- a pass without a client may give such entries

may_add : (o : Opens) (es : List EntryValue) → AreNobodys es → MayAddAll None o es
may_add o [] q = tt
may_add o (opens c n u ∷ es) q = absurd q
may_add o (calls x ∷ es) q = absurd q
may_add o (_ ∷ es) q = (tt, may_add o es q)

no_client : (es : List EntryValue) → AreNobodys es → client_after None es ≡ None
no_client [] q = refl
no_client (opens c n u ∷ es) q = absurd q
no_client (calls x ∷ es) q = absurd q
no_client (_ ∷ es) q = no_client es q

pub may_give : (client : Option ℕ) (o : Opens) (taken old new : List EntryValue) → client ≡ None → taken ≡ old → AddsNobodys old new →
    MayGive client o taken new
may_give client o taken old new nobody is adds = rw (nobody, is) (adds.more, adds.split, may_add o adds.more adds.nobodys)

pub stays_nobody : (client : Option ℕ) (taken old new : List EntryValue) → client ≡ None → taken ≡ old → AddsNobodys old new →
    client_after client (added taken new) ≡ None
stays_nobody client taken old new nobody is adds =
    rw (nobody, is) (ap (λ z. client_after None (drop (length old) z)) adds.split
    ∙ (ap (client_after None) (drop-prefix old adds.more) ∙ no_client adds.more adds.nobodys))

-- the same where nothing is added
pub may_give_same : (client : Option ℕ) (o : Opens) (taken now : List EntryValue) → taken ≡ now → MayGive client o taken now
may_give_same client o taken now is = ([], sym (append-nil taken ∙ is), tt)

pub stays_nobody_same : (client : Option ℕ) (taken now : List EntryValue) → client ≡ None → taken ≡ now → client_after client (added taken now) ≡ None
stays_nobody_same client taken now nobody is = stays_nobody client taken now now nobody is record { more = []; split = sym (append-nil now); nobodys = tt }

-- how it may be given back so
pub ruleset given_as_taken = (may_give_same, stays_nobody_same, leads_itself, not_never, append-nil)

-- what was seen before the take is a prefix of what is given
pub given_extends : (seen before after given : List EntryValue) → Extends before seen → AddsNobodys before after → given ≡ after → Extends given seen
given_extends seen before after given prefix adds is = subst (λ h. Extends h seen) (sym is) (extends-on after before seen (adds.more, adds.split) prefix)

-- ---- no client was opened

-- where the history that was taken has no opening that wasn't seen, that which is given has none either
pub given_opens_none : (seen before after given : List EntryValue) → openings_of before ≡ openings_of seen → AddsNobodys before after → given ≡ after →
    OpensNone seen given
given_opens_none seen before after given known adds is =
    ap openings_of (is ∙ adds.split)
    ∙ (all-openings-append before adds.more ∙ ap₂ (λ x y. x ++ y) known (no_openings None adds.more (may_add Never adds.more adds.nobodys)))

pub none_then_none : (a b d : List EntryValue) → OpensNone a b → OpensNone b d → OpensNone a d
none_then_none a b d first second = second ∙ (append-nil (openings_of b) ∙ first)

-- ---- a cluster's history is legal

pub is_legal : {C : Type 0} (cluster : ClusterOf C) (h : List EntryValue) → h ≡ (machine cluster).history → ∥ IsLegal h ∥₁
is_legal cluster h is = subst (λ z. ∥ IsLegal z ∥₁) (sym is) (∥∥₁_map cluster.sound.invariant.holds (λ holds. holds.recorded.legal))
