-- The numbered calls of a history, one entry more.
use Rattle.assise_model_history.proofs.Common.{◌≡◌, ◌↔◌, ℕ, zero, suc, Bool, true, false, not, List, [], ◌∷◌, ◌++◌, if◌then◌else◌, filter, map, Contains, refl}
use Rattle.assise_model_history.proofs.Common.{ap, sym, subst, ◌∙◌, inl, inr, arith, append_assoc, append-nil, cases_Bool, Contains-append_right}
use Rattle.assise_model_history.proofs.Common.{Contains-append_cases, Call, Loss, Durability, EntryValue, opens, calls, crashes, fails, returns, is_lost, loses}
use Rattle.assise_model_history.proofs.Common.{kept, NumberedCall, Each, numbered_in, plain_call, all_after, kept_after, kept_numbered, IsKeptAs}
use Rattle.assise_history.proofs.Shared.Runs.{is_lost-append}

-- lists that pass a test

filter_all : {X : Type 0} (xs : List X) → filter (λ x. true) xs ≡ xs
filter_all [] = refl
filter_all (x ∷ xs) = ap (λ ys. x ∷ ys) (filter_all xs)

pub filter_like : {X : Type 0} (p q : X → Bool) (xs : List X) → Each (λ x. p x ≡ q x) xs → filter p xs ≡ filter q xs
filter_like p q [] h = refl
filter_like p q (x ∷ xs) h = rw h.0 (ap (λ ys. if q x then x ∷ ys else ys) (filter_like p q xs h.1))

-- ---- the parts of a history

numbered_parts_from : (prefix g h : List EntryValue) → all_after prefix (g ++ h) ≡ all_after prefix g ++ all_after (prefix ++ g) h
numbered_parts_from prefix [] h = ap (λ f. all_after f h) (sym (append-nil prefix))
numbered_parts_from prefix (calls x ∷ es) h = grind (arith, numbered_parts_from (prefix ++ calls x ∷ []) es h, append_assoc)
numbered_parts_from prefix (opens c n u ∷ es) h = grind (arith, numbered_parts_from (prefix ++ opens c n u ∷ []) es h, append_assoc)
numbered_parts_from prefix (crashes c ∷ es) h = grind (arith, numbered_parts_from (prefix ++ crashes c ∷ []) es h, append_assoc)
numbered_parts_from prefix (fails n losses ∷ es) h = grind (arith, numbered_parts_from (prefix ++ fails n losses ∷ []) es h, append_assoc)
numbered_parts_from prefix (returns n ∷ es) h = grind (arith, numbered_parts_from (prefix ++ returns n ∷ []) es h, append_assoc)

pub numbered_parts : (g h : List EntryValue) → all_after [] (g ++ h) ≡ all_after [] g ++ all_after g h
numbered_parts g h = numbered_parts_from [] g h

-- the calls that entries leave
abbrev pub left_by : List EntryValue → List NumberedCall → List NumberedCall
left_by h xs = filter (λ x. not (is_lost h (plain_call x))) xs

kept_parts_from : (prefix g h : List EntryValue) → kept_after prefix (g ++ h) ≡ left_by h (kept_after prefix g) ++ kept_after (prefix ++ g) h
kept_parts_from prefix [] h = ap (λ f. kept_after f h) (sym (append-nil prefix))
kept_parts_from prefix (opens c n u ∷ es) h = grind (arith, kept_parts_from (prefix ++ opens c n u ∷ []) es h, append_assoc)
kept_parts_from prefix (crashes c ∷ es) h = grind (arith, kept_parts_from (prefix ++ crashes c ∷ []) es h, append_assoc)
kept_parts_from prefix (fails n losses ∷ es) h = grind (arith, kept_parts_from (prefix ++ fails n losses ∷ []) es h, append_assoc)
kept_parts_from prefix (returns n ∷ es) h = grind (arith, kept_parts_from (prefix ++ returns n ∷ []) es h, append_assoc)
kept_parts_from prefix (calls x ∷ es) h = grind (arith, kept_parts_from (prefix ++ calls x ∷ []) es h, append_assoc, is_lost-append)

pub kept_parts : (g h : List EntryValue) → kept_numbered (g ++ h) ≡ left_by h (kept_numbered g) ++ kept_after g h
kept_parts g h = kept_parts_from [] g h

-- ---- an entry more

nothing_more : {X : Type 0} (xs : List X) → filter (λ x. true) xs ++ [] ≡ xs
nothing_more xs = append-nil (filter (λ x. true) xs) ∙ filter_all xs

pub kept_call : (h : List EntryValue) (x : Call) → kept_numbered (h ++ calls x ∷ []) ≡ kept_numbered h ++ numbered_in h x ∷ []
kept_call h x = kept_parts h (calls x ∷ []) ∙ ap (λ xs. xs ++ numbered_in h x ∷ []) (filter_all (kept_numbered h))

pub kept_open : (h : List EntryValue) (c n : ℕ) (u : Durability) → kept_numbered (h ++ opens c n u ∷ []) ≡ kept_numbered h
kept_open h c n u = kept_parts h (opens c n u ∷ []) ∙ nothing_more (kept_numbered h)

pub kept_crash : (h : List EntryValue) (c : ℕ) → kept_numbered (h ++ crashes c ∷ []) ≡ kept_numbered h
kept_crash h c = kept_parts h (crashes c ∷ []) ∙ nothing_more (kept_numbered h)

pub kept_return : (h : List EntryValue) (n : ℕ) → kept_numbered (h ++ returns n ∷ []) ≡ kept_numbered h
kept_return h n = kept_parts h (returns n ∷ []) ∙ nothing_more (kept_numbered h)

pub kept_fail : (h : List EntryValue) (n : ℕ) (losses : List Loss) → kept_numbered (h ++ fails n losses ∷ []) ≡ filter (λ x. not (loses losses (plain_call x)))
    (kept_numbered h)
kept_fail h n losses = grind (arith, kept_parts, append-nil, filter_like)

pub kept_fail_none : (h : List EntryValue) (n : ℕ) → kept_numbered (h ++ fails n [] ∷ []) ≡ kept_numbered h
kept_fail_none h n = kept_fail h n [] ∙ filter_all (kept_numbered h)

-- ---- without their numbers they are the kept calls

kept_plain_from : (prefix h : List EntryValue) → map plain_call (kept_after prefix h) ≡ kept h
kept_plain_from prefix [] = refl
kept_plain_from prefix (opens c n u ∷ es) = kept_plain_from (prefix ++ opens c n u ∷ []) es
kept_plain_from prefix (crashes c ∷ es) = kept_plain_from (prefix ++ crashes c ∷ []) es
kept_plain_from prefix (fails n losses ∷ es) = kept_plain_from (prefix ++ fails n losses ∷ []) es
kept_plain_from prefix (returns n ∷ es) = kept_plain_from (prefix ++ returns n ∷ []) es
kept_plain_from prefix (calls x ∷ es) = grind (arith, kept_plain_from (prefix ++ calls x ∷ []) es)

pub kept_plain : (h : List EntryValue) → map plain_call (kept_numbered h) ≡ kept h
kept_plain h = kept_plain_from [] h

-- ---- each has its number

first_in : (xs : List NumberedCall) (y x : NumberedCall) → x ≡ y → Contains (x ∷ xs) y
first_in xs y x same = (0, omega arith, same)

one_of : (y x : NumberedCall) → Contains (x ∷ []) y → x ≡ y
one_of y x (zero, few, is) = is
one_of y x (suc k, few, is) = absurd (omega arith)

record IsKeptFrom (prefix h : List EntryValue) (y : NumberedCall) : Type 0 where
  before : List EntryValue
  later : List EntryValue
  plain : Call
  split : h ≡ before ++ calls plain ∷ later
  safe : is_lost later plain ≡ false
  numbered : y ≡ numbered_in (prefix ++ before) plain

-- with an entry before
later_on : (prefix es : List EntryValue) (e : EntryValue) (y : NumberedCall) → IsKeptFrom (prefix ++ e ∷ []) es y → IsKeptFrom prefix (e ∷ es) y
later_on prefix es e y k = search (append_assoc, arith) parts 3

kept_as_from : (prefix h : List EntryValue) (y : NumberedCall) → Contains (kept_after prefix h) y → IsKeptFrom prefix h y
kept_as_from prefix [] y h = absurd (omega (arith, h.1))
kept_as_from prefix (opens c n u ∷ es) y h = later_on prefix es (opens c n u) y (kept_as_from (prefix ++ opens c n u ∷ []) es y h)
kept_as_from prefix (crashes c ∷ es) y h = later_on prefix es (crashes c) y (kept_as_from (prefix ++ crashes c ∷ []) es y h)
kept_as_from prefix (fails n losses ∷ es) y h = later_on prefix es (fails n losses) y (kept_as_from (prefix ++ fails n losses ∷ []) es y h)
kept_as_from prefix (returns n ∷ es) y h = later_on prefix es (returns n) y (kept_as_from (prefix ++ returns n ∷ []) es y h)
kept_as_from prefix (calls x ∷ es) y h =
    elim (cases_Bool (is_lost es x)) [
      | inl gone ↦ later_on prefix es (calls x) y (kept_as_from (prefix ++ calls x ∷ []) es y (rw gone at h))
      | inr left ↦
          let all : Contains (numbered_in prefix x ∷ kept_after (prefix ++ calls x ∷ []) es) y = rw left at h in
          elim (Contains-append_cases (numbered_in prefix x ∷ []) (kept_after (prefix ++ calls x ∷ []) es) y all) [
            | inl here ↦ grind (arith, append-nil prefix)
            | inr there ↦ later_on prefix es (calls x) y (kept_as_from (prefix ++ calls x ∷ []) es y there)
          ]
    ]

kept_as : (h : List EntryValue) (y : NumberedCall) → Contains (kept_numbered h) y → IsKeptAs h y
kept_as h y is = let k = kept_as_from [] h y is in
    record { before = k.before; later = k.later; plain = k.plain; split = k.split; safe = k.safe; numbered = k.numbered }

kept_there : (h : List EntryValue) (y : NumberedCall) → IsKeptAs h y → Contains (kept_numbered h) y
kept_there h y k =
    let there : kept_numbered h ≡ left_by (calls k.plain ∷ k.later) (kept_numbered k.before) ++ kept_after k.before (calls k.plain ∷ k.later) =
    grind (arith, kept_parts) in
    let first : Contains (kept_after k.before (calls k.plain ∷ k.later)) y =
    grind arith in
    subst (λ xs. Contains xs y) (sym there)
    (Contains-append_right (left_by (calls k.plain ∷ k.later) (kept_numbered k.before)) (kept_after k.before (calls k.plain ∷ k.later)) y first)

pub kept_exactly : (h : List EntryValue) (y : NumberedCall) → Contains (kept_numbered h) y ↔ IsKeptAs h y
kept_exactly h y = (kept_as h y, kept_there h y)
