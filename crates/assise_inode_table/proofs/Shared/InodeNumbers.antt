-- The numbers of the inodes that clients make.
use Rattle.assise_inode_table.proofs.Common.{◌≡◌, ◌≢◌, ◌<◌, ◌≤◌, ℕ, ◌⊎◌, inl, inr, ◌==◌, ◌&&◌, Bool, true, false, cond, if◌then◌else◌, List, [], ◌∷◌, ◌++◌}
use Rattle.assise_inode_table.proofs.Common.{Option, Some, None, IsSome, refl, sym, ap, subst, ◌∙◌, append_assoc, arith, option_map, list_any, touched_by}
use Rattle.assise_inode_table.proofs.Common.{Effect, NewFile, NewDir, Write, SetLen, Link, Unlink, Free, answer, AreAnswered, Tree, opening_tree, Content}
use Rattle.assise_inode_table.proofs.Common.{Values, values, after, changed, effect_on, makes, value_after, AnsweredCall, inode_number, makes_inode}
use Rattle.assise_inode_table.proofs.Common.{inodes_made, numbered_call, numbered_after, numbered, opening_inodes, Spells, AllMakeNew, Each, exchanges, step_of}
use Rattle.std.proofs.lemmas.List.{append-nil}
use Rattle.std.proofs.lemmas.List.Sums.{sum_by-append}
use Rattle.assise_inode_table.proofs.Shared.AtOpening.{root_alone, opening_spells}
use Rattle.assise_inode_table.proofs.Shared.CallEnds.{makes_own}
use Rattle.assise_inode_table.proofs.Shared.CallSteps.{step_replies, step_spells}

-- ---- numbers

pub one_number : (c d j k : ℕ) → j < 4294967296 → k < 4294967296 → inode_number c j ≡ inode_number d k → (c ≡ d) × (j ≡ k)
one_number c d j k few less same = (omega arith, omega arith)

pub not_the_root : (c k : ℕ) → 0 < c → inode_number c k ≢ 0
not_the_root c k some = λ root. omega arith

-- ---- one call more

pub one_more_after : (before xs : List AnsweredCall) (x : AnsweredCall) → numbered_after before (xs ++ x ∷ []) ≡ numbered_after before xs ++ numbered_call
    (before ++ xs) x ∷ []
one_more_after before [] x = ap (λ prefix. numbered_call prefix x ∷ []) (sym (append-nil before))
one_more_after before (y ∷ ys) x = grind (arith, one_more_after (before ++ y ∷ []) ys x, append_assoc)

pub one_more : (xs : List AnsweredCall) (x : AnsweredCall) → numbered (xs ++ x ∷ []) ≡ numbered xs ++ numbered_call xs x ∷ []
one_more xs x = one_more_after [] xs x

-- ---- how many inodes a client made

more_made : (c : ℕ) (xs ys : List AnsweredCall) → inodes_made c xs ≤ inodes_made c (xs ++ ys)
more_made c xs ys = omega (arith, sum_by-append (λ x. cond ((x.client == c) && makes_inode x.op x.reply) 1 0) xs ys)

one_made : (x : AnsweredCall) (xs : List AnsweredCall) → makes_inode x.op x.reply ≡ true → inodes_made x.client xs < inodes_made x.client (xs ++ x ∷ [])
one_made x xs made = grind (arith, sum_by-append)

-- ---- what is there after effects

was_there : (f : Content → Content) (o : Option Content) → IsSome (option_map f o) → IsSome o
was_there f None h = cc
was_there f (Some content) h = refl

was_there_if : (b : Bool) (f : Content → Content) (o : Option Content) → IsSome (if b then option_map f o else o) → IsSome o
was_there_if true f o h = was_there f o h
was_there_if false f o h = h

new_or_old : (b : Bool) (content : Content) (o : Option Content) → IsSome (if b then Some content else o) → IsSome o ⊎ (b ≡ true)
new_or_old true content o h = inr refl
new_or_old false content o h = inl h

not_freed : (b : Bool) (o : Option Content) → IsSome (if b then None else o) → IsSome o
not_freed true o h = cc
not_freed false o h = h

there_after_one : (i : ℕ) (old : Option Content) (e : Effect) → IsSome (if touched_by e == i then effect_on old e else old) → IsSome old ⊎ (makes i e ≡ true)
there_after_one i old (NewFile j) h = new_or_old (j == i) _ old h
there_after_one i old (NewDir j) h = new_or_old (j == i) _ old h
there_after_one i old (Write j patch) h = inl (was_there_if (j == i) (λ content. changed content (Write j patch)) old h)
there_after_one i old (SetLen j size) h = inl (was_there_if (j == i) (λ content. changed content (SetLen j size)) old h)
there_after_one i old (Link d name j) h = inl (was_there_if (d == i) (λ content. changed content (Link d name j)) old h)
there_after_one i old (Unlink d name) h = inl (was_there_if (d == i) (λ content. changed content (Unlink d name)) old h)
there_after_one i old (Free j) h = inl (not_freed (j == i) old h)

-- what is there after effects was there, or they make it
pub there_or_made : (i : ℕ) (old : Option Content) (es : List Effect) → IsSome (value_after i old es) → IsSome old ⊎ (list_any (makes i) es ≡ true)
there_or_made i old [] h = inl h
there_or_made i old (e ∷ es) h = grind (arith, there_or_made i (if touched_by e == i then effect_on old e else old) es h)

-- ---- a run from the opening

-- a client made the inode in the calls
record IsOfCalls (xs : List AnsweredCall) (i : ℕ) : Type 0 where
  client : ℕ
  count : ℕ
  some : 0 < client
  made : count < inodes_made client xs
  number : i ≡ inode_number client count

-- each inode that is there is the root, or a client made it in the calls
abbrev AreOfCalls : List AnsweredCall → Values → Type 0
AreOfCalls xs v = (i : ℕ) → IsSome (v i) → (i ≡ 0) ⊎ IsOfCalls xs i

of_more : (xs ys : List AnsweredCall) (i : ℕ) → IsOfCalls xs i → IsOfCalls (xs ++ ys) i
of_more xs ys i m = record { client = m.client; count = m.count; some = m.some; made = omega (arith, m.made, more_made m.client xs ys); number = m.number }

of_one_more : (before : List AnsweredCall) (x : AnsweredCall) (v : Values) → 0 < x.client → x.reply ≡ (step_of v (numbered_call before x)).reply →
    AreOfCalls before v →
    AreOfCalls (before ++ x ∷ []) (after v (step_of v (numbered_call before x)).effects)
of_one_more before x v some replied old = λ i h.
    elim (there_or_made i (v i) (step_of v (numbered_call before x)).effects h) [
      | inl there ↦ grind (arith, of_more)
      | inr new ↦
          grind (arith, makes_own v x.op (numbered_call before x).fresh i new, one_made)
    ]

nobody_made : (before : List AnsweredCall) (x : AnsweredCall) (v : Values) → 0 < x.client → ((c : ℕ) → inodes_made c before < 4294967296) →
    AreOfCalls before v → v (numbered_call before x).fresh ≡ None
nobody_made before x v some few old = go (v (numbered_call before x).fresh) refl
  where
    go : (o : Option Content) → v (numbered_call before x).fresh ≡ o → o ≡ None
    go None e = refl
    go (Some content) e =
        elim (old (numbered_call before x).fresh (rw e refl)) [
          | inl root ↦ absurd (not_the_root x.client (inodes_made x.client before) some root)
          | inr m ↦
              let same = one_number x.client m.client (inodes_made x.client before) m.count (few x.client) (omega (arith, few m.client, m.made)) m.number in
              let again : inodes_made m.client before ≡ m.count = subst (λ c. inodes_made c before ≡ m.count) same.0 same.1 in
              absurd (omega (arith, again, m.made))
        ]

all_new : (before xs : List AnsweredCall) (v : Values) (t : Tree) → Spells v t → AreOfCalls before v → Each (λ x. 0 < x.client) xs →
    ((c : ℕ) → inodes_made c (before ++ xs) < 4294967296) →
    AreAnswered t (exchanges (numbered_after before xs)) → AllMakeNew v (numbered_after before xs)
all_new before [] v t s old some few answered = tt
all_new before (x ∷ xs) v t s old some few answered =
    let y = numbered_call before x in
    let none = nobody_made before x v some.0 (λ c. omega (arith, few c, more_made c before (x ∷ xs))) old in
    let replied : x.reply ≡ (step_of v y).reply = answered.0 ∙ sym (step_replies v t x.op y.fresh s) in (
      (λ _. none),
      all_new (before ++ x ∷ []) xs (after v (step_of v y).effects) (answer t x.op).1 (step_spells v t x.op y.fresh s (λ _. none))
          (of_one_more before x v some.0 replied old) some.1
          (λ c. subst (λ ys. inodes_made c ys < 4294967296) (sym (append_assoc before (x ∷ []) xs)) (few c)) answered.1,
    )

pub new_from_opening : (xs : List AnsweredCall) → Each (λ x. 0 < x.client) xs → ((c : ℕ) → inodes_made c xs < 4294967296) →
    AreAnswered opening_tree (exchanges (numbered xs)) → AllMakeNew (values opening_inodes) (numbered xs)
new_from_opening xs some few answered = all_new [] xs (values opening_inodes) opening_tree opening_spells (λ i h. inl (root_alone i h)) some few answered
