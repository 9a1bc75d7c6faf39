-- Calls that no other client saw are taken out of a run.
use Rattle.assise_inode_table.proofs.Common.{◌≡◌, ℕ, ◌<◌, ◌≤◌, arith, Bool, true, false, List, [], ◌∷◌, ◌++◌, if◌then◌else◌, refl, ap, sym, ◌∙◌, subst, ◌==◌}
use Rattle.assise_inode_table.proofs.Common.{inl, inr, MatchBool, list_any, cases_Bool, cases_eq, ltb-true, ltb-false, eqb-true, or_cases, or_true_right}
use Rattle.assise_inode_table.proofs.Common.{Effect, NewFile, NewDir, Write, SetLen, Link, Unlink, Free, touched_by, Tree, answer, AreAnswered}
use Rattle.assise_inode_table.proofs.Common.{tree_after_calls, Values, after, makes, touched, contains, value_after, Step, AgreeOn, Spells, NumberedCall, trace}
use Rattle.assise_inode_table.proofs.Common.{step_of, values_after_calls, MakesNew, AllMakeNew, exchanges, ops, Each, NumbersAscend, below, Clear, Unseen}
use Rattle.std.proofs.Common.{filter}
use Rattle.assise_inode_table.proofs.Shared.EffectValues.{contains-append, untouched}
use Rattle.assise_inode_table.proofs.Shared.Local.{step_local}
use Rattle.assise_inode_table.proofs.Shared.PairwiseLists.{each-always, each-both, clear-left, clear-right}
use Rattle.assise_inode_table.proofs.Shared.PairwiseLists.{clear-append, clear_nothing, AscendsAlong, ascends_along}
use Rattle.assise_inode_table.proofs.Shared.CallSteps.{step_replies, step_spells}

abbrev Traced : Type 0
Traced = List (NumberedCall × Step)

-- a step that stays visits and changes nothing that one taken out before it changed
abbrev StaysClear : (NumberedCall → Bool) → List ℕ → Traced → Type 0
StaysClear stays dirty [] = Unit {0}
StaysClear stays dirty (x ∷ xs) =
    MatchBool (stays x.0) (Clear dirty (x.1.visits ++ touched x.1.effects) × StaysClear stays dirty xs) (StaysClear stays (touched x.1.effects ++ dirty) xs)

abbrev AgreeOff : List ℕ → Values → Values → Type 0
AgreeOff dirty v w = (i : ℕ) → contains dirty i ≡ false → v i ≡ w i

agree_on : (dirty is : List ℕ) (v w : Values) → AgreeOff dirty v w → Clear dirty is → AgreeOn is v w
agree_on dirty [] v w a h = tt
agree_on dirty (i ∷ is) v w a h = (a i h.0, agree_on dirty is v w a h.1)

-- both maps take the same effects
agree_after : (dirty : List ℕ) (v w : Values) (es : List Effect) → AgreeOff dirty v w → AgreeOff dirty (after v es) (after w es)
agree_after dirty v w es a = λ i f. ap (λ o. value_after i o es) (a i f)

-- only the one takes them
agree_dirty : (dirty : List ℕ) (v w : Values) (es : List Effect) → AgreeOff dirty v w → AgreeOff (touched es ++ dirty) (after v es) w
agree_dirty dirty v w es a = grind (arith, contains-append, untouched)

-- a call that stays is the same step over both maps
same_here : (dirty : List ℕ) (v w : Values) (x : NumberedCall) → AgreeOff dirty v w → Clear dirty ((step_of v x).visits ++ touched (step_of v x).effects) →
    step_of v x ≡ step_of w x
same_here dirty v w x a h = step_local v w x.op x.fresh
    (agree_on dirty (step_of v x).visits v w a (clear-left dirty (step_of v x).visits (touched (step_of v x).effects) h))

-- ---- the steps

same_trace : (stays : NumberedCall → Bool) (xs : List NumberedCall) (v w : Values) (dirty : List ℕ) → AgreeOff dirty v w → StaysClear stays dirty (trace v xs) →
    trace w (filter stays xs) ≡ filter (λ x. stays x.0) (trace v xs)
same_trace stays [] v w dirty a u = refl
same_trace stays (x ∷ xs) v w dirty a u =
    let s : Step = step_of v x in
    let rest : Traced = trace (after v s.effects) xs in
    elim (stays x) as (λ b.
    MatchBool b (Clear dirty (s.visits ++ touched s.effects) × StaysClear stays dirty rest) (StaysClear stays (touched s.effects ++ dirty) rest) →
    trace w (if b then x ∷ filter stays xs else filter stays xs) ≡ (if b then (x, s) ∷ filter (λ y. stays y.0) rest else filter (λ y. stays y.0) rest)) [
      | true ↦ λ h.
          subst (λ k. (x, k) ∷ trace (after w k.effects) (filter stays xs) ≡ (x, s) ∷ filter (λ y. stays y.0) rest) (same_here dirty v w x a h.0)
          (ap (λ ys. (x, s) ∷ ys) (same_trace stays xs (after v s.effects) (after w s.effects) dirty (agree_after dirty v w s.effects a) h.1))
      | false ↦ λ h. same_trace stays xs (after v s.effects) w (touched s.effects ++ dirty) (agree_dirty dirty v w s.effects a) h
    ] u

-- ---- the run

-- each reply is the step's
abbrev AllReply : Values → List NumberedCall → Type 0
AllReply v [] = Unit {0}
AllReply v (x ∷ xs) = (x.reply ≡ (step_of v x).reply) × AllReply (after v (step_of v x).effects) xs

-- the calls are a run that makes new inodes, and the inodes that they leave spell the tree that they leave
record Goes (w : Values) (u : Tree) (xs : List NumberedCall) : Type 0 where
  run : AreAnswered u (exchanges xs)
  new : AllMakeNew w xs
  spelled : Spells (values_after_calls w xs) (tree_after_calls u (ops xs))

replied : (v : Values) (t : Tree) (xs : List NumberedCall) → Spells v t → AreAnswered t (exchanges xs) → AllMakeNew v xs → AllReply v xs
replied v t [] s r n = tt
replied v t (x ∷ xs) s r n =
    (r.0 ∙ sym (step_replies v t x.op x.fresh s), replied (after v (step_of v x).effects) (answer t x.op).1 xs (step_spells v t x.op x.fresh s n.0) r.1 n.1)

-- what an effect makes, it touches
made_touched : (i : ℕ) (e : Effect) → makes i e ≡ true → (touched_by e == i) ≡ true
made_touched i (NewFile j) h = h
made_touched i (NewDir j) h = h
made_touched i (Write j patch) h = cc
made_touched i (SetLen j size) h = cc
made_touched i (Link d name j) h = cc
made_touched i (Unlink d name) h = cc
made_touched i (Free j) h = cc

all_touched : (i : ℕ) (es : List Effect) → list_any (makes i) es ≡ true → contains (touched es) i ≡ true
all_touched i [] h = cc
all_touched i (e ∷ es) h =
    elim (or_cases (makes i e) (list_any (makes i) es) h) [
      | inl here ↦ rw (made_touched i e here) refl
      | inr later ↦ rw (all_touched i es later) (or_true_right (touched_by e == i) true refl)
    ]

clear_there : (dirty is : List ℕ) (i : ℕ) → Clear dirty is → contains is i ≡ true → contains dirty i ≡ false
clear_there dirty [] i h t = cc
clear_there dirty (j ∷ js) i h t =
    elim (or_cases (j == i) (contains js i) t) [
      | inl here ↦ subst (λ k. contains dirty k ≡ false) (eqb-true j i here) h.0
      | inr later ↦ clear_there dirty js i h.1 later
    ]

-- a call that stays makes a new inode over the other map too
makes_new : (dirty : List ℕ) (v w : Values) (x : NumberedCall) → AgreeOff dirty v w → Clear dirty ((step_of v x).visits ++ touched (step_of v x).effects) →
    MakesNew v x → MakesNew w x
makes_new dirty v w x a h new = grind
    (arith, same_here dirty v w x a h, clear_there, clear-right dirty (step_of v x).visits (touched (step_of v x).effects) h, all_touched)

one_more : (w : Values) (u : Tree) (x : NumberedCall) (xs : List NumberedCall) → Spells w u → x.reply ≡ (step_of w x).reply → MakesNew w x →
    Goes (after w (step_of w x).effects) (answer u x.op).1 xs → Goes w u (x ∷ xs)
one_more w u x xs s reply new g = record { run = (reply ∙ step_replies w u x.op x.fresh s, g.run); new = (new, g.new); spelled = g.spelled }

goes : (stays : NumberedCall → Bool) (xs : List NumberedCall) (v w : Values) (u : Tree) (dirty : List ℕ) → AgreeOff dirty v w →
    StaysClear stays dirty (trace v xs) →
    AllReply v xs → AllMakeNew v xs → Spells w u → Goes w u (filter stays xs)
goes stays [] v w u dirty a c r n s = record { run = tt; new = tt; spelled = s }
goes stays (x ∷ xs) v w u dirty a c r n s =
    let k : Step = step_of v x in
    let rest : Traced = trace (after v k.effects) xs in
    elim (stays x) as (λ b.
    MatchBool b (Clear dirty (k.visits ++ touched k.effects) × StaysClear stays dirty rest) (StaysClear stays (touched k.effects ++ dirty) rest) →
    Goes w u (if b then x ∷ filter stays xs else filter stays xs)) [
      | true ↦ λ h.
          let same : k ≡ step_of w x = same_here dirty v w x a h.0 in
          let new : MakesNew w x = makes_new dirty v w x a h.0 n.0 in
          one_more w u x (filter stays xs) s (r.0 ∙ ap (λ m. m.reply) same) new
          (goes stays xs (after v k.effects) (after w (step_of w x).effects) (answer u x.op).1 dirty
          (subst (λ m. AgreeOff dirty (after v k.effects) (after w m.effects)) same (agree_after dirty v w k.effects a)) h.1 r.1 n.1
          (step_spells w u x.op x.fresh s new))
      | false ↦ λ h. goes stays xs (after v k.effects) w u (touched k.effects ++ dirty) (agree_dirty dirty v w k.effects a) h r.1 n.1 s
    ] c

-- ---- calls that no other client saw

stays_clear : (a b : ℕ → ℕ) (dirty : List ℕ) (xs : Traced) → ((c : ℕ) → a c ≤ b c) →
    Each (λ y. below b y.0 ≡ true → Clear dirty (y.1.visits ++ touched y.1.effects)) xs → Unseen a xs → AscendsAlong xs → StaysClear (below b) dirty xs
stays_clear a b dirty [] le h u r = tt
stays_clear a b dirty (x ∷ xs) le h u r =
    elim (cases_Bool (below b x.0)) [
      | inl e ↦ rw e (h.0 e, stays_clear a b dirty xs le h.1 u.1 r.1)
      | inr e ↦ rw e
          (stays_clear a b (touched x.1.effects ++ dirty) xs le
          (each-both (λ y. below b y.0 ≡ true → Clear dirty (y.1.visits ++ touched y.1.effects))
          (λ y. below b y.0 ≡ true → Clear (touched x.1.effects) (y.1.visits ++ touched y.1.effects))
          (λ y. below b y.0 ≡ true → Clear (touched x.1.effects ++ dirty) (y.1.visits ++ touched y.1.effects)) xs
          (λ y f g kept. clear-append (touched x.1.effects) dirty (y.1.visits ++ touched y.1.effects) (g kept) (f kept))
          h.1 (unseen_after a b x xs le e u.0 r.0))
          u.1 r.1)
    ]
  where
    -- what a call past its threshold changed, no call that stays visits or changes
    unseen_after : (a b : ℕ → ℕ) (x : NumberedCall × Step) (xs : Traced) → ((c : ℕ) → a c ≤ b c) → below b x.0 ≡ false →
        Each (λ y. a x.0.client ≤ x.0.number → (y.0.client ≡ x.0.client → ⊥) → Clear (touched x.1.effects) (y.1.visits ++ touched y.1.effects)) xs →
        Each (λ y. y.0.client ≡ x.0.client → x.0.number < y.0.number) xs →
        Each (λ y. below b y.0 ≡ true → Clear (touched x.1.effects) (y.1.visits ++ touched y.1.effects)) xs
    unseen_after a b x xs le e u r =
        let past : b x.0.client ≤ x.0.number = ltb-false x.0.number (b x.0.client) e in
        each-both (λ y. a x.0.client ≤ x.0.number → (y.0.client ≡ x.0.client → ⊥) → Clear (touched x.1.effects) (y.1.visits ++ touched y.1.effects))
        (λ y. y.0.client ≡ x.0.client → x.0.number < y.0.number)
        (λ y. below b y.0 ≡ true → Clear (touched x.1.effects) (y.1.visits ++ touched y.1.effects)) xs
        (λ y clear ascend kept.
        elim (cases_eq y.0.client x.0.client) [
          | inl same ↦
              let m : y.0.number < b x.0.client = subst (λ d. y.0.number < b d) same (ltb-true y.0.number (b y.0.client) kept) in
              absurd (omega (arith, ascend same, m, past))
          | inr other ↦ clear (omega (arith, le x.0.client, past)) other
        ])
        u r

unseen_stays : (v : Values) (a b : ℕ → ℕ) (xs : List NumberedCall) → NumbersAscend xs → Unseen a (trace v xs) → ((c : ℕ) → a c ≤ b c) →
    StaysClear (below b) [] (trace v xs)
unseen_stays v a b xs r u le = grind (arith, stays_clear, each-always, clear_nothing, ascends_along)

pub tails_trace : (v : Values) (a b : ℕ → ℕ) (xs : List NumberedCall) → NumbersAscend xs → Unseen a (trace v xs) → ((c : ℕ) → a c ≤ b c) →
    trace v (filter (below b) xs) ≡ filter (λ x. below b x.0) (trace v xs)
tails_trace v a b xs r u le = same_trace (below b) xs v v [] (λ i f. refl) (unseen_stays v a b xs r u le)

tails_go : (v : Values) (t : Tree) (a b : ℕ → ℕ) (xs : List NumberedCall) → Spells v t → AreAnswered t (exchanges xs) → NumbersAscend xs → AllMakeNew v xs →
    Unseen a (trace v xs) → ((c : ℕ) → a c ≤ b c) → Goes v t (filter (below b) xs)
tails_go v t a b xs s run r new u le = goes (below b) xs v v t [] (λ i f. refl) (unseen_stays v a b xs r u le) (replied v t xs s run new) new s

pub tails_run : (v : Values) (t : Tree) (a b : ℕ → ℕ) (xs : List NumberedCall) → Spells v t → AreAnswered t (exchanges xs) → NumbersAscend xs →
    AllMakeNew v xs →
    Unseen a (trace v xs) → ((c : ℕ) → a c ≤ b c) → AreAnswered t (exchanges (filter (below b) xs))
tails_run v t a b xs s run r new u le = (tails_go v t a b xs s run r new u le).run

pub tails_new : (v : Values) (t : Tree) (a b : ℕ → ℕ) (xs : List NumberedCall) → Spells v t → AreAnswered t (exchanges xs) → NumbersAscend xs →
    AllMakeNew v xs →
    Unseen a (trace v xs) → ((c : ℕ) → a c ≤ b c) → AllMakeNew v (filter (below b) xs)
tails_new v t a b xs s run r new u le = (tails_go v t a b xs s run r new u le).new

pub tails_spelled : (v : Values) (t : Tree) (a b : ℕ → ℕ) (xs : List NumberedCall) → Spells v t → AreAnswered t (exchanges xs) → NumbersAscend xs →
    AllMakeNew v xs →
    Unseen a (trace v xs) → ((c : ℕ) → a c ≤ b c) → Spells (values_after_calls v (filter (below b) xs)) (tree_after_calls t (ops (filter (below b) xs)))
tails_spelled v t a b xs s run r new u le = (tails_go v t a b xs s run r new u le).spelled
