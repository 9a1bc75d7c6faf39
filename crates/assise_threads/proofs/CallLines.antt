-- The lines of a stretch of calls, one after another.
use Rattle.assise_threads.proofs.Common.{◌≡◌, ◌∙◌, ℕ, suc, ◌+◌, Bool, true, false, List, [], ◌∷◌, ◌++◌, length, take, drop, get_or, ◌<◌, ◌≤◌, take_all}
use Rattle.assise_threads.proofs.Common.{drop-cons, Option, None, Some, Result, Ok, Err, refl, sym, ap, ap₂, subst, arith, append_assoc, append-nil}
use Rattle.assise_threads.proofs.Common.{length-append, ◌==◌, ◌⊎◌, inl, inr, flat_map-append, drop_all, map-append, take_more, IfSome, AllByRecursion, Appends}
use Rattle.assise_threads.proofs.Common.{Op, Refusal, BadClient, Reply, EntryValue, Command, Call, NumberedCommand, Machine, line_text, told_all, told-append}
use Rattle.assise_threads.proofs.Common.{AnswersCommand, is_replied, is_refused, IsSaid, Said, TellsClient, call_in, calls_in, commands_said, outcome_answer}
use Rattle.assise_threads.proofs.Common.{said_line, said_lines, AreCalls, AreCallsSaid, AreTold, HasAllOf, IsClientCall, IsCallSaid, TakesFirst, Untold}
use Rattle.assise_threads.proofs.Common.{next_or_none, outcomes_of}
use Rattle.assise_threads.proofs.SaidMore.{adds_more, adds_nothing, said-append}
use Rattle.assise_threads.proofs.Heard.{calls_more, calls_same, tells-append, tells_nothing}

-- a client that isn't there was told refusals alone so far; another was told the first of what came of its calls, and the rest is for its calls to come
abbrev pub LeavesToTell : ℕ → List Said → List NumberedCommand → Option (List (Result Reply Refusal)) → Option (List (Result Reply Refusal)) → Type 0
LeavesToTell c ss rest None None = AreTold c ss None
LeavesToTell c ss rest (Some all) (Some left) =
    (rs : List (Result Reply Refusal)) × (TellsClient c ss rs × ((rs ++ left ≡ all) × (length left ≡ length (calls_in c rest))))
LeavesToTell c ss rest _ _ = ⊥

-- the calls so far were said, and so much is left to tell of the rest
pub record AreSaidSoFar (turns : ℕ) (done rest : List NumberedCommand) (seen : Machine) (first now : Untold) (old new : Option (List ℕ)) : Type 0 where
  pub said : List Said
  pub each : commands_said said ≡ done
  pub main : IsSaid turns seen said seen
  pub appends : Appends old new (said_lines said)
  pub left : (c : ℕ) → LeavesToTell c said rest (outcomes_of c first) (outcomes_of c now)

-- ---- before the first

all_left : (c : ℕ) (stretch : List NumberedCommand) (first : Option (List (Result Reply Refusal))) →
    IfSome first (λ all. length all ≡ length (calls_in c stretch)) → LeavesToTell c [] stretch first first
all_left c stretch None h = ([], (refl, (refl, ((λ k. refl), tt))))
all_left c stretch (Some all) h = ([], (refl, (refl, h)))

pub none_said : (turns : ℕ) (stretch : List NumberedCommand) (seen : Machine) (first : Untold) (old : Option (List ℕ)) → HasAllOf stretch first →
    AreSaidSoFar turns [] stretch seen first first old old
none_said turns stretch seen first old all = record {
  said = [];
  each = refl;
  main = refl;
  appends = adds_nothing old;
  left = λ c. all_left c stretch (outcomes_of c first) (all c);
}

-- ---- one more

abbrev said_now : NumberedCommand → Machine → Option (Result Reply Refusal) → Said
said_now l seen outcome = record { command = l; answer = outcome_answer (next_or_none outcome); machine = seen }

is_answered : (turns : ℕ) (command : Command) (seen : Machine) (r : Result Reply Refusal) → IsClientCall command →
    AnswersCommand turns command (outcome_answer r) seen seen
is_answered turns (Call c op) seen (Ok reply) is = is_replied reply refl refl
is_answered turns (Call c op) seen (Err refusal) is = is_refused refusal refl refl
is_answered turns _ seen r is = absurd is

line_same : (n : ℕ) (h : List EntryValue) (r : Result Reply Refusal) → line_text n [] (outcome_answer r) ≡ line_text n h (outcome_answer r)
line_same n h (Ok reply) = refl
line_same n h (Err refusal) = refl

-- a command is no call of the client, or one
pub one_or_none : (c : ℕ) (command : Command) → (call_in c command ≡ []) ⊎ ((op : Op) × (call_in c command ≡ op ∷ []))
one_or_none c (Call d op) = by_case (d == c) refl
  where
    by_case : (b : Bool) → (d == c) ≡ b → (call_in c (Call d op) ≡ []) ⊎ ((o : Op) × (call_in c (Call d op) ≡ o ∷ []))
    by_case true is = inr (op, rw is refl)
    by_case false is = inl (rw is refl)
one_or_none c _ = inl refl

all-bad : (rs : List (Result Reply Refusal)) (r : Result Reply Refusal) → AllByRecursion (λ x. x ≡ Err BadClient) rs → r ≡ Err BadClient →
    AllByRecursion (λ x. x ≡ Err BadClient) (rs ++ r ∷ [])
all-bad [] r bad is = (is, tt)
all-bad (x ∷ rs) r (first, rest) is = (first, all-bad rs r rest is)

module _ (c : ℕ) (ss : List Said) (l : NumberedCommand) (seen : Machine) (outcome : Option (Result Reply Refusal)) where
  abbrev s : Said
  s = said_now l seen outcome

  -- a line that is one tells it the outcome
  tells-one : (rs : List (Result Reply Refusal)) (op : Op) → call_in c l.command ≡ op ∷ [] → TellsClient c ss rs →
      TellsClient c (ss ++ s ∷ []) (rs ++ next_or_none outcome ∷ [])
  tells-one rs op one tells = let r =
      next_or_none outcome in tells-append c ss (s ∷ []) rs (r ∷ []) tells (r ∷ [], ([], (rw one (r, (refl, refl)), (refl, refl))))

  passes-by : (rest : List NumberedCommand) (first now : Option (List (Result Reply Refusal))) → call_in c l.command ≡ [] →
      LeavesToTell c ss (l ∷ rest) first now → LeavesToTell c (ss ++ s ∷ []) rest first now
  passes-by rest None None none (rs, (tells, (count, (nothing, bad)))) =
      let same = calls_same c ss s none in
      (rs, (tells_nothing c ss s rs none tells, (count ∙ ap length (sym same), ((λ k. ap (λ z. told_all c k z rs) same ∙ nothing k), bad))))
  passes-by rest (Some all) (Some left) none (rs, (tells, (is, count))) =
      (rs, (tells_nothing c ss s rs none tells, (is, count ∙ ap (λ z. length (z ++ calls_in c rest)) none)))
  passes-by rest _ _ none e = absurd e

  is-told : (rest : List NumberedCommand) (first now later : Option (List (Result Reply Refusal))) (op : Op) → call_in c l.command ≡ op ∷ [] →
      TakesFirst now outcome later → LeavesToTell c ss (l ∷ rest) first now
      → LeavesToTell c (ss ++ s ∷ []) rest first later
  is-told rest None None later op one (is, gone) (rs, (tells, (count, (nothing, bad)))) = rw gone (
    rs ++ next_or_none outcome ∷ [],
    (
      tells-one rs op one tells,
      (
        omega (
          arith,
          count,
          ap length (calls_more c ss s),
          ap length one,
          length-append rs (next_or_none outcome ∷ []),
          length-append (calls_in c (commands_said ss)) (call_in c l.command),
        ),
        ((λ k. refused-too k), all-bad rs (next_or_none outcome) bad (ap next_or_none is)),
      ),
    ),
  )
    where
      refused-too : (k : ℕ) → told_all c k (calls_in c (commands_said (ss ++ s ∷ []))) (rs ++ next_or_none outcome ∷ []) ≡ []
      refused-too k =
          ap (λ z. told_all c k z (rs ++ next_or_none outcome ∷ [])) (calls_more c ss s ∙ ap (λ z. calls_in c (commands_said ss) ++ z) one)
          ∙ (told-append c k (calls_in c (commands_said ss)) rs (op ∷ []) (next_or_none outcome ∷ []) count
          ∙ ap₂ (λ x y. x ++ y) (nothing k)
          (ap (λ o. told_all c (k + length (told_all c k (calls_in c (commands_said ss)) rs)) (op ∷ []) (next_or_none o ∷ [])) is))
  is-told rest (Some all) (Some []) later op one takes (rs, (tells, (is, count))) =
      absurd (let n : 0 ≡ suc (length (calls_in c rest)) = count ∙ ap (λ z. length (z ++ calls_in c rest)) one in omega arith)
  is-told rest (Some all) (Some (x ∷ xs)) later op one (is, gone) (rs, (tells, (whole, count))) = rw gone (
    rs ++ next_or_none outcome ∷ [],
    (
      tells-one rs op one tells,
      (
        append_assoc rs (next_or_none outcome ∷ []) xs ∙ (ap (λ o. rs ++ next_or_none o ∷ xs) is ∙ whole),
        (let n : suc (length xs) ≡ suc (length (calls_in c rest)) = count ∙ ap (λ z. length (z ++ calls_in c rest)) one in omega arith),
      ),
    ),
  )
  is-told rest _ _ later op one takes e = absurd e

module _ (done rest : List NumberedCommand) (l : NumberedCommand) (seen : Machine) (first now later : Untold) (old mid new : Option (List ℕ)) where
  goes_on : (c : ℕ) (ss : List Said) (is : IsCallSaid l now later mid new) → LeavesToTell c ss (l ∷ rest) (outcomes_of c first) (outcomes_of c now)
      → LeavesToTell c (ss ++ said_now l seen is.outcome ∷ []) rest (outcomes_of c first) (outcomes_of c later)
  goes_on c ss is left = by_case (one_or_none c l.command)
    where
      by_case : (call_in c l.command ≡ []) ⊎ ((op : Op) × (call_in c l.command ≡ op ∷ [])) → LeavesToTell c (ss ++ said_now l seen is.outcome ∷ []) rest
          (outcomes_of c first) (outcomes_of c later)
      by_case (inl none) = passes-by c ss l seen is.outcome rest (outcomes_of c first) (outcomes_of c later) none
          (subst (LeavesToTell c ss (l ∷ rest) (outcomes_of c first)) (sym (is.others c none)) left)
      by_case (inr (op, one)) = is-told c ss l seen is.outcome rest (outcomes_of c first) (outcomes_of c now) (outcomes_of c later) op one (is.next c op one)
          left

  said_next : (turns : ℕ) → AreSaidSoFar turns done (l ∷ rest) seen first now old mid → IsClientCall l.command → IsCallSaid l now later mid new →
      AreSaidSoFar turns (done ++ l ∷ []) rest seen first later old new
  said_next turns before call is =
      let s = said_now l seen is.outcome in
      let line : line_text l.line [] (outcome_answer (next_or_none is.outcome)) ≡ said_lines (s ∷ []) = line_same l.line seen.history (next_or_none is.outcome)
      ∙ sym (append-nil (said_line s)) in
      record {
        said = before.said ++ s ∷ [];
        each = map-append (λ x. x.command) before.said (s ∷ []) ∙ ap (λ z. z ++ l ∷ []) before.each;
        main = said-append turns seen seen seen before.said (s ∷ []) before.main (is_answered turns l.command seen (next_or_none is.outcome) call, refl);
        appends = subst (Appends old new) (ap (λ z. said_lines before.said ++ z) line ∙ sym (flat_map-append said_line before.said (s ∷ [])))
            (adds_more old mid new (said_lines before.said) (line_text l.line [] (outcome_answer (next_or_none is.outcome))) before.appends is.appends);
        left = λ c. goes_on c before.said is (before.left c);
      }

-- ---- one more of a stretch

module _ (stretch : List NumberedCommand) (i : ℕ) (l : NumberedCommand) (within : i < length stretch) (is : l ≡ get_or stretch i l) where
  left_is : drop i stretch ≡ l ∷ drop (i + 1) stretch
  left_is = let next : suc i ≡ i + 1 = omega arith in drop-cons stretch i l within ∙ ap₂ (λ (x : NumberedCommand) (n : ℕ). x ∷ drop n stretch) (sym is) next

  pub calls_left : AreCalls (drop i stretch) → IsClientCall l.command × AreCalls (drop (i + 1) stretch)
  calls_left calls = subst AreCalls left_is calls

  pub line_said : (turns : ℕ) (seen : Machine) (first now later : Untold) (old mid new : Option (List ℕ)) → AreSaidSoFar turns (take i stretch) (drop i stretch)
      seen first now old mid → IsClientCall l.command → IsCallSaid l now later mid new
      → AreSaidSoFar turns (take (i + 1) stretch) (drop (i + 1) stretch) seen first later old new
  line_said turns seen first now later old mid new before call one =
      subst (λ z. AreSaidSoFar turns z (drop (i + 1) stretch) seen first later old new)
      (ap (λ x. take i stretch ++ x ∷ []) is ∙ sym (take_more stretch i l within))
      (said_next (take i stretch) (drop (i + 1) stretch) l seen first now later old mid new turns
      (subst (λ z. AreSaidSoFar turns (take i stretch) z seen first now old mid) left_is before) call one)

-- ---- behind the last

nothing_left : (c : ℕ) (ss : List Said) (first now : Option (List (Result Reply Refusal))) → LeavesToTell c ss [] first now → AreTold c ss first
nothing_left c ss None None told = told
nothing_left c ss (Some all) (Some []) (rs, (tells, (is, count))) = subst (TellsClient c ss) (sym (append-nil rs) ∙ is) tells
nothing_left c ss (Some all) (Some (x ∷ xs)) (rs, (tells, (is, count))) = absurd (let n : suc (length xs) ≡ 0 = count in omega arith)
nothing_left c ss _ _ e = absurd e

all_said : (turns : ℕ) (stretch : List NumberedCommand) (seen : Machine) (first now : Untold) (old new : Option (List ℕ)) →
    AreSaidSoFar turns stretch [] seen first now old new → AreCallsSaid turns stretch seen first old new
all_said turns stretch seen first now old new so_far = record {
  said = so_far.said;
  each = so_far.each;
  main = so_far.main;
  appends = so_far.appends;
  told = λ c. nothing_left c so_far.said (outcomes_of c first) (outcomes_of c now) (so_far.left c);
}

pub stretch_said : (turns : ℕ) (stretch : List NumberedCommand) (i : ℕ) (seen : Machine) (first now : Untold) (old new : Option (List ℕ)) → length stretch ≤ i →
    AreSaidSoFar turns (take i stretch) (drop i stretch) seen first now old new
    → AreCallsSaid turns stretch seen first old new
stretch_said turns stretch i seen first now old new done so_far =
    all_said turns stretch seen first now old new
    (subst (λ z. AreSaidSoFar turns z [] seen first now old new) (take_all i stretch done)
    (subst (λ z. AreSaidSoFar turns (take i stretch) z seen first now old new) (drop_all i stretch done) so_far))
