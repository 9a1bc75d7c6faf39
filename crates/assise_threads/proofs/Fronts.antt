-- What a client hears of a stretch of calls, or of one other line, goes on from front to front of the history.
use Rattle.assise_threads.proofs.Common.{◌≡◌, ◌≢◌, ◌∙◌, ℕ, ◌+◌, ◌<◌, ◌≤◌, Bool, true, false, List, [], ◌∷◌, ◌++◌, Option, None, Some, Result, Err, refl, sym}
use Rattle.assise_threads.proofs.Common.{ap, subst, arith, ◌==◌, if◌then◌else◌, ◌⊎◌, inl, inr, AllByRecursion, IfSome, ∥∥₁_elim, eqb_tells, Op, Durability}
use Rattle.assise_threads.proofs.Common.{Refusal, BadClient, Reply, EntryValue, opens, calls, IsLegal, Extends, openings, opened-in, openings-append, Command}
use Rattle.assise_threads.proofs.Common.{Call, Response, EndsWithOpening, AreCallsMade, TurnedThere, HearsLine, HearsOn, HearsOpening, IsOpenedThen}
use Rattle.assise_threads.proofs.Common.{HearsStretch, sight_of, Sights, opening_in, openings_said, with_opened, Said, TellsCall, TellsClient, call_in}
use Rattle.assise_threads.proofs.Common.{calls_in, commands_said, outcome_answer, AreCalls, IsClientCall}
use Rattle.std.proofs.Math.Bridge.{le_prop}
use Rattle.std.proofs.Common.{eq-eqb}
use Rattle.assise_history.proofs.Shared.ClientCounts.{opens_once}
use Rattle.assise_threads.proofs.FirstOf.{first-skips}
use Rattle.assise_threads.proofs.CallLines.{one_or_none}

-- ---- a stretch of calls

no_opening : (command : Command) (a : Response) → IsClientCall command → opening_in command a ≡ []
no_opening (Call c op) a is = refl
no_opening _ a is = absurd is

pub calls_open_none : (ss : List Said) → AreCalls (commands_said ss) → openings_said ss ≡ []
calls_open_none [] are = refl
calls_open_none (s ∷ ss) (first, rest) = rw (no_opening s.command.command s.answer first) (calls_open_none ss rest)

passes : (turns c : ℕ) (s : Said) (p : Option (List EntryValue)) → IsClientCall s.command.command → call_in c s.command.command ≡ [] →
    HearsLine turns c s (call_in c s.command.command) p p
passes turns c s p is none = rw (none, no_opening s.command.command s.answer is) refl

module _ (turns c : ℕ) (s : Said) (ss : List Said) (is_call : IsClientCall s.command.command) where
  none_hears : (now later rs : List (Result Reply Refusal)) → TellsCall (call_in c s.command.command) s.answer now → rs ≡ now ++ later →
      AllByRecursion (λ r. r ≡ Err BadClient) rs
      → (AllByRecursion (λ r. r ≡ Err BadClient) later → HearsOn turns c None ss None) → HearsOn turns c None (s ∷ ss) None
  none_hears now later rs first is bad rest = by_case (one_or_none c s.command.command)
    where
      by_case : (call_in c s.command.command ≡ []) ⊎ ((op : Op) × (call_in c s.command.command ≡ op ∷ [])) → HearsOn turns c None (s ∷ ss) None
      by_case (inl none) =
          let told : now ≡ [] = subst (λ z. TellsCall z s.answer now) none first in
          let same : rs ≡ later = is ∙ ap (λ z. z ++ later) told in
          (None, (passes turns c s None is_call none, rest (subst (AllByRecursion (λ r. r ≡ Err BadClient)) same bad)))
      by_case (inr (op, one)) =
          let told = subst (λ z. TellsCall z s.answer now) one first in
          let same : rs ≡ told.0 ∷ later = is ∙ ap (λ z. z ++ later) told.1.1 in
          let all = subst (AllByRecursion (λ r. r ≡ Err BadClient)) same bad in
          (None, (subst (λ z. HearsLine turns c s z None None) (sym one) (told.1.0 ∙ ap outcome_answer all.0, refl), rest all.1))

  some_hears : (now later rs : List (Result Reply Refusal)) (old new : List EntryValue) → TellsCall (call_in c s.command.command) s.answer now →
      rs ≡ now ++ later → AreCallsMade (TurnedThere turns) c (call_in c s.command.command ++ calls_in c (commands_said ss)) old rs new
      → ((mid : List EntryValue) → AreCallsMade (TurnedThere turns) c (calls_in c (commands_said ss)) mid later new → HearsOn turns c (Some mid) ss (Some new))
      → HearsOn turns c (Some old) (s ∷ ss) (Some new)
  some_hears now later rs old new first is made rest = by_case (one_or_none c s.command.command)
    where
      by_case : (call_in c s.command.command ≡ []) ⊎ ((op : Op) × (call_in c s.command.command ≡ op ∷ [])) → HearsOn turns c (Some old) (s ∷ ss) (Some new)
      by_case (inl none) =
          let told : now ≡ [] = subst (λ z. TellsCall z s.answer now) none first in
          let same : rs ≡ later = is ∙ ap (λ z. z ++ later) told in
          let left = subst (λ z. AreCallsMade (TurnedThere turns) c (z ++ calls_in c (commands_said ss)) old rs new) none made in (
            Some old,
            (
              passes turns c s (Some old) is_call none,
              rest old (subst (λ z. AreCallsMade (TurnedThere turns) c (calls_in c (commands_said ss)) old z new) same left),
            ),
          )
      by_case (inr (op, one)) =
          let told = subst (λ z. TellsCall z s.answer now) one first in
          let same : rs ≡ told.0 ∷ later = is ∙ ap (λ z. z ++ later) told.1.1 in
          let left = subst (λ z. AreCallsMade (TurnedThere turns) c (z ++ calls_in c (commands_said ss)) old rs new) one made in
          let all = subst (λ z. AreCallsMade (TurnedThere turns) c (op ∷ calls_in c (commands_said ss)) old z new) same left in (
            Some all.0,
            (
              subst (λ z. HearsLine turns c s z (Some old) (Some all.0)) (sym one) (told.0, (told.1.0, (all.0, (all.1.0, refl)))),
              rest all.0 all.1.1,
            ),
          )

none_hear : (turns c : ℕ) (ss : List Said) (rs : List (Result Reply Refusal)) → AreCalls (commands_said ss) → TellsClient c ss rs →
    AllByRecursion (λ r. r ≡ Err BadClient) rs → HearsOn turns c None ss None
none_hear turns c [] rs are tells bad = refl
none_hear turns c (s ∷ ss) rs (is_call, are) (now, (later, (first, (rest, is)))) bad =
    none_hears turns c s ss is_call now later rs first is bad (λ b. none_hear turns c ss later are rest b)

some_hear : (turns c : ℕ) (ss : List Said) (rs : List (Result Reply Refusal)) (old new : List EntryValue) → AreCalls (commands_said ss) → TellsClient c ss rs →
    AreCallsMade (TurnedThere turns) c (calls_in c (commands_said ss)) old rs new → HearsOn turns c (Some old) ss (Some new)
some_hear turns c [] rs old new are tells made = ap Some (subst (λ z. AreCallsMade (TurnedThere turns) c [] old z new) tells made)
some_hear turns c (s ∷ ss) rs old new (is_call, are) (now, (later, (first, (rest, is)))) made =
    some_hears turns c s ss is_call now later rs old new first is made (λ m b. some_hear turns c ss later m new are rest b)

pub hears_on : (turns c : ℕ) (ss : List Said) (p q : Option (List EntryValue)) → AreCalls (commands_said ss) → HearsStretch turns c ss p q →
    HearsOn turns c p ss q
hears_on turns c ss None None are (rs, (tells, (count, (none, bad)))) = none_hear turns c ss rs are tells bad
hears_on turns c ss (Some old) (Some new) are (rs, (tells, sees)) = some_hear turns c ss rs old new are tells sees.each
hears_on turns c ss _ _ are e = absurd e

-- ---- a client more

last_is : (c d : ℕ) (h : List EntryValue) (xs : Sights) → (d == c) ≡ true → sight_of c xs ≡ None → sight_of c (xs ++ (d, h) ∷ []) ≡ Some h
last_is c d h [] is none = ap (λ b. if b then Some h else None) is
last_is c d h (x ∷ xs) is none = first-skips (x.0 == c) x.1 (sight_of c xs) (sight_of c (xs ++ (d, h) ∷ [])) (Some h) none (λ e. last_is c d h xs is e)

last_isnt : (c d : ℕ) (h : List EntryValue) (xs : Sights) → (d == c) ≡ false → sight_of c (xs ++ (d, h) ∷ []) ≡ sight_of c xs
last_isnt c d h [] is = ap (λ b. if b then Some h else None) is
last_isnt c d h (x ∷ xs) is = ap (λ z. if x.0 == c then Some x.1 else z) (last_isnt c d h xs is)

-- who is opened wasn't there
abbrev pub AreNew : Sights → List EntryValue → Type 0
AreNew us (opens d n u ∷ es) = sight_of d us ≡ None
AreNew us _ = Unit {0}

opening_hears : (c : ℕ) (os h : List EntryValue) (us : Sights) → AreNew us os → HearsOpening c os h (sight_of c us) (sight_of c (with_opened us h os))
opening_hears c (opens d n u ∷ es) h us new = by_case (eqb_tells d c)
  where
    goal-at : Bool → Type 0
    goal-at b = IsOpenedThen b h (sight_of c us) (sight_of c (us ++ (d, h) ∷ []))

    by_case : (((d == c) ≡ true) × (d ≡ c)) ⊎ (((d == c) ≡ false) × (d ≢ c)) → goal-at (d == c)
    by_case (inl (is, same)) = let none : sight_of c us ≡ None =
        subst (λ n. sight_of n us ≡ None) same new in subst goal-at (sym is) (none, last_is c d h us is none)
    by_case (inr (is, other)) = subst goal-at (sym is) (last_isnt c d h us is)
opening_hears c _ h us new = refl

pub one_hears : (turns c : ℕ) (s : Said) (earlier later : Sights) → call_in c s.command.command ≡ [] →
    later ≡ with_opened earlier s.machine.history (opening_in s.command.command s.answer) → AreNew earlier (opening_in s.command.command s.answer)
    → HearsOn turns c (sight_of c earlier) (s ∷ []) (sight_of c later)
one_hears turns c s earlier later none is new = (
  sight_of c later,
  (
    subst (λ z. HearsLine turns c s z (sight_of c earlier) (sight_of c later)) (sym none)
        (subst (λ z. HearsOpening c (opening_in s.command.command s.answer) s.machine.history (sight_of c earlier) (sight_of c z)) (sym is)
        (opening_hears c (opening_in s.command.command s.answer) s.machine.history earlier new)),
    refl,
  ),
)

-- ---- clients were opened in what is seen

abbrev pub AreKnown : Sights → List EntryValue → Type 0
AreKnown us seen = (c : ℕ) → IfSome (sight_of c us) (λ h. 0 < openings c seen)

known_on : (c : ℕ) (x : Option (List EntryValue)) (old new : List EntryValue) → Extends new old → IfSome x (λ h. 0 < openings c old) →
    IfSome x (λ h. 0 < openings c new)
known_on c None old new more known = tt
known_on c (Some h) old new more known = opened-in c new old more known

known_anyway : (c : ℕ) (x : Option (List EntryValue)) (seen : List EntryValue) → 0 < openings c seen → IfSome x (λ h. 0 < openings c seen)
known_anyway c None seen some_opening = tt
known_anyway c (Some h) seen some_opening = some_opening

pub known_then : (turns c : ℕ) (ss : List Said) (x y : Option (List EntryValue)) (seen : List EntryValue) → HearsStretch turns c ss x y →
    IfSome x (λ h. 0 < openings c seen) → IfSome y (λ h. 0 < openings c seen)
known_then turns c ss None None seen hears known = tt
known_then turns c ss (Some old) (Some new) seen hears known = known
known_then turns c ss _ _ seen hears known = absurd hears

-- what is seen ends with these openings, each of a client of its own
abbrev pub EndsWith : List EntryValue → List EntryValue → List EntryValue → Type 0
EndsWith (opens d n u ∷ es) old new = EndsWithOpening d n u old new × ∥ IsLegal new ∥₁
EndsWith _ old new = Unit {0}

module _ (d n : ℕ) (u : Durability) (old new : List EntryValue) (last : EndsWithOpening d n u old new) where
  opening_counts : openings d (opens d n u ∷ []) ≡ 1
  opening_counts = rw (eq-eqb d d refl) refl

  counts : openings d new ≡ openings d old + openings d last.0 + 1
  counts =
      omega (arith, openings-append d (old ++ last.0) (opens d n u ∷ []), openings-append d old last.0, ap (openings d) last.1, opening_counts)

  opened_now : 0 < openings d new
  opened_now = let e = counts in omega (arith, e)

  wasnt_opened : ∥ IsLegal new ∥₁ → openings d old ≤ 0
  wasnt_opened legal = ∥∥₁_elim legal le_prop (λ l. let once = opens_once new l d in let e = counts in omega (arith, once, e))

is_none : (d : ℕ) (x : Option (List EntryValue)) (old : List EntryValue) → openings d old ≤ 0 → IfSome x (λ h. 0 < openings d old) → x ≡ None
is_none d None old few known = refl
is_none d (Some h) old few known = absurd (omega (arith, few, known))

pub are_new : (us : Sights) (os old new : List EntryValue) → AreKnown us old → EndsWith os old new → AreNew us os
are_new us (opens d n u ∷ es) old new known (last, legal) = is_none d (sight_of d us) old (wasnt_opened d n u old new last legal) (known d)
are_new us _ old new known ends = tt

pub known_one : (us : Sights) (os old new : List EntryValue) → Extends new old → AreKnown us old → EndsWith os old new → AreKnown (with_opened us new os) new
known_one us (opens d n u ∷ es) old new more known (last, legal) = λ c. by_case c (eqb_tells d c)
  where
    by_case : (c : ℕ) → (((d == c) ≡ true) × (d ≡ c)) ⊎ (((d == c) ≡ false) × (d ≢ c)) → IfSome (sight_of c (us ++ (d, new) ∷ [])) (λ h. 0 < openings c new)
    by_case c (inl (is, same)) = known_anyway c (sight_of c (us ++ (d, new) ∷ [])) new (subst (λ k. 0 < openings k new) same (opened_now d n u old new last))
    by_case c (inr (is, other)) =
        subst (λ z. IfSome z (λ h. 0 < openings c new)) (sym (last_isnt c d new us is)) (known_on c (sight_of c us) old new more (known c))
known_one us _ old new more known ends = λ c. known_on c (sight_of c us) old new more (known c)
