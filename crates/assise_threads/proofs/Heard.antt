-- What clients have heard so far goes on with a stretch of calls, or with a command that is no call.
use Rattle.assise_threads.proofs.Common.{◌≡◌, ◌∙◌, ℕ, ◌+◌, Bool, true, false, List, [], ◌∷◌, ◌++◌, length, Option, None, Some, Result, refl, sym, ap, ap₂}
use Rattle.assise_threads.proofs.Common.{subst, arith, append_assoc, append-nil, length-append, ◌==◌, if◌then◌else◌, flat_map-append, map-append, cond_both}
use Rattle.assise_threads.proofs.Common.{eqb-true, Op, Refusal, Reply, EntryValue, opens, calls, calls_by, Command, Call, told_all, told-append, Said}
use Rattle.assise_threads.proofs.Common.{TellsClient, call_in, calls_in, commands_said, HearsOn, Sights, opening_in, with_opened, IsClientCall, HasHeard}
use Rattle.assise_threads.proofs.Common.{HearsStretch, calls_of_sight, sight_of}

pub commands-append : (ss ts : List Said) → commands_said (ss ++ ts) ≡ commands_said ss ++ commands_said ts
commands-append ss ts = map-append (λ s. s.command) ss ts

calls-said-append : (c : ℕ) (ss ts : List Said) → calls_in c (commands_said (ss ++ ts)) ≡ calls_in c (commands_said ss) ++ calls_in c (commands_said ts)
calls-said-append c ss ts = ap (calls_in c) (commands-append ss ts) ∙ flat_map-append (λ l. call_in c l.command) (commands_said ss) (commands_said ts)

pub tells-append : (c : ℕ) (ss ts : List Said) (rs came : List (Result Reply Refusal)) → TellsClient c ss rs → TellsClient c ts came →
    TellsClient c (ss ++ ts) (rs ++ came)
tells-append c [] ts rs came none more = subst (λ z. TellsClient c ts (z ++ came)) (sym none) more
tells-append c (s ∷ ss) ts rs came (now, (later, (first, (rest, is)))) more =
    (now, (later ++ came, (first, (tells-append c ss ts later came rest more, ap (λ z. z ++ came) is ∙ append_assoc now later came))))

pub on-append : (turns c : ℕ) (p : Option (List EntryValue)) (ss : List Said) (q : Option (List EntryValue)) (ts : List Said) (r : Option (List EntryValue)) →
    HearsOn turns c p ss q → HearsOn turns c q ts r → HearsOn turns c p (ss ++ ts) r
on-append turns c p [] q ts r same more = subst (λ z. HearsOn turns c z ts r) same more
on-append turns c p (s ∷ ss) q ts r (mid, (line, rest)) more = (mid, (line, on-append turns c mid ss q ts r rest more))

-- ---- a stretch of calls

module _ (c : ℕ) (ss ts : List Said) where
  abbrev before : List Op
  before = calls_in c (commands_said ss)

  abbrev behind : List Op
  behind = calls_in c (commands_said ts)

  counts : (rs came : List (Result Reply Refusal)) → length rs ≡ length before → length came ≡ length behind →
      length (rs ++ came) ≡ length (calls_in c (commands_said (ss ++ ts)))
  counts rs came some more = omega (arith, some, more, length-append rs came, length-append before behind, ap length (calls-said-append c ss ts))

  goes-on : (rs came : List (Result Reply Refusal)) → length rs ≡ length before
      → told_all c 0 before rs ++ told_all c (length (told_all c 0 before rs)) behind came ≡ told_all c 0 (calls_in c (commands_said (ss ++ ts))) (rs ++ came)
  goes-on rs came some =
      let so_far = length (told_all c 0 before rs) in
      let at : so_far ≡ 0 + so_far = omega arith in
      ap (λ (k : ℕ). told_all c 0 before rs ++ told_all c k behind came) at ∙ sym (told-append c 0 before rs behind came some)
      ∙ ap (λ z. told_all c 0 z (rs ++ came)) (sym (calls-said-append c ss ts))

  pub heard_then : (turns : ℕ) (sight now : Option (List EntryValue)) → HasHeard turns c ss sight → HearsStretch turns c ts sight now →
      HearsOn turns c sight ts now → HasHeard turns c (ss ++ ts) now
  heard_then turns None None h (came, (tells, (count, (none, bad)))) on = record {
    outcomes = h.outcomes ++ came;
    count = counts h.outcomes came h.count count;
    tells = tells-append c ss ts h.outcomes came h.tells tells;
    calls = ap₂ (λ x y. x ++ y) h.calls (sym (none (length (told_all c 0 before h.outcomes)))) ∙ goes-on h.outcomes came h.count;
    on = on-append turns c None ss None ts None h.on on;
  }
  heard_then turns (Some old) (Some new) h (came, (tells, sees)) on =
      let told : told_all c (length (calls_by c old)) behind came ≡ told_all c (length (told_all c 0 before h.outcomes)) behind came =
      ap (λ (z : List EntryValue). told_all c (length z) behind came) h.calls in record {
        outcomes = h.outcomes ++ came;
        count = counts h.outcomes came h.count sees.count;
        tells = tells-append c ss ts h.outcomes came h.tells tells;
        calls = sees.told ∙ (ap₂ (λ x y. x ++ y) h.calls told ∙ goes-on h.outcomes came h.count);
        on = on-append turns c None ss (Some old) ts (Some new) h.on on;
      }
  heard_then turns _ _ h e on = absurd e

-- ---- a command that is no call

pub no_call : (c : ℕ) (command : Command) → (IsClientCall command → ⊥) → call_in c command ≡ []
no_call c (Call d op) none = absurd (none tt)
no_call c _ none = refl

-- what is seen of client c of the first client's or, where that has another number, of those behind it
first_keeps : (c : ℕ) (b : Bool) (h : List EntryValue) (u v : Option (List EntryValue)) → calls_of_sight c v ≡ calls_of_sight c u →
    calls_of_sight c (if b then Some h else v) ≡ calls_of_sight c (if b then Some h else u)
first_keeps c true h u v same = refl
first_keeps c false h u v same = same

-- a client that comes last made no call
last_made_none : (c d : ℕ) (h : List EntryValue) (xs : List (ℕ × List EntryValue)) → calls_by d h ≡ [] → calls_of_sight c (sight_of c (xs ++ (d, h) ∷ []))
    ≡ calls_of_sight c (sight_of c xs)
last_made_none c d h [] none =
    cond_both (d == c) (Some h) None (λ o. calls_of_sight c o ≡ []) (λ is. subst (λ n. calls_by n h ≡ []) (eqb-true d c is) none) (λ is. refl)
last_made_none c d h (x ∷ xs) none = first_keeps c (x.0 == c) x.1 (sight_of c xs) (sight_of c (xs ++ (d, h) ∷ [])) (last_made_none c d h xs none)

-- who is opened made no call
abbrev pub MadeNone : List EntryValue → List EntryValue → Type 0
MadeNone (opens d n u ∷ es) h = calls_by d h ≡ []
MadeNone _ h = Unit {0}

calls_stay : (c : ℕ) (us : Sights) (h os : List EntryValue) → MadeNone os h → calls_of_sight c (sight_of c (with_opened us h os))
    ≡ calls_of_sight c (sight_of c us)
calls_stay c us h (opens d n u ∷ es) none = last_made_none c d h us none
calls_stay c us h _ none = refl

module _ (c : ℕ) (ss : List Said) (s : Said) where
  pub calls_more : calls_in c (commands_said (ss ++ s ∷ [])) ≡ calls_in c (commands_said ss) ++ call_in c s.command.command
  calls_more = calls-said-append c ss (s ∷ []) ∙ ap (λ z. calls_in c (commands_said ss) ++ z) (append-nil (call_in c s.command.command))

  -- it tells the client nothing
  pub tells_nothing : (rs : List (Result Reply Refusal)) → call_in c s.command.command ≡ [] → TellsClient c ss rs → TellsClient c (ss ++ s ∷ []) rs
  tells_nothing rs none tells =
      subst (TellsClient c (ss ++ s ∷ [])) (append-nil rs) (tells-append c ss (s ∷ []) rs [] tells ([], ([], (rw none refl, (refl, refl)))))

  pub calls_same : call_in c s.command.command ≡ [] → calls_in c (commands_said (ss ++ s ∷ [])) ≡ calls_in c (commands_said ss)
  calls_same none = calls_more ∙ (ap (λ z. calls_in c (commands_said ss) ++ z) none ∙ append-nil (calls_in c (commands_said ss)))

  pub heard_one : (turns : ℕ) (earlier later : Sights) → HasHeard turns c ss (sight_of c earlier) →
      later ≡ with_opened earlier s.machine.history (opening_in s.command.command s.answer) → MadeNone (opening_in s.command.command s.answer) s.machine.history
      → call_in c s.command.command ≡ [] → HearsOn turns c (sight_of c earlier) (s ∷ []) (sight_of c later) → HasHeard turns c (ss ++ s ∷ []) (sight_of c later)
  heard_one turns earlier later h is made none on = record {
    outcomes = h.outcomes;
    count = h.count ∙ ap length (sym (calls_same none));
    tells = tells_nothing h.outcomes none h.tells;
    calls = ap (λ z. calls_of_sight c (sight_of c z)) is
        ∙ (calls_stay c earlier s.machine.history (opening_in s.command.command s.answer) made
        ∙ (h.calls ∙ ap (λ z. told_all c 0 z h.outcomes) (sym (calls_same none))));
    on = on-append turns c None ss (sight_of c earlier) (s ∷ []) (sight_of c later) h.on on;
  }
