use Rattle.assise_console.proofs.Common.{◌≡◌, ◌∙◌, ◌<◌, ◌≤◌, ◌&&◌, ◌||◌, ap, subst, sym, refl, inl, inr, arith, zero, suc, ℕ, Bool, true, false, not, List, []}
use Rattle.assise_console.proofs.Common.{◌∷◌, length, map, codes, Option, Some, None, is_some, true≢false, slice_index, option_map, pos, list_all}
use Rattle.assise_console.proofs.Common.{slice_index_or, bytes_eq, get_or-map, length-map, err_from_is_err_and, bytes_eq-Decides, required_has_value}
use Rattle.assise_console.proofs.Common.{some_of_text, IsAuto, IsParsedFrom, IsPlain, args_of, least_values, unwrap_or_range, found_of, first_value, one_text}
use Rattle.assise_console.proofs.Common.{ReadsOne, IsSignedIn, Rule, Text, first_of, one_of, rule_of, HasKind, fault_of, is_simple_and_free, kind_of, takes}
use Rattle.assise_console.proofs.Common.{without_minus, Arg, Command, ArgMatches, faults_of, is_taken, number_written, program, reads_true, script_rule}
use Rattle.assise_console.proofs.Common.{threads_rule, turns_rule}
use Rattle.std.specs.Prelude.{Result}
use Rattle.std.specs.Str.Parse.{ParsesUnsigned, ExplainsUnsignedError, HasUnsignedDigitsIfOk}
use Rattle.std.specs.declared.num.ParseIntError.{ParseIntError}
use Rattle.clap.proofs.CallerReads.{signed_reads}
use Rattle.clap.proofs.OnLiterals.{clap_on_literals}
use Rattle.clap.proofs.SimpleLemmas.{is_false, ready_simple, simple_groups}
use Rattle.clap.proofs.TakesLemmas.{each_rule, free_arg}
use Rattle.clap.proofs.WalkLemmas.{both, first_value-rows, one_text-rows}
use Rattle.clap.specs.Simple.{App, IsSimple, app_of, is_ready, is_ready_leaf, is_simple, matches_of}
use Rattle.clap.specs.declared.builder.value_parser.ValueParser.TheVariants as vp
use Rattle.clap.specs.Texts.{items_of}
use Rattle.assise_console.proofs.Defaults.{default_read, parsed_read}
use Rattle.assise_console.proofs.options.options.Goals as goal

-- ---- a command with the program's rules

is_simple_program : is_simple program ≡ true
unfolding clap_on_literals
is_simple_program = refl

is_free_program : is_simple_and_free program ≡ true
unfolding clap_on_literals
is_free_program = refl

simple : (c : Command) → app_of c ≡ program → IsSimple c
simple c is = ready_simple c (ap (λ (a : App). is_ready a.top) is) (ap (λ (a : App). list_all is_ready_leaf a.subs) is)

plain : (c : Command) → app_of c ≡ program → IsPlain c
plain c is =
    let facts = simple c is in
    let free = each_rule (λ r. r.is_free) (args_of c) (ap (λ (a : App). list_all (λ r. r.is_free) a.top.rules) is) in
    let no_groups = simple_groups c (ap (λ (a : App). list_all (λ r. r.is_simple) a.top.rules) is) in (
      λ k d lt.
          let a = free_arg (slice_index_or (args_of c) k d) (facts.args k d lt) (free k d lt) in
          (a.exclusive, a.conflicts, a.overrides, no_groups k d lt),
      facts.groups,
    )

rules_are : (c : Command) → app_of c ≡ program → map rule_of (args_of c) ≡ script_rule ∷ turns_rule ∷ threads_rule ∷ []
rules_are c is = ap (λ (a : App). a.top.rules) is

-- no argument but the k-th has the id
abbrev only_at : ℕ → Text → List Rule → Bool
only_at k id [] = true
only_at zero id (r ∷ rs) = list_all (λ r. not (bytes_eq r.id id)) rs
only_at (suc k) id (r ∷ rs) = not (bytes_eq r.id id) && only_at k id rs

none_has : (xs : List Arg) (id : Text) → list_all (λ r. not (bytes_eq r.id id)) (map rule_of xs) ≡ true
    → (j : ℕ) (e : Arg) → j < length xs → bytes_eq (slice_index_or xs j e).id.now id ≡ true → ⊥
none_has [] id h j e lt same = absurd (omega arith)
none_has (x ∷ xs) id h zero e lt same = true≢false (sym same ∙ is_false _ (both _ _ h).0)
none_has (x ∷ xs) id h (suc j) e lt same = none_has xs id (both _ _ h).1 j e (omega arith) same

only_place : (xs : List Arg) (k : ℕ) (id : Text) → only_at k id (map rule_of xs) ≡ true
    → (j : ℕ) (e : Arg) → j < length xs → bytes_eq (slice_index_or xs j e).id.now id ≡ true → j ≡ k
only_place [] k id h j e lt same = absurd (omega arith)
only_place (x ∷ xs) zero id h zero e lt same = refl
only_place (x ∷ xs) zero id h (suc j) e lt same = absurd (none_has xs id h j e (omega arith) same)
only_place (x ∷ xs) (suc k) id h zero e lt same = absurd (true≢false (sym same ∙ is_false _ (both _ _ h).0))
only_place (x ∷ xs) (suc k) id h (suc j) e lt same = ap suc (only_place xs k id (both _ _ h).1 j e (omega arith) same)

-- ---- what a parse finds

rule_at : (c : Command) → app_of c ≡ program → (k : ℕ) (d : Arg) → k < length (args_of c)
    → rule_of (slice_index_or (args_of c) k d) ≡ slice_index_or (script_rule ∷ turns_rule ∷ threads_rule ∷ []) k (rule_of d)
rule_at c is k d lt = sym (get_or-map rule_of (args_of c) k d (rule_of d) lt) ∙ ap (λ rules. slice_index_or rules k (rule_of d)) (rules_are c is)

three : (c : Command) → app_of c ≡ program → length (args_of c) ≡ 3
three c is = sym (length-map (args_of c) rule_of) ∙ ap length (rules_are c is)

not_empty : (first : ℕ) (rest t : Text) → t ≡ first ∷ rest → t ≡ [] → ⊥
not_empty first rest t is empty = cc

-- the id begins as neither `help` nor `version` does
not_auto : (a : Arg) (first : ℕ) → slice_index a.id.now 0 ≡ first → (first ≡ 104 → ⊥) → (first ≡ 118 → ⊥) → IsAuto a → ⊥
not_auto a first is help version (inl h) = help (sym is ∙ ap (λ t. slice_index t 0) h)
not_auto a first is help version (inr h) = version (sym is ∙ ap (λ t. slice_index t 0) h)

first_of_args : (args : List Arg) → 0 < length args → Arg
first_of_args [] some = absurd (omega arith)
first_of_args (x ∷ rest) some = x

-- a script
script_found : (c : Command) (m : ArgMatches) → app_of c ≡ program → IsParsedFrom c m
    → is_some (first_value (found_of m) (codes "SCRIPT")) ≡ true
script_found c m is p =
    let lt : 0 < length (args_of c) = rw (three c is) (omega arith) in
    let d = first_of_args (args_of c) lt in
    let a = slice_index_or (args_of c) 0 d in
    let rule : rule_of a ≡ script_rule = rule_at c is 0 d lt in
    let id : a.id.now ≡ codes "SCRIPT" = ap (λ (r : Rule). r.id) rule in
    let one : least_values a ≡ 1 = ap (λ (r : Rule). (unwrap_or_range r.range).start_inclusive) rule in
    let given = required_has_value c m p (plain c is) (simple c is).globals (ap (λ (b : App). b.top.subcommand_negates_reqs) is)
    0 d lt (ap (λ (r : Rule). r.required) rule) (ap (λ (r : Rule). r.action) rule) ((simple c is).args 0 d lt).delimiter
    (omega arith)
    (only_place (args_of c) 0 a.id.now (rw (id, rules_are c is) refl))
    (not_empty _ _ a.id.now id)
    (not_auto a 83 (ap (λ t. slice_index t 0) id) (λ e. absurd (omega arith)) (λ e. absurd (omega arith))) in
    subst (λ (t : Text). is_some (first_value (found_of m) t) ≡ true) id given

-- and a number of turns in its range
turns_found : (c : Command) (m : ArgMatches) → app_of c ≡ program → IsParsedFrom c m
    → (t : Text) × (one_text (found_of m) (codes "turns") ≡ Some (without_minus t)) × IsSignedIn (pos 1) (pos 1000000) t
turns_found c m is p =
    let lt : 1 < length (args_of c) = rw (three c is) (omega arith) in
    let d = first_of_args (args_of c) (omega arith) in
    let a = slice_index_or (args_of c) 1 d in
    let rule : rule_of a ≡ turns_rule = rule_at c is 1 d lt in
    let id : a.id.now ≡ codes "turns" = ap (λ (r : Rule). r.id) rule in
    let one : least_values a ≡ 1 = ap (λ (r : Rule). (unwrap_or_range r.range).start_inclusive) rule in
    let defaults : length (items_of a.default_vals) ≡ 1 = sym (length-map (items_of a.default_vals) (λ s. s.now)) ∙ ap (λ (r : Rule). length r.defaults) rule in
    let found = default_read c m p (plain c is) (simple c is).globals
    1 d lt (((simple c is).args 1 d lt).default_ifs, omega arith) (ap (λ (r : Rule). r.action) rule) ((simple c is).args 1 d lt).delimiter
    (omega arith)
    (only_place (args_of c) 1 a.id.now (rw (id, rules_are c is) refl))
    (not_empty _ _ a.id.now id)
    (not_auto a 116 (ap (λ t. slice_index t 0) id) (λ e. absurd (omega arith)) (λ e. absurd (omega arith)))
    (vp.Signed (pos 1) (pos 1000000)) (ap (λ (r : Rule). r.parser) rule) in
    (found.0, subst (λ (t : Text). one_text (found_of m) t ≡ Some (without_minus found.0)) id found.1, found.2)

abbrev Reads : Text → Result ℕ ParseIntError → Type 0
Reads text read = ParsesUnsigned 32 10 text read × ExplainsUnsignedError 10 text read × HasUnsignedDigitsIfOk text read

-- which is read as the number that its digits write
turns_read : (c : Command) (m : ArgMatches) (read : Option ℕ) → app_of c ≡ program → IsParsedFrom c m
    → ((t : Text) → one_text (found_of m) (codes "turns") ≡ Some t → ReadsOne Reads t read)
    → (n : ℕ) × (read ≡ Some n) × (1 ≤ n) × (n ≤ 1000000) × (option_map number_written (one_text (found_of m) (codes "turns")) ≡ Some n)
turns_read c m read is p reads =
    let found = turns_found c m is p in
    let one = reads (without_minus found.0) found.1 in
    let got = signed_reads ParseIntError Reads 32 1 1000000 found.0 read one (λ u x h. h.0) (omega arith) found.2 in
    let as_read : ReadsOne Reads (without_minus found.0) (Some got.0) = subst (ReadsOne Reads (without_minus found.0)) got.1 one in
    (got.0, got.1, got.2, got.3, ap (option_map number_written) found.1 ∙ ap (λ n. Some n) (sym as_read.0.1))

-- and a flag that reads `true` or `false`
threads_found : (c : Command) (m : ArgMatches) → app_of c ≡ program → IsParsedFrom c m
    → (t : Text) → one_text (found_of m) (codes "threads") ≡ Some t → (bytes_eq t (codes "true") || bytes_eq t (codes "false")) ≡ true
threads_found c m is p t found =
    let lt : 2 < length (args_of c) = rw (three c is) (omega arith) in
    let d = first_of_args (args_of c) (omega arith) in
    let a = slice_index_or (args_of c) 2 d in
    let rule : rule_of a ≡ threads_rule = rule_at c is 2 d lt in
    let id : a.id.now ≡ codes "threads" = ap (λ (r : Rule). r.id) rule in
    let read = parsed_read c m p (plain c is) (simple c is).globals
    2 d lt
    (only_place (args_of c) 2 a.id.now (rw (id, rules_are c is) refl))
    (not_empty _ _ a.id.now id)
    (not_auto a 116 (ap (λ t. slice_index t 0) id) (λ e. absurd (omega arith)) (λ e. absurd (omega arith)))
    vp.Bool (ap (λ (r : Rule). r.parser) rule)
    t (subst (λ (u : Text). one_text (found_of m) u ≡ Some t) (sym id) found) in
    subst (λ (u : Text). (bytes_eq u (codes "true") || bytes_eq u (codes "false")) ≡ true) (sym read.1) read.2

-- which says whether it is used
flag_read : (o : Option Text) (flag : Bool) → ((t : Text) → o ≡ Some t → (bytes_eq t (codes "true") || bytes_eq t (codes "false")) ≡ true)
    → (o ≡ None → flag ≡ false) → (o ≡ Some (codes "true") → flag ≡ true) → (o ≡ Some (codes "false") → flag ≡ false) → flag ≡ reads_true o
flag_read None flag only none used unused = none refl
flag_read (Some t) flag only none used unused = go (bytes_eq t (codes "true")) refl
  where
    go : (b : Bool) → bytes_eq t (codes "true") ≡ b → flag ≡ bytes_eq t (codes "true")
    go true e = used (ap (λ u. Some u) ((bytes_eq-Decides t (codes "true")).0 e)) ∙ sym e
    go false e =
        let other : bytes_eq t (codes "false") ≡ true = rw e at (only t refl) in
        unused (ap (λ u. Some u) ((bytes_eq-Decides t (codes "false")).0 other)) ∙ sym e

-- ---- the clauses

not_none : {X : Type 0} (o : Option X) → o ≡ None → is_some o ≡ true → ⊥
not_none None none some = cc
not_none (Some x) none some = cc

pub unreachable-requires : goal.unreachable-requires
unreachable-requires g c =
    let m = c.in_ok-matches.matches in
    let script = script_found c.in_ok-command.command m c.in_ok-command.ensures c.in_ok-matches.ensures.parsed in
    not_none c.get_str.result c.in_default.is (some_of_text _ c.get_str.result _ c.get_str.ensures script)

pub unreachable-requires-in_default-get_one : goal.unreachable-requires-in_default-get_one
unreachable-requires-in_default-get_one g c =
    let read = turns_read c.in_ok-command.command c.in_ok-matches.matches c.get_one.result c.in_ok-command.ensures c.in_ok-matches.ensures.parsed
    c.get_one.ensures.value in
    not_none c.get_one.result c.in_default-get_one.is (rw read.1 refl)

pub returns-in_err-matches-clause-taken : goal.returns-in_err-matches-clause-taken
unfolding is_taken
returns-in_err-matches-clause-taken g c =
    let words = map g.S.AsStr.text c.args.words.now in
    let error = err_from_is_err_and c.from_residual-in_err-matches.result c.from_residual-in_err-matches.ensures.1 in
    rw error.1 (λ taken. ap kind_of error.2 ∙ c.in_err-matches.ensures.passes (ap (λ (a : App). takes a words) c.in_ok-command.ensures ∙ taken))

pub returns-in_err-matches-clause-fault : goal.returns-in_err-matches-clause-fault
unfolding faults_of
returns-in_err-matches-clause-fault g c =
    let words = map g.S.AsStr.text c.args.words.now in
    let is = c.in_ok-command.ensures in
    let error = err_from_is_err_and c.from_residual-in_err-matches.result c.from_residual-in_err-matches.ensures.1 in
    let fault = subst (λ (a : App). HasKind (fault_of a words) c.in_err-matches.field-0.0) is
    (c.in_err-matches.ensures.kinds (ap is_simple_and_free is ∙ is_free_program)) in
    rw error.1 (subst (HasKind (faults_of words)) (sym error.2) fault)

pub returns-clause-faultless : goal.returns-clause-faultless
unfolding faults_of
returns-clause-faultless g c =
    let words = map g.S.AsStr.text c.args.words.now in
    let is = c.in_ok-command.ensures in
    subst (λ (a : App). fault_of a words ≡ []) is (c.in_ok-matches.ensures.kinds (ap is_simple_and_free is ∙ is_free_program))

pub returns-clause-script : goal.returns-clause-script
returns-clause-script g c =
    let words = map g.S.AsStr.text c.args.words.now in
    let is = c.in_ok-command.ensures in
    let rows = (c.in_ok-matches.ensures.matches (ap is_simple is ∙ is_simple_program)).0 ∙ ap (λ (a : App). matches_of a words) is in
    sym (c.in-Some.ensures ∙ first_value-rows (found_of c.in_ok-matches.matches) (codes "SCRIPT") ∙ ap (first_of (codes "SCRIPT")) rows)

pub returns-clause-turns : goal.returns-clause-turns
returns-clause-turns g c =
    let words = map g.S.AsStr.text c.args.words.now in
    let is = c.in_ok-command.ensures in
    let m = c.in_ok-matches.matches in
    let rows = (c.in_ok-matches.ensures.matches (ap is_simple is ∙ is_simple_program)).0 ∙ ap (λ (a : App). matches_of a words) is in
    let read = turns_read c.in_ok-command.command m c.get_one.result is c.in_ok-matches.ensures.parsed c.get_one.ensures.value in
    let text = one_text-rows (found_of m) (codes "turns") ∙ ap (one_of (codes "turns")) rows in
    ap (option_map number_written) (sym text) ∙ read.4 ∙ sym read.1 ∙ c.in-Some-get_one.is

pub returns-clause-some_turns : goal.returns-clause-some_turns
returns-clause-some_turns g c =
    let read = turns_read c.in_ok-command.command c.in_ok-matches.matches c.get_one.result c.in_ok-command.ensures c.in_ok-matches.ensures.parsed
    c.get_one.ensures.value in
    let same : Some read.0 ≡ Some c.in-Some-get_one.turns = sym read.1 ∙ c.in-Some-get_one.is in
    let number : read.0 ≡ c.in-Some-get_one.turns = cc in
    omega arith

pub returns-clause-few_turns : goal.returns-clause-few_turns
returns-clause-few_turns g c =
    let read = turns_read c.in_ok-command.command c.in_ok-matches.matches c.get_one.result c.in_ok-command.ensures c.in_ok-matches.ensures.parsed
    c.get_one.ensures.value in
    let same : Some read.0 ≡ Some c.in-Some-get_one.turns = sym read.1 ∙ c.in-Some-get_one.is in
    let number : read.0 ≡ c.in-Some-get_one.turns = cc in
    omega arith

pub returns-clause-threads : goal.returns-clause-threads
returns-clause-threads g c =
    let words = map g.S.AsStr.text c.args.words.now in
    let is = c.in_ok-command.ensures in
    let m = c.in_ok-matches.matches in
    let rows = (c.in_ok-matches.ensures.matches (ap is_simple is ∙ is_simple_program)).0 ∙ ap (λ (a : App). matches_of a words) is in
    let only = threads_found c.in_ok-command.command m is c.in_ok-matches.ensures.parsed in
    let flag = flag_read (one_text (found_of m) (codes "threads")) c.get_flag.result only c.get_flag.ensures.none c.get_flag.ensures.value
    c.get_flag.ensures.other in
    flag ∙ ap reads_true (one_text-rows (found_of m) (codes "threads") ∙ ap (one_of (codes "threads")) rows)
