-- What a parse finds of an argument with a parser, and of one that takes one value and has a default.
use Rattle.assise_console.proofs.Common.{◌≡◌, ◌∙◌, ◌<◌, ◌≤◌, ap, subst, sym, refl, inl, inr, arith, zero, suc, ℕ, Bool, true, false, List, [], ◌∷◌, length}
use Rattle.assise_console.proofs.Common.{Option, Some, None, is_some, true≢false, find, option_map, slice_get, All, slice_index_or, bytes_eq, bytes_eq-Decides}
use Rattle.assise_console.proofs.Common.{default_present, entry_by_id, same_rules_by_id, IsAuto, IsParsedFrom, IsPlain, SameRules, Entry, EntryPasses}
use Rattle.assise_console.proofs.Common.{WantsDefault, args_of, groups_of, least_values, parser_of, parser_of_value, found_of, matched_of, one_text, Accepts}
use Rattle.assise_console.proofs.Common.{read_as, reading_of, Text, Arg, Command, ArgMatches}
use Rattle.std.specs.Borrow.{Bor}
use Rattle.clap.specs.declared.builder.action.ArgAction.TheVariants.{Count, Set}
use Rattle.clap.specs.declared.builder.command.Command.TheViews.{out-Command}
use Rattle.clap.specs.declared.builder.value_parser.Reading.{Reading}
use Rattle.clap.specs.declared.builder.value_parser.ValueParser.{ValueParser}
use Rattle.clap.specs.declared.parser.matches.Found.{Found}
use Rattle.clap.specs.declared.parser.matches.MatchedArg.{MatchedArg}

-- the id of an entry has a match
has_matched : (xs : List Entry) (id : Text) (i : ℕ) → i < length xs → ((d : Entry) → bytes_eq (slice_index_or xs i d).0.now id ≡ true)
    → is_some (option_map (λ e. e.1) (find (λ e. bytes_eq e.0.now id) xs)) ≡ true
has_matched [] id i lt has = absurd (omega arith)
has_matched (x ∷ xs) id i lt has = go (bytes_eq x.0.now id) refl i lt has (λ j low there. has_matched xs id j low there)
  where
    go : (b : Bool) → bytes_eq x.0.now id ≡ b → (i : ℕ) → i < length (x ∷ xs) → ((d : Entry) → bytes_eq (slice_index_or (x ∷ xs) i d).0.now id ≡ true)
        → ((j : ℕ) → j < length xs → ((d : Entry) → bytes_eq (slice_index_or xs j d).0.now id ≡ true) →
        is_some (option_map (λ e. e.1) (find (λ e. bytes_eq e.0.now id) xs)) ≡ true)
        → is_some (option_map (λ e. e.1) (find (λ e. bytes_eq e.0.now id) (x ∷ xs))) ≡ true
    go true e i lt has rest = rw e refl
    go false e zero lt has rest = absurd (true≢false (sym (has x) ∙ e))
    go false e (suc j) lt has rest = rw e (rest j (omega arith) (λ d. has d))

-- each argument of the command that has the id of the caller's has its rules
abbrev HasRules : Command → Arg → Type 0
HasRules c a = (j : ℕ) (x : Arg) → j < length (args_of c) → slice_index_or (args_of c) j x ≡ x → bytes_eq x.id.now a.id.now ≡ true → SameRules a x

-- the values of an argument's entry pass its parser, and are read as that parser says
record IsReadBy (a : Arg) (q : ValueParser) (x : MatchedArg) : Type 0 where
  passed : All (λ v. Accepts a.ignore_case q v.now) x.vals.items
  reading : x.reading ≡ reading_of q

-- and where the argument takes one value there is one
record IsEntryOf (a : Arg) (q : ValueParser) (x : MatchedArg) : Type 0 where
  filled : 0 < length x.vals.items
  read : IsReadBy a q x

module _ (c : Command) (a : Arg) (e : Entry) (no_groups : groups_of c ≡ []) (named : a.id.now ≡ [] → ⊥) (same : HasRules c a) (key : e.0.now ≡ a.id.now)
    (pass : EntryPasses c e) where
  no_group : e.1.is_group ≡ true → ⊥
  no_group group = elim (pass.3 group) [
    | inl empty ↦ named (sym key ∙ empty)
    | inr lots ↦
        let bad : 0 < 0 = rw no_groups at lots in
        absurd (omega arith)
  ]

  read_by : (q : ValueParser) → a.value_parser ≡ Some q → IsReadBy a q e.1
  read_by q parser =
      let is_q : (x : Arg) → SameRules a x → parser_of x ≡ q = λ x rules. ap parser_of_value (rules.parser q parser) in
      record {
        passed = elim pass.0 [
          | inl group ↦ absurd (no_group group)
          | inr vals ↦ λ k v lt.
              let any = vals k v lt in
              let rules = same any.0 any.1 any.2 any.3 (rw key at any.4.0) in
              let as_q = subst (λ (w : ValueParser). Accepts any.1.ignore_case w (slice_index_or e.1.vals.items k v).now) (is_q any.1 rules) any.4.1 in
              subst (λ (b : Bool). Accepts b q (slice_index_or e.1.vals.items k v).now) rules.ignore_case as_q
        ];
        reading = elim pass.4 [
          | inl group ↦ absurd (no_group group)
          | inr any ↦
              let rules = same any.0 any.1 any.2 any.3 (rw key at any.4.0) in
              sym any.4.1 ∙ ap reading_of (is_q any.1 rules)
        ];
      }

  filled : a.action ≡ Some Set → a.val_delim ≡ None → 1 ≤ least_values a → 0 < length e.1.vals.items
  filled set delim least = elim pass.1 [
    | inl h ↦ absurd (no_group h.0)
    | inr (inl some) ↦ some
    | inr (inr (inl h)) ↦
        let any = h.1 in
        let rules = same any.0 any.1 any.2 any.3 (rw key at any.4.0) in
        let bad : Set ≡ Count = rw (rules.action Set set) at any.4.1 in
        cc
    | inr (inr (inr any)) ↦
        let rules = same any.0 any.1 any.2 any.3 (rw key at any.4.0) in
        elim any.4.1 [
          | inl none ↦
              let one = rules.least set least in
              absurd (omega arith)
          | inr has ↦
              let bad : false ≡ true = rw (rules.val_delim, delim) at has in
              cc
        ]
  ]

first_read : (P : Text → Type 0) (how : Reading) (vals : List (Bor Text)) → 0 < length vals → All (λ v. P v.now) vals
    → (t : Text) × (option_map (λ s. read_as how s.now) (slice_get vals 0) ≡ Some (read_as how t)) × P t
first_read P how [] some all = absurd (omega arith)
first_read P how (v ∷ vals) some all = (v.now, refl, all 0 v (omega arith))

one_text_at : (f : Found) (id : Text) (x : MatchedArg) (how : Reading) (t : Text) → matched_of f id ≡ Some x → x.reading ≡ how
    → option_map (λ s. read_as how s.now) (slice_get x.vals.items 0) ≡ Some t → one_text f id ≡ Some t
one_text_at f id x how t found is first = rw (found, is) first

-- an argument that takes one value, with a default: what is read of it passed its parser
pub default_read : (old : Command) (m : ArgMatches) (p : IsParsedFrom old m) → IsPlain old → (out-Command old).has_globals ≡ false
    → (k : ℕ) (d : Arg) → k < length (args_of old) → WantsDefault (slice_index_or (args_of old) k d)
    → (slice_index_or (args_of old) k d).action ≡ Some Set → (slice_index_or (args_of old) k d).val_delim ≡ None
    → 1 ≤ least_values (slice_index_or (args_of old) k d)
    → ((j : ℕ) (e : Arg) → j < length (args_of old)
    → bytes_eq (slice_index_or (args_of old) j e).id.now (slice_index_or (args_of old) k d).id.now ≡ true → j ≡ k)
    → ((slice_index_or (args_of old) k d).id.now ≡ [] → ⊥) → (IsAuto (slice_index_or (args_of old) k d) → ⊥)
    → (q : ValueParser) → (slice_index_or (args_of old) k d).value_parser ≡ Some q
    → (t : Text) × (one_text (found_of m) (slice_index_or (args_of old) k d).id.now ≡ Some (read_as (reading_of q) t))
    × Accepts (slice_index_or (args_of old) k d).ignore_case q t
default_read old m p plain globals k d lt wants set delim least only named own q parser =
    let a = slice_index_or (args_of old) k d in
    let parsed = p.parsed (p.from.globals ∙ globals) in
    let has = default_present old m p globals k d lt wants in
    let same = same_rules_by_id old m p k d lt only own in
    let no_groups : groups_of p.built ≡ [] = (p.from.plain plain).1 in
    read a (has_matched (found_of m).entries.items a.id.now has.0 has.1 has.2)
    (λ x found.
    let got = entry_by_id (EntryPasses p.built) (found_of m).entries.items a.id.now x parsed.values found in
    let key : got.0.0.now ≡ a.id.now = (bytes_eq-Decides got.0.0.now a.id.now).0 got.2 in
    subst (IsEntryOf a q) got.1
    (record {
      filled = filled p.built a got.0 no_groups named same key got.3 set delim least;
      read = read_by p.built a got.0 no_groups named same key got.3 q
          parser;
    }))
  where
    read : (a : Arg) → is_some (matched_of (found_of m) a.id.now) ≡ true
        → ((x : MatchedArg) → matched_of (found_of m) a.id.now ≡ Some x → IsEntryOf a q x)
        → (t : Text) × (one_text (found_of m) a.id.now ≡ Some (read_as (reading_of q) t)) × Accepts a.ignore_case q t
    read a some entry = go (matched_of (found_of m) a.id.now) refl
      where
        go : (o : Option MatchedArg) → matched_of (found_of m) a.id.now ≡ o
            → (t : Text) × (one_text (found_of m) a.id.now ≡ Some (read_as (reading_of q) t)) × Accepts a.ignore_case q t
        go None e =
            let bad : false ≡ true = rw e at some in
            cc
        go (Some x) e =
            let is = entry x e in
            let first = first_read (Accepts a.ignore_case q) (reading_of q) x.vals.items is.filled is.read.passed in
            (first.0, one_text_at (found_of m) a.id.now x (reading_of q) (read_as (reading_of q) first.0) e is.read.reading first.1, first.2)

some_read : (P : Text → Type 0) (how : Reading) (vals : List (Bor Text)) → All (λ v. P v.now) vals → (t : Text) →
    option_map (λ s. read_as how s.now) (slice_get vals 0) ≡ Some t
    → (u : Text) × (t ≡ read_as how u) × P u
some_read P how [] all t is = cc
some_read P how (v ∷ vals) all t is =
    let same : Some (read_as how v.now) ≡ Some t = is in
    let read : t ≡ read_as how v.now = cc in
    (v.now, read, all 0 v (omega arith))

-- what is read of an argument with a parser, where something is, passed that parser
pub parsed_read : (old : Command) (m : ArgMatches) (p : IsParsedFrom old m) → IsPlain old → (out-Command old).has_globals ≡ false
    → (k : ℕ) (d : Arg) → k < length (args_of old)
    → ((j : ℕ) (e : Arg) → j < length (args_of old)
    → bytes_eq (slice_index_or (args_of old) j e).id.now (slice_index_or (args_of old) k d).id.now ≡ true → j ≡ k)
    → ((slice_index_or (args_of old) k d).id.now ≡ [] → ⊥) → (IsAuto (slice_index_or (args_of old) k d) → ⊥)
    → (q : ValueParser) → (slice_index_or (args_of old) k d).value_parser ≡ Some q
    → (t : Text) → one_text (found_of m) (slice_index_or (args_of old) k d).id.now ≡ Some t
    → (u : Text) × (t ≡ read_as (reading_of q) u) × Accepts (slice_index_or (args_of old) k d).ignore_case q u
parsed_read old m p plain globals k d lt only named own q parser t is =
    let a = slice_index_or (args_of old) k d in
    let parsed = p.parsed (p.from.globals ∙ globals) in
    let same = same_rules_by_id old m p k d lt only own in
    let no_groups : groups_of p.built ≡ [] = (p.from.plain plain).1 in
    read a is
    (λ x found.
    let got = entry_by_id (EntryPasses p.built) (found_of m).entries.items a.id.now x parsed.values found in
    let key : got.0.0.now ≡ a.id.now = (bytes_eq-Decides got.0.0.now a.id.now).0 got.2 in
    subst (IsReadBy a q) got.1 (read_by p.built a got.0 no_groups named same key got.3 q parser))
  where
    read : (a : Arg) → one_text (found_of m) a.id.now ≡ Some t → ((x : MatchedArg) → matched_of (found_of m) a.id.now ≡ Some x → IsReadBy a q x)
        → (u : Text) × (t ≡ read_as (reading_of q) u) × Accepts a.ignore_case q u
    read a is entry = go (matched_of (found_of m) a.id.now) refl is
      where
        go : (o : Option MatchedArg) → matched_of (found_of m) a.id.now ≡ o → one_text (found_of m) a.id.now ≡ Some t
            → (u : Text) × (t ≡ read_as (reading_of q) u) × Accepts a.ignore_case q u
        go None e is =
            let bad : None ≡ Some t = rw e at is in
            cc
        go (Some x) e is =
            let by = entry x e in
            let some : option_map (λ s. read_as x.reading s.now) (slice_get x.vals.items 0) ≡ Some t = rw e at is in
            some_read (Accepts a.ignore_case q) (reading_of q) x.vals.items by.passed t (rw by.reading at some)
