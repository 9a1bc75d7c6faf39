-- The changes among the last kept calls give the tree that all of them gave, and a failure that takes them loses these changes.
use Rattle.assise_files.proofs.Common.{◌≡◌, ◌∙◌, ℕ, nat_le, Bool, true, false, not, ◌&&◌, ◌||◌, ◌==◌, if◌then◌else◌, List, [], ◌∷◌, ◌++◌, Result, Ok, Err}
use Rattle.assise_files.proofs.Common.{filter, map, refl, ap, sym, subst, inl, inr, append_assoc, append-nil, cases_Bool, eq-eqb, eqb-true, false_from_ne_true}
use Rattle.assise_files.proofs.Common.{Op, Create, Mkdir, Read, Write, Truncate, Rename, Unlink, Rmdir, ListCall, Stat, Fsync, Dsync, Reply, Done, ◌>>=◌}
use Rattle.assise_files.proofs.Common.{answer, entries_at, file_at, may_rename, may_rmdir, may_unlink, reply_and_tree, room_at, Tree, at, opening, Call}
use Rattle.assise_files.proofs.Common.{EntryValue, opens, calls, crashes, fails, returns, IsRun, is_lost, kept, loses, tree_after, IsLegal, is_failure_of}
use Rattle.assise_files.proofs.Common.{is_lost-append, TakesLastKept, change_of, is_change, says_done, is_lost_change, is_sync_call, lost_changes, tree_with}
use Rattle.std.specs.List.{AllByRecursion, list_any}
use Rattle.std.proofs.lemmas.List.Elements.{filter-append}
use Rattle.assise_names.specs.declared.durability.Durability.{Durability}
use Rattle.assise_names.specs.declared.reply.TreeError.{TreeError}
use Rattle.assise_names.specs.declared.reply.TreeError.TheVariants.{TooBig}
use Rattle.assise_history.specs.declared.call.Loss.{Loss}
use Rattle.assise_history.proofs.Shared.Legality.{fits_in, legal-last, legal-prefix, legal_run}
use Rattle.assise_history.proofs.Shared.LivesOneMore.{one_place}
use Rattle.assise_history.proofs.Shared.Lost.{kept-append, taken}

-- ---- tests

and_true : (b : Bool) → (b && true) ≡ b
and_true true = refl
and_true false = refl

or_true : (b : Bool) → (b || true) ≡ true
or_true true = refl
or_true false = refl

or_last : (b : Bool) → (b || false) ≡ b
or_last true = refl
or_last false = refl

or_else : (b : Bool) → (if b then true else false) ≡ b
or_else true = refl
or_else false = refl

twice : (a b : Bool) → ((a && b) && a) ≡ (a && b)
twice true true = refl
twice true false = refl
twice false b = refl

-- ---- only changes change the tree

done_or_same : {X : Type 0} (t : Tree) (r : Result X TreeError) (f : X → Tree) → says_done (reply_and_tree t (r >>= λ x. Ok (Done, f x))).0 ≡ false →
    (reply_and_tree t (r >>= λ x. Ok (Done, f x))).1 ≡ t
done_or_same t (Ok x) f h = cc
done_or_same t (Err e) f h = refl

done_if : (t : Tree) (b : Bool) (u : Tree) (e : TreeError) → says_done (reply_and_tree t (if b then Ok (Done, u) else Err e)).0 ≡ false →
    (reply_and_tree t (if b then Ok (Done, u) else Err e)).1 ≡ t
done_if t true u e h = cc
done_if t false u e h = refl

done_within : {X : Type 0} (t : Tree) (r : Result X TreeError) (b : X → Bool) (f : X → Tree) (e : TreeError) →
    says_done (reply_and_tree t (r >>= λ x. if b x then Ok (Done, f x) else Err e)).0 ≡ false →
    (reply_and_tree t (r >>= λ x. if b x then Ok (Done, f x) else Err e)).1 ≡ t
done_within t (Ok x) b f e h = done_if t (b x) (f x) e h
done_within t (Err d) b f e h = refl

done_behind : {X Y : Type 0} (t : Tree) (r : Result X TreeError) (s : Result Y TreeError) (f : Y → Tree) →
    says_done (reply_and_tree t (r >>= λ _. s >>= λ y. Ok (Done, f y))).0 ≡ false →
    (reply_and_tree t (r >>= λ _. s >>= λ y. Ok (Done, f y))).1 ≡ t
done_behind t (Ok x) s f h = done_or_same t s f h
done_behind t (Err e) s f h = refl

told_same : {X : Type 0} (t : Tree) (r : Result X TreeError) (f : X → Reply) → (reply_and_tree t (r >>= λ x. Ok (f x, t))).1 ≡ t
told_same t (Ok x) f = refl
told_same t (Err e) f = refl

undone_same : (t : Tree) (op : Op) → says_done (answer t op).0 ≡ false → (answer t op).1 ≡ t
undone_same t (Create p) h = done_or_same t (room_at t p) _ h
undone_same t (Mkdir p) h = done_or_same t (room_at t p) _ h
undone_same t (Read p offset most) h = told_same t (file_at t p) _
undone_same t (Write p offset new) h = done_within t (file_at t p) _ _ TooBig h
undone_same t (Truncate p size) h = done_within t (file_at t p) _ _ TooBig h
undone_same t (Rename p q) h = done_behind t (may_rename t p q) (at t p) _ h
undone_same t (Unlink p) h = done_or_same t (may_unlink t p) _ h
undone_same t (Rmdir p) h = done_or_same t (may_rmdir t p) _ h
undone_same t (ListCall p) h = told_same t (entries_at t p) _
undone_same t (Stat p) h = told_same t (at t p) _
undone_same t Fsync h = refl
undone_same t Dsync h = refl

sync_same : (t : Tree) (op : Op) → is_sync_call op ≡ true → (answer t op).1 ≡ t
sync_same t Fsync h = refl
sync_same t Dsync h = refl
sync_same t (Create p) h = cc
sync_same t (Mkdir p) h = cc
sync_same t (Read p offset most) h = cc
sync_same t (Write p offset new) h = cc
sync_same t (Truncate p size) h = cc
sync_same t (Rename p q) h = cc
sync_same t (Unlink p) h = cc
sync_same t (Rmdir p) h = cc
sync_same t (ListCall p) h = cc
sync_same t (Stat p) h = cc

unchanged : (t : Tree) (x : Call) → x.reply ≡ (answer t x.op).0 → is_change x ≡ false → (answer t x.op).1 ≡ t
unchanged t x is none =
    elim (cases_Bool (is_sync_call x.op)) [
      | inl sync ↦ sync_same t x.op sync
      | inr other ↦ undone_same t x.op (ap says_done (sym is) ∙ sym (and_true (says_done x.reply)) ∙ ap (λ b. says_done x.reply && not b) (sym other) ∙ none)
    ]

-- ---- the changes alone give the tree

changes_tree : (t : Tree) (xs : List Call) → IsRun t xs → tree_with t (map change_of (filter is_change xs)) ≡ tree_after t xs
changes_tree t [] run = refl
changes_tree t (x ∷ xs) run =
    elim (cases_Bool (is_change x)) [
      | inl change ↦ rw change (changes_tree (answer t x.op).1 xs run.1)
      | inr none ↦ rw none (ap (λ u. tree_with u (map change_of (filter is_change xs))) (sym (unchanged t x run.0 none))
          ∙ changes_tree (answer t x.op).1 xs run.1)
    ]

run_behind : (t : Tree) (front xs : List Call) → IsRun t (front ++ xs) → IsRun (tree_after t front) xs
run_behind t [] xs run = run
run_behind t (x ∷ front) xs run = run_behind (answer t x.op).1 front xs run.1

tree_behind : (t : Tree) (front xs : List Call) → tree_after t (front ++ xs) ≡ tree_after (tree_after t front) xs
tree_behind t [] xs = refl
tree_behind t (x ∷ front) xs = tree_behind (answer t x.op).1 front xs

-- ---- no failure before took anything of a client whose node fails

any_here : (p : EntryValue → Bool) (front behind : List EntryValue) (e : EntryValue) → p e ≡ true → list_any p (front ++ e ∷ behind) ≡ true
any_here p [] behind e is = ap (λ b. b || list_any p behind) is
any_here p (f ∷ front) behind e is = ap (λ b. p f || b) (any_here p front behind e is) ∙ or_true (p f)

module _ (h : List EntryValue) (c n first : ℕ) (legal : IsLegal (h ++ fails n (record { client = c; first = first } ∷ []) ∷ [])) where
  abbrev losses : List Loss
  losses = record { client = c; first = first } ∷ []

  kept_all : (before later : List EntryValue) (x : Call) → h ≡ before ++ calls x ∷ later → c ≡ x.client → is_lost later x ≡ false
  kept_all before later x split own =
      false_from_ne_true (is_lost later x) (λ lost.
      let t = taken later x lost in
      let l : Loss = t.loss in
      let whole : IsLegal h = legal-prefix h (fails n losses ∷ []) legal in
      let front : List EntryValue = before ++ calls x ∷ t.before in
      let at : h ≡ front ++ fails t.node t.losses ∷ t.behind = split ∙ ap (λ es. before ++ calls x ∷ es) t.split
      ∙ sym (append_assoc before (calls x ∷ t.before) (fails t.node t.losses ∷ t.behind)) in
      let was = ((fits_in h front t.behind (fails t.node t.losses) whole at).follows.each t.lower t.higher l t.listed).on in
      let now = ((legal-last h (fails n losses) legal).follows.each [] [] (record { client = c; first = first }) refl).on in
      let opened : h ≡ was.opened.before ++ opens l.client t.node was.opened.durability ∷ (was.opened.since ++ fails t.node t.losses ∷ t.behind) =
      at ∙ ap (λ es. es ++ fails t.node t.losses ∷ t.behind) was.opened.split
      ∙ append_assoc was.opened.before (opens l.client t.node was.opened.durability ∷ was.opened.since) (fails t.node t.losses ∷ t.behind) in
      let same_client : l.client ≡ c = t.client ∙ sym own in
      let mine : h ≡ was.opened.before ++ opens c t.node was.opened.durability ∷ (was.opened.since ++ fails t.node t.losses ∷ t.behind) =
      subst (λ d. h ≡ was.opened.before ++ opens d t.node was.opened.durability ∷ (was.opened.since ++ fails t.node t.losses ∷ t.behind)) same_client opened in
      let place = one_place h whole c t.node n was.opened.durability now.opened.durability was.opened.before
      (was.opened.since ++ fails t.node t.losses ∷ t.behind) now.opened.before now.opened.since mine now.opened.split in
      let failed : list_any (is_failure_of n) now.opened.since ≡ true =
      ap (list_any (is_failure_of n)) (sym place.rest) ∙ any_here (is_failure_of n) was.opened.since t.behind (fails t.node t.losses)
      (eq-eqb n t.node (sym place.node)) in
      cc (failed, now.no_failure))

  -- ---- what is lost then

  abbrev is_theirs : Call → Bool
  is_theirs x = ((c == x.client) && nat_le first x.number) && is_change x

  module _ (tail : List EntryValue) (takes : (x : Call) → is_lost tail x ≡ ((c == x.client) && nat_le first x.number)) (none : lost_changes c first tail ≡ [])
    where
      tail_changes : (es : List EntryValue) →
          ((before later : List EntryValue) (x : Call) → es ≡ before ++ calls x ∷ later → c ≡ x.client → is_lost later x ≡ false) →
          lost_changes c first (es ++ tail) ≡ map change_of (filter is_theirs (kept es))
      tail_changes [] all = none
      tail_changes (opens d m u ∷ es) all =
          tail_changes es (λ before later x split own. all (opens d m u ∷ before) later x (ap (λ xs. opens d m u ∷ xs) split) own)
      tail_changes (crashes d ∷ es) all = tail_changes es (λ before later x split own. all (crashes d ∷ before) later x (ap (λ xs. crashes d ∷ xs) split) own)
      tail_changes (fails m ls ∷ es) all =
          tail_changes es (λ before later x split own. all (fails m ls ∷ before) later x (ap (λ xs. fails m ls ∷ xs) split) own)
      tail_changes (returns m ∷ es) all = tail_changes es (λ before later x split own. all (returns m ∷ before) later x (ap (λ xs. returns m ∷ xs) split) own)
      tail_changes (calls x ∷ es) all =
          let rest : lost_changes c first (es ++ tail) ≡ map change_of (filter is_theirs (kept es)) =
          tail_changes es (λ before later y split own. all (calls x ∷ before) later y (ap (λ xs. calls x ∷ xs) split) own) in
          elim (cases_Bool (c == x.client)) [
            | inl own ↦
                let kept_here : is_lost es x ≡ false = all [] es x refl (eqb-true c x.client own) in
                let lost : is_lost (es ++ tail) x ≡ ((c == x.client) && nat_le first x.number) = is_lost-append es tail x ∙ rw kept_here (takes x) in
                let test : is_lost_change c first (es ++ tail) x ≡ is_theirs x = ap (λ b. is_theirs x && b) lost
                ∙ twice ((c == x.client) && nat_le first x.number) (is_change x) in
                elim (cases_Bool (is_theirs x)) [
                  | inl one ↦ rw (test, kept_here, one) (ap (λ xs. change_of x ∷ xs) rest)
                  | inr none ↦ rw (test, kept_here, none) rest
                ]
            | inr other ↦
                let not_lost : is_lost_change c first (es ++ tail) x ≡ false = rw other refl in
                let not_theirs : is_theirs x ≡ false = rw other refl in
                elim (cases_Bool (is_lost es x)) [
                  | inl gone ↦ rw (not_lost, gone) rest
                  | inr stays ↦ rw (not_lost, stays, not_theirs) rest
                ]
          ]

  -- ---- the last kept calls

  taken_so : (x : Call) → loses losses x ≡ ((c == x.client) && nat_le first x.number)
  taken_so x = or_last ((c == x.client) && nat_le first x.number)

  none_theirs : (xs : List Call) → AllByRecursion (λ x. loses losses x ≡ false) xs → filter is_theirs xs ≡ []
  none_theirs [] all = refl
  none_theirs (x ∷ xs) all =
      let other : is_theirs x ≡ false = ap (λ b. b && is_change x) (sym (taken_so x) ∙ all.0) in
      rw other (none_theirs xs all.1)

  all_theirs : (xs : List Call) → AllByRecursion (λ x. loses losses x ≡ true) xs → filter is_theirs xs ≡ filter is_change xs
  all_theirs [] all = refl
  all_theirs (x ∷ xs) all =
      let same : is_theirs x ≡ is_change x = ap (λ b. b && is_change x) (sym (taken_so x) ∙ all.0) in
      elim (cases_Bool (is_change x)) [
        | inl one ↦ rw (same, one) (ap (λ ys. x ∷ ys) (all_theirs xs all.1))
        | inr none ↦ rw (same, none) (all_theirs xs all.1)
      ]

  module _ (d m : ℕ) (u : Durability) where
    abbrev behind : List EntryValue
    behind = fails n losses ∷ opens d m u ∷ []

    lost_then : (x : Call) → is_lost behind x ≡ loses losses x
    lost_then x = or_else (loses losses x)

    all_stay : (xs : List Call) → AllByRecursion (λ x. loses losses x ≡ false) xs → filter (λ x. not (is_lost behind x)) xs ≡ xs
    all_stay [] all = refl
    all_stay (x ∷ xs) all = let stays : is_lost behind x ≡ false = lost_then x ∙ all.0 in rw stays (ap (λ ys. x ∷ ys) (all_stay xs all.1))

    all_go : (xs : List Call) → AllByRecursion (λ x. loses losses x ≡ true) xs → filter (λ x. not (is_lost behind x)) xs ≡ []
    all_go [] all = refl
    all_go (x ∷ xs) all = let goes : is_lost behind x ≡ true = lost_then x ∙ all.0 in rw goes (all_go xs all.1)

    pub tree_again : (left lost : List Call) → TakesLastKept h losses left lost → tree_with (tree_after opening (kept (h ++ behind)))
        (lost_changes c first (h ++ behind)) ≡ tree_after opening (kept h)
    tree_again left lost last =
        let keeps : Call → Bool = λ x. not (is_lost behind x) in
        let left_then : kept (h ++ behind) ≡ left =
        kept-append h behind ∙ append-nil (filter keeps (kept h)) ∙ ap (filter keeps) last.split ∙ filter-append keeps left lost
        ∙ ap (λ xs. xs ++ filter keeps lost) (all_stay left last.stay) ∙ ap (λ xs. left ++ xs) (all_go lost last.go) ∙ append-nil left in
        let theirs : filter is_theirs (kept h) ≡ filter is_change lost =
        ap (filter is_theirs) last.split ∙ filter-append is_theirs left lost ∙ ap (λ xs. xs ++ filter is_theirs lost) (none_theirs left last.stay)
        ∙ all_theirs lost last.go in
        let changes : lost_changes c first (h ++ behind) ≡ map change_of (filter is_change lost) =
        tail_changes behind (λ x. lost_then x ∙ taken_so x) refl h kept_all ∙ ap (map change_of) theirs in
        let run : IsRun (tree_after opening left) lost = run_behind opening left lost
        (subst (IsRun opening) last.split (legal_run h (legal-prefix h (fails n losses ∷ []) legal))) in
        ap (λ xs. tree_with (tree_after opening xs) (lost_changes c first (h ++ behind))) left_then ∙ ap (tree_with (tree_after opening left)) changes
        ∙ changes_tree (tree_after opening left) lost run
        ∙ sym (tree_behind opening left lost) ∙ ap (tree_after opening) (sym last.split)
