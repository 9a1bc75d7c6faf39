-- What a reader sees of a delivery.
use Rattle.assise_mail.proofs.Common.{◌≡◌, ◌⊎◌, ℕ, zero, suc, ◌+◌, ◌<◌, Bool, true, false, not, if◌then◌else◌, ◌==◌, List, [], ◌∷◌, ◌++◌, length, filter}
use Rattle.assise_mail.proofs.Common.{Contains, Ok, Err, refl, ap, sym, subst, ◌∙◌, inl, inr, arith, append_assoc, eq-eqb, cases_Bool, false_from_ne_true}
use Rattle.assise_mail.proofs.Common.{Contains-append_cases, Read, Bytes, Error, NoEnt, Call, EntryValue, calls, IsRun, IsTaken, is_lost, kept, tree_after}
use Rattle.assise_mail.proofs.Common.{IsLegal, IsNextCall, calls_made, made_append, fits_in, legal_run, prefix_in, kept-append, lost, taken, is_lost-append}
use Rattle.assise_mail.proofs.Common.{kept-push, run-last, IsDisjointFrom, answer, read_answer, bytes_from, Tree, at, file, opening, reads, AllLeave}
use Rattle.assise_mail.proofs.Common.{CallsLeave, IsDraftedAndMoved, Leaves}
use Rattle.assise_mail.proofs.Delivered.{delivered}
use Rattle.assise_mail.proofs.Left.{all_leave}
use Rattle.assise_mail.proofs.Synced.{cut_at, from_filter, front_leaves, front_of, kept_leave}
use Rattle.assise_mail.proofs.Unlost.{none_lost}

-- ---- the reply to a read

-- a call is answered on the tree of what is kept before it
right_reply : (h front behind : List EntryValue) (r : Call) → IsLegal h → h ≡ front ++ calls r ∷ behind →
    r.reply ≡ (answer (tree_after opening (kept front)) r.op).0
right_reply h front behind r legal split =
    run-last opening (kept front) r (subst (IsRun opening) (kept-push front (calls r)) (fits_in h front behind (calls r) legal split).run)

read_of : (t : Tree) (r : Call) (place : List (List ℕ)) (offset most : ℕ) → r.reply ≡ (answer t r.op).0 → r.op ≡ Read place offset most →
    r.reply ≡ (read_answer t place offset most).0
read_of t r place offset most right is = right ∙ ap (λ op. (answer t op).0) is

missing : (t : Tree) (place : List (List ℕ)) (offset most : ℕ) → at t place ≡ Err NoEnt → (read_answer t place offset most).0 ≡ Error NoEnt
missing t place offset most gone = rw gone refl

present : (t : Tree) (place : List (List ℕ)) (offset most : ℕ) (message : List ℕ) → at t place ≡ Ok (file message) → (read_answer t place offset most).0
    ≡ Bytes (bytes_from offset most message)
present t place offset most message there = ap (λ o. o.0) (reads t place offset most message there)

nothing_at_first : (place : List (List ℕ)) → 0 < length place → at opening place ≡ Err NoEnt
unfolding at
nothing_at_first [] some = absurd (omega (arith, some))
nothing_at_first (name ∷ path) some = refl

-- nothing was made there
still_missing : (front : List EntryValue) (place : List (List ℕ)) → IsRun opening (kept front) → 0 < length place → AllLeave place (kept front) →
    at (tree_after opening (kept front)) place ≡ Err NoEnt
still_missing front place run some leave = all_leave opening place (kept front) run leave ∙ nothing_at_first place some

pub nothing_read : (h front behind : List EntryValue) (r : Call) (place : List (List ℕ)) (offset most : ℕ) → IsLegal h → h ≡ front ++ calls r ∷ behind →
    r.op ≡ Read place offset most → 0 < length place → AllLeave place (kept front) → r.reply ≡ Error NoEnt
nothing_read h front behind r place offset most legal split is some leave =
    let t = tree_after opening (kept front) in
    read_of t r place offset most (right_reply h front behind r legal split) is
    ∙ missing t place offset most (still_missing front place (legal_run front (prefix_in h front (calls r ∷ behind) legal split)) some leave)

-- ---- entries around a call

first_or_later : (x y : Call) (xs : List Call) → Contains (x ∷ xs) y → (x ≡ y) ⊎ Contains xs y
first_or_later x y xs there = elim (Contains-append_cases (x ∷ []) xs y there) [
  | inl first ↦ inl (only x y first)
  | inr later ↦ inr later
]
  where
    only : (x y : Call) → Contains (x ∷ []) y → x ≡ y
    only x y (zero, few, is) = is
    only x y (suc k, few, is) = absurd (omega arith)

-- all that is kept leaves a place, where the entries before a call and behind it do, and the call does or is lost
leave_across : (place : List (List ℕ)) (es later : List EntryValue) (x : Call) → CallsLeave place es → (is_lost later x ≡ true) ⊎ Leaves place x →
    AllLeave place (kept later) → AllLeave place (kept (es ++ calls x ∷ later))
leave_across place es later x early own late y there =
    elim (Contains-append_cases (filter (λ z. not (is_lost (calls x ∷ later) z)) (kept es)) (kept (calls x ∷ later)) y
    (subst (λ ys. Contains ys y) (kept-append es (calls x ∷ later)) there)) [
      | inl before ↦ kept_leave place es early y (from_filter (λ z. not (is_lost (calls x ∷ later) z)) (kept es) y before)
      | inr rest ↦ behind own rest
    ]
  where
    behind : (is_lost later x ≡ true) ⊎ Leaves place x → Contains (kept (calls x ∷ later)) y → Leaves place y
    behind (inl gone) rest = late y (rw gone at rest)
    behind (inr leaves) rest = elim (cases_Bool (is_lost later x)) [
      | inl gone ↦ late y (rw gone at rest)
      | inr safe ↦
          let all : Contains (x ∷ kept later) y = rw safe at rest in
          elim (first_or_later x y (kept later) all) [
            | inl same ↦ subst (Leaves place) same leaves
            | inr after ↦ late y after
          ]
    ]

-- ---- a call before one that isn't lost

module _ (front before behind : List EntryValue) (y : Call) (legal : IsLegal front) (split : front ≡ before ++ calls y ∷ behind)
    (kept_one : is_lost behind y ≡ false) where
  module _ (early later : List EntryValue) (x : Call) (there : before ≡ early ++ calls x ∷ later) (client : x.client ≡ y.client) where
    lower : x.number < y.number
    lower =
        let x_split : front ≡ early ++ calls x ∷ (later ++ calls y ∷ behind) = split ∙ ap (λ es. es ++ calls y ∷ behind) there
        ∙ append_assoc early (calls x ∷ later) (calls y ∷ behind) in
        let x_next : IsNextCall early x = (fits_in front early (later ++ calls y ∷ behind) (calls x) legal x_split).follows in
        let y_next : IsNextCall before y = (fits_in front before behind (calls y) legal split).follows in
        let own : (y.client == x.client) ≡ true = eq-eqb y.client x.client (sym client) in
        let all : calls_made y.client before ≡ calls_made y.client early + calls_made y.client (calls x ∷ later) = ap (calls_made y.client) there
        ∙ made_append y.client early (calls x ∷ later) in
        let some : calls_made y.client (calls x ∷ later) ≡ calls_made y.client later + 1 = rw own (omega arith) in
        let mine : x.number ≡ calls_made y.client early = x_next.number ∙ ap (λ c. calls_made c early) client in
        omega (arith, all, some, mine, y_next.number)

    taken_too : is_lost behind x ≡ true → ⊥
    taken_too gone =
        let w : IsTaken behind x = taken behind x gone in
        let y_taken : IsTaken behind y = record {
          node = w.node;
          losses = w.losses;
          before = w.before;
          behind = w.behind;
          split = w.split;
          loss = w.loss;
          lower = w.lower;
          higher = w.higher;
          listed = w.listed;
          client = w.client ∙ client;
          first = omega (arith, w.first, lower);
        } in
        let no = sym (lost behind y y_taken) ∙ kept_one in
        cc

    pub kept_too : is_lost (later ++ calls y ∷ behind) x ≡ false
    kept_too =
        let next : IsNextCall before y = (fits_in front before behind (calls y) legal split).follows in
        is_lost-append later (calls y ∷ behind) x
        ∙ ap (λ b. if b then true else is_lost behind x)
        (none_lost before (prefix_in front before (calls y ∷ behind) legal split) y.client next.ready early later x there client)
        ∙ false_from_ne_true (is_lost behind x) taken_too

-- ---- a delivery, with its move or without

everything : Call → Bool
everything x = true

all_pass : (xs : List Call) → filter everything xs ≡ xs
unfolding everything
all_pass [] = refl
all_pass (x ∷ xs) = ap (λ ys. x ∷ ys) (all_pass xs)

module _ (h front behind : List EntryValue) (r : Call) (draft place : List (List ℕ)) (message : List ℕ) (offset most : ℕ)
    (legal : IsLegal h) (split : h ≡ front ++ calls r ∷ behind) (is : r.op ≡ Read place offset most) (some : 0 < length place)
    (d : IsDraftedAndMoved front draft place message) where
  abbrev from_move : List EntryValue
  from_move = calls d.move ∷ d.moved

  abbrev from_write : List EntryValue
  from_write = calls d.write ∷ (d.written ++ from_move)

  abbrev from_make : List EntryValue
  from_make = calls d.make ∷ (d.created ++ from_write)

  front_legal : IsLegal front
  front_legal = prefix_in h front (calls r ∷ behind) legal split

  run : IsRun opening (kept front)
  run = legal_run front front_legal

  make_leaves : Leaves place d.make
  make_leaves = inl (subst (λ op. IsDisjointFrom op place) (sym d.delivery.makes) d.apart)

  write_leaves : Leaves place d.write
  write_leaves = inl (subst (λ op. IsDisjointFrom op place) (sym d.delivery.writes) d.apart)

  -- the move was lost again
  gone : is_lost d.moved d.move ≡ true → r.reply ≡ Error NoEnt
  gone lost_again =
      nothing_read h front behind r place offset most legal split is some
      (subst (λ es. AllLeave place (kept es)) (sym d.split)
      (leave_across place d.before (d.created ++ from_write) d.make d.none_before (inr make_leaves)
      (leave_across place d.created (d.written ++ from_move) d.write d.none_created (inr write_leaves)
      (leave_across place d.written d.moved d.move d.none_written (inl lost_again)
      (kept_leave place d.moved d.none_moved)))))

  -- or it stays, and the calls before it do
  module _ (stays : is_lost d.moved d.move ≡ false) where
    abbrev before_move : List EntryValue
    before_move = d.before ++ calls d.make ∷ (d.created ++ calls d.write ∷ d.written)

    to_move : front ≡ before_move ++ from_move
    to_move =
        d.split ∙ ap (λ es. d.before ++ calls d.make ∷ es) (sym (append_assoc d.created (calls d.write ∷ d.written) from_move))
        ∙ sym (append_assoc d.before (calls d.make ∷ (d.created ++ calls d.write ∷ d.written)) from_move)

    make_stays : is_lost (d.created ++ from_write) d.make ≡ false
    make_stays =
        ap (λ es. is_lost es d.make) (sym (append_assoc d.created (calls d.write ∷ d.written) from_move))
        ∙ kept_too front before_move d.moved d.move front_legal to_move stays d.before (d.created ++ calls d.write ∷ d.written) d.make refl d.maker

    write_stays : is_lost (d.written ++ from_move) d.write ≡ false
    write_stays = kept_too front before_move d.moved d.move front_legal to_move stays (d.before ++ calls d.make ∷ d.created) d.written d.write
        (sym (append_assoc d.before (calls d.make ∷ d.created) (calls d.write ∷ d.written))) d.writer

    whole : kept front ≡ front_of everything d.before
        from_make ++ d.make ∷ (front_of everything d.created from_write ++ d.write ∷ (front_of everything d.written from_move ++ d.move ∷ kept d.moved))
    unfolding everything
    whole =
        sym (all_pass (kept front))
        ∙ ap (λ es. filter everything (kept es)) d.split
        ∙ cut_at everything d.before (d.created ++ from_write) d.make make_stays refl
        ∙ ap (λ ys. front_of everything d.before from_make ++ d.make ∷ ys)
        (cut_at everything d.created (d.written ++ from_move) d.write write_stays refl
        ∙ ap (λ ys. front_of everything d.created from_write ++ d.write ∷ ys)
        (cut_at everything d.written d.moved d.move stays refl
        ∙ ap (λ ys. front_of everything d.written from_move ++ d.move ∷ ys) (all_pass (kept d.moved))))

    there : at (tree_after opening (kept front)) place ≡ Ok (file message)
    there =
        ap (λ cs. at (tree_after opening cs) place) whole
        ∙ delivered draft place message d.make d.write d.move d.delivery opening
        (front_of everything d.before from_make) (front_of everything d.created from_write) (front_of everything d.written from_move) (kept d.moved)
        (subst (IsRun opening) whole run)
        (front_leaves everything draft d.created from_write d.first)
        (front_leaves everything draft d.written from_move d.second)
        (kept_leave place d.moved d.none_moved)

    read_whole : r.reply ≡ Bytes (bytes_from offset most message)
    read_whole =
        let t = tree_after opening (kept front) in
        read_of t r place offset most (right_reply h front behind r legal split) is ∙ present t place offset most message there

  pub nothing_or_whole : (r.reply ≡ Error NoEnt) ⊎ (r.reply ≡ Bytes (bytes_from offset most message))
  nothing_or_whole = elim (cases_Bool (is_lost d.moved d.move)) [
    | inl lost_again ↦ inl (gone lost_again)
    | inr stays ↦ inr (read_whole stays)
  ]
