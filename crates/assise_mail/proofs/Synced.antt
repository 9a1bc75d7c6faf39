-- An answered delivery stays.
use Rattle.assise_mail.proofs.Common.{◌≡◌, ℕ, ◌<◌, Bool, true, false, not, nat_lt, List, [], ◌∷◌, ◌++◌, filter, Contains, Ok, refl, ap, sym, subst, ◌∙◌, inl}
use Rattle.assise_mail.proofs.Common.{inr, arith, append_assoc, lt-ltb, cases_Bool, Contains-append_cases, Contains-append_left, Contains-append_right}
use Rattle.assise_mail.proofs.Common.{filter-append, Call, EntryValue, calls, IsRun, Stays, is_lost, kept, tree_after, IsLegal, IsPastSyncs, durability_of}
use Rattle.assise_mail.proofs.Common.{is_sync, Op, Create, Mkdir, Read, Write, Truncate, Rename, Unlink, Rmdir, ListCall, Stat, Fsync, Dsync, Durability}
use Rattle.assise_mail.proofs.Common.{kept-append, stays, at, file, opening, AllLeave, CallsLeave, IsMessageDelivered, Leaves, only_looks}
use Rattle.assise_mail.proofs.Delivered.{delivered}
use Rattle.assise_mail.proofs.Unlost.{earlier_number, unlost}

pub from_filter : (p : Call → Bool) (xs : List Call) (y : Call) → Contains (filter p xs) y → Contains xs y
from_filter p [] y h = h
from_filter p (x ∷ xs) y h =
    elim (cases_Bool (p x)) [
      | inl passes ↦
          let all : Contains (x ∷ filter p xs) y = rw passes at h in
          elim (Contains-append_cases (x ∷ []) (filter p xs) y all) [
            | inl first ↦ Contains-append_left (x ∷ []) xs y first
            | inr later ↦ Contains-append_right (x ∷ []) xs y (from_filter p xs y later)
          ]
      | inr fails ↦ Contains-append_right (x ∷ []) xs y (from_filter p xs y (rw fails at h))
    ]

-- a sync changes nothing
sync_looks : (op : Op) (u : Durability) → is_sync op u ≡ true → only_looks op ≡ true
sync_looks (Create p) u is = cc
sync_looks (Mkdir p) u is = cc
sync_looks (Read p offset most) u is = refl
sync_looks (Write p offset new) u is = cc
sync_looks (Truncate p size) u is = cc
sync_looks (Rename p q) u is = cc
sync_looks (Unlink p) u is = cc
sync_looks (Rmdir p) u is = cc
sync_looks (ListCall p) u is = refl
sync_looks (Stat p) u is = refl
sync_looks Fsync u is = refl
sync_looks Dsync u is = refl

-- what is kept of entries leaves what all their calls leave
pub kept_leave : (path : List (List ℕ)) (es : List EntryValue) → CallsLeave path es → AllLeave path (kept es)
kept_leave path es leave x there = let s : Stays es x = stays es x there in leave s.before s.later x s.split

module _ (p : Call → Bool) where
  -- what is kept below the bounds, up to a call that isn't lost
  abbrev pub front_of : List EntryValue → List EntryValue → List Call
  front_of es later = filter p (filter (λ x. not (is_lost later x)) (kept es))

  pub front_leaves : (path : List (List ℕ)) (es later : List EntryValue) → CallsLeave path es → AllLeave path (front_of es later)
  front_leaves path es later leave x there =
      kept_leave path es leave x (from_filter (λ x. not (is_lost later x)) (kept es) x (from_filter p (filter (λ x. not (is_lost later x)) (kept es)) x there))

  pub cut_at : (es later : List EntryValue) (x : Call) → is_lost later x ≡ false → p x ≡ true → filter p (kept (es ++ calls x ∷ later))
      ≡ front_of es (calls x ∷ later) ++ x ∷ filter p (kept later)
  cut_at es later x safe passes =
      ap (filter p) (kept-append es (calls x ∷ later))
      ∙ filter-append p (filter (λ y. not (is_lost (calls x ∷ later) y)) (kept es)) (kept (calls x ∷ later))
      ∙ ap (λ ys. front_of es (calls x ∷ later) ++ filter p ys) (kept_first safe)
      ∙ ap (λ ys. front_of es (calls x ∷ later) ++ ys) (passes_first passes)
    where
      kept_first : is_lost later x ≡ false → kept (calls x ∷ later) ≡ x ∷ kept later
      kept_first safe = rw safe refl

      passes_first : p x ≡ true → filter p (x ∷ kept later) ≡ x ∷ filter p (kept later)
      passes_first passes = rw passes refl

module _ (h : List EntryValue) (bound : ℕ → ℕ) (draft place : List (List ℕ)) (message : List ℕ)
    (legal : IsLegal h) (past : (c : ℕ) → IsPastSyncs h (record { client = c; first = bound c }))
    (d : IsMessageDelivered h draft place message) where
  abbrev below_bound : Call → Bool
  below_bound x = nat_lt x.number (bound x.client)

  -- what stands behind each of the delivery's calls
  abbrev sync_on : List EntryValue
  sync_on = calls d.sync ∷ d.behind

  abbrev move_on : List EntryValue
  move_on = d.moved ++ sync_on

  abbrev write_on : List EntryValue
  write_on = d.written ++ calls d.move ∷ move_on

  abbrev make_on : List EntryValue
  make_on = d.created ++ calls d.write ∷ write_on

  -- and what stands before its sync
  abbrev from_write : List EntryValue
  from_write = d.written ++ calls d.move ∷ d.moved

  abbrev from_make : List EntryValue
  from_make = d.created ++ calls d.write ∷ from_write

  abbrev front : List EntryValue
  front = d.before ++ calls d.make ∷ from_make

  write_is : from_write ++ sync_on ≡ write_on
  write_is = append_assoc d.written (calls d.move ∷ d.moved) sync_on

  make_is : from_make ++ sync_on ≡ make_on
  make_is = append_assoc d.created (calls d.write ∷ from_write) sync_on ∙ ap (λ es. d.created ++ calls d.write ∷ es) write_is

  front_split : h ≡ front ++ sync_on
  front_split = d.split ∙ ap (λ es. d.before ++ calls d.make ∷ es) (sym make_is) ∙ sym (append_assoc d.before (calls d.make ∷ from_make) sync_on)

  to_write : front ≡ (d.before ++ calls d.make ∷ d.created) ++ calls d.write ∷ from_write
  to_write = sym (append_assoc d.before (calls d.make ∷ d.created) (calls d.write ∷ from_write))

  to_move : front ≡ (d.before ++ calls d.make ∷ (d.created ++ calls d.write ∷ d.written)) ++ calls d.move ∷ d.moved
  to_move =
      ap (λ es. d.before ++ calls d.make ∷ es) (sym (append_assoc d.created (calls d.write ∷ d.written) (calls d.move ∷ d.moved)))
      ∙ sym (append_assoc d.before (calls d.make ∷ (d.created ++ calls d.write ∷ d.written)) (calls d.move ∷ d.moved))

  -- each of them is kept, and below the bounds
  module _ (before later : List EntryValue) (x : Call) (there : front ≡ before ++ calls x ∷ later) (client : x.client ≡ d.sync.client) where
    safe : is_lost (later ++ sync_on) x ≡ false
    safe = unlost h front d.behind d.sync legal front_split d.syncs before later x there client

    passes : below_bound x ≡ true
    passes =
        let synced : d.sync.number < bound d.sync.client = past d.sync.client front d.behind d.sync front_split refl d.syncs in
        let earlier : x.number < d.sync.number = earlier_number h front d.behind d.sync legal front_split d.syncs before later x there client in
        let few : x.number < bound x.client = subst (λ c. x.number < bound c) (sym client) (omega (arith, synced, earlier)) in
        lt-ltb x.number (bound x.client) few

  -- behind the move
  behind_sync : CallsLeave place sync_on
  behind_sync [] later x split =
      let same : d.sync ≡ x = cc in subst (Leaves place) same (inr (inl (sync_looks d.sync.op (durability_of d.sync.client front) d.syncs)))
  behind_sync (e ∷ before) later x split = let rest : d.behind ≡ before ++ calls x ∷ later = cc in d.last before later x rest

  behind_move : AllLeave place (kept move_on)
  behind_move x there =
      elim (Contains-append_cases (filter (λ y. not (is_lost sync_on y)) (kept d.moved)) (kept sync_on) x
      (subst (λ ys. Contains ys x) (kept-append d.moved sync_on) there)) [
        | inl early ↦ kept_leave place d.moved d.third x (from_filter (λ y. not (is_lost sync_on y)) (kept d.moved) x early)
        | inr late ↦ kept_leave place sync_on behind_sync x late
      ]

  whole : filter below_bound (kept h) ≡ front_of below_bound d.before
      (calls d.make ∷ make_on) ++ d.make ∷
      (front_of below_bound d.created
      (calls d.write ∷ write_on) ++ d.write ∷ (front_of below_bound d.written (calls d.move ∷ move_on) ++ d.move ∷ filter below_bound (kept move_on)))
  whole =
      ap (λ es. filter below_bound (kept es)) d.split
      ∙ cut_at below_bound d.before make_on d.make (ap (λ es. is_lost es d.make) (sym make_is) ∙ safe d.before from_make d.make refl d.maker)
      (passes d.before from_make d.make refl d.maker)
      ∙ ap (λ ys. front_of below_bound d.before (calls d.make ∷ make_on) ++ d.make ∷ ys)
      (cut_at below_bound d.created write_on d.write
      (ap (λ es. is_lost es d.write) (sym write_is) ∙ safe (d.before ++ calls d.make ∷ d.created) from_write d.write to_write d.writer)
      (passes (d.before ++ calls d.make ∷ d.created) from_write d.write to_write d.writer)
      ∙ ap (λ ys. front_of below_bound d.created (calls d.write ∷ write_on) ++ d.write ∷ ys)
      (cut_at below_bound d.written move_on d.move (safe (d.before ++ calls d.make ∷ (d.created ++ calls d.write ∷ d.written)) d.moved d.move to_move d.mover)
      (passes (d.before ++ calls d.make ∷ (d.created ++ calls d.write ∷ d.written)) d.moved d.move to_move d.mover)))

  pub delivery_stays : IsRun opening (filter below_bound (kept h)) → at (tree_after opening (filter below_bound (kept h))) place ≡ Ok (file message)
  delivery_stays run =
      ap (λ cs. at (tree_after opening cs) place) whole
      ∙ delivered draft place message d.make d.write d.move d.delivery opening
      (front_of below_bound d.before (calls d.make ∷ make_on)) (front_of below_bound d.created (calls d.write ∷ write_on))
      (front_of below_bound d.written (calls d.move ∷ move_on)) (filter below_bound (kept move_on))
      (subst (IsRun opening) whole run)
      (front_leaves below_bound draft d.created (calls d.write ∷ write_on) d.first)
      (front_leaves below_bound draft d.written (calls d.move ∷ move_on) d.second)
      (λ x there. behind_move x (from_filter below_bound (kept move_on) x there))
