-- A call isn't lost while its client may call, nor behind a sync.
use Rattle.assise_mail.proofs.Common.{◌≡◌, ℕ, ◌+◌, ◌<◌, true, false, if◌then◌else◌, ◌==◌, List, [], ◌∷◌, ◌++◌, refl, ap, sym, subst, ◌∙◌, inl, inr, arith}
use Rattle.assise_mail.proofs.Common.{eq-eqb, append_assoc, false_from_ne_true, Durability, Call, EntryValue, opens, calls, fails, IsTaken, is_lost, Fits}
use Rattle.assise_mail.proofs.Common.{IsFair, IsLegal, IsNextCall, MayCall, MayLose, calls_made, is_failure_of, syncs, made_append, next_opened, opened_within}
use Rattle.assise_mail.proofs.Common.{along, fits_in, prefix_in, taken, is_lost-append}
use Rattle.assise_history.proofs.Shared.LivesOneMore.{StillCalls, may_call-last, one_place}
use Rattle.assise_history.proofs.Shared.TestedElements.{cut_end, not_nil}

one_of : (e f : EntryValue) (before behind : List EntryValue) → e ∷ [] ≡ before ++ f ∷ behind → e ≡ f
one_of e f [] behind same = cc
one_of e f (b ∷ before) behind same = let tail : [] ≡ before ++ f ∷ behind = cc in absurd (not_nil before behind f tail)

-- ---- while the client may call

-- the client was opened before its call
call_is_of_opened : (h before later : List EntryValue) (e : EntryValue) (c n : ℕ) (u : Durability) (x : Call) → IsLegal h → Fits h e → e ≡ opens c n u →
    h ≡ before ++ calls x ∷ later → x.client ≡ c → ⊥
call_is_of_opened h before later e c n u x legal fits new split client =
    let call : IsNextCall before x = (fits_in h before later (calls x) legal split).follows in
    let ready : MayCall before x.client = call.ready in
    let o = ready.opened in
    let opened : h ≡ o.before ++ opens x.client ready.node o.durability ∷ (o.since ++ calls x ∷ later) =
    split ∙ ap (λ es. es ++ calls x ∷ later) o.split ∙ append_assoc o.before (opens x.client ready.node o.durability ∷ o.since) (calls x ∷ later) in
    let within = opened_within h o.before (o.since ++ calls x ∷ later) x.client ready.node o.durability legal opened in
    let next = next_opened h c n u (subst (Fits h) new fits) in
    omega (arith, within, next, client)

-- the next entry takes none of the client's calls, where the client may call behind it
next_takes_none : (h : List EntryValue) (e : EntryValue) (c : ℕ) (x : Call) → IsLegal h → Fits h e → StillCalls h e c → x.client ≡ c →
    is_lost (e ∷ []) x ≡ true → ⊥
next_takes_none h e c x legal fits still client lost =
    let w : IsTaken (e ∷ []) x = taken (e ∷ []) x lost in
    let fails_is : e ≡ fails w.node w.losses = one_of e (fails w.node w.losses) w.before w.behind w.split in
    let fair : IsFair h w.node w.losses = (subst (Fits h) fails_is fits).follows in
    let may : MayLose h w.node w.loss = fair.each w.lower w.higher w.loss w.listed in
    let on = may.on.opened in
    let m = still.could in
    let now = m.opened in
    let one : w.loss.client ≡ c = w.client ∙ client in
    let opened : h ≡ on.before ++ opens c w.node on.durability ∷ on.since = subst (λ d. h ≡ on.before ++ opens d w.node on.durability ∷ on.since) one on.split
    in
    let same = one_place h legal c w.node m.node on.durability now.durability on.before on.since now.before now.since opened now.split in
    let failed : is_failure_of m.node e ≡ true = ap (is_failure_of m.node) fails_is ∙ eq-eqb m.node w.node (sym same.node) in
    let no = sym failed ∙ still.no_failure in
    cc

abbrev NoneLost : List EntryValue → Type 0
NoneLost h = (c : ℕ) → MayCall h c → (before later : List EntryValue) (x : Call) → h ≡ before ++ calls x ∷ later → x.client ≡ c → is_lost later x ≡ false

none_lost_more : (h : List EntryValue) (e : EntryValue) → IsLegal h → Fits h e → NoneLost h → NoneLost (h ++ e ∷ [])
none_lost_more h e legal fits before_it c m before later x split client =
    elim (cut_end h e before (calls x) later split) [
      | inl last ↦ ap (λ es. is_lost es x) last.more_is
      | inr earlier ↦ elim (may_call-last h e c m) [
        | inl new ↦ absurd (call_is_of_opened h before earlier.rest e c new.0 new.1.0 x legal fits new.1.1 earlier.split client)
        | inr still ↦
            let first = before_it c still.could before earlier.rest x earlier.split client in
            let second : is_lost (e ∷ []) x ≡ false = false_from_ne_true (is_lost (e ∷ []) x) (next_takes_none h e c x legal fits still client) in
            ap (λ es. is_lost es x) earlier.more_is ∙ is_lost-append earlier.rest (e ∷ []) x
            ∙ ap (λ b. if b then true else is_lost (e ∷ []) x) first ∙ second
      ]
    ]

pub none_lost : (h : List EntryValue) → IsLegal h → NoneLost h
none_lost = along NoneLost (λ c m before later x split client. absurd (not_nil before later (calls x) split)) none_lost_more

-- ---- behind a sync

module _ (h front behind : List EntryValue) (sync : Call) (legal : IsLegal h) (split : h ≡ front ++ calls sync ∷ behind) (is_sync : syncs front sync ≡ true)
  where
    next : IsNextCall front sync
    next = (fits_in h front behind (calls sync) legal split).follows

    module _ (before later : List EntryValue) (x : Call) (there : front ≡ before ++ calls x ∷ later) (client : x.client ≡ sync.client) where
      x_split : h ≡ before ++ calls x ∷ (later ++ calls sync ∷ behind)
      x_split = split ∙ ap (λ es. es ++ calls sync ∷ behind) there ∙ append_assoc before (calls x ∷ later) (calls sync ∷ behind)

      x_next : IsNextCall before x
      x_next = (fits_in h before (later ++ calls sync ∷ behind) (calls x) legal x_split).follows

      pub earlier_number : x.number < sync.number
      earlier_number =
          let own : (sync.client == x.client) ≡ true = eq-eqb sync.client x.client (sym client) in
          let all : calls_made sync.client front ≡ calls_made sync.client before + calls_made sync.client (calls x ∷ later) = ap (calls_made sync.client) there
          ∙ made_append sync.client before (calls x ∷ later) in
          let some : calls_made sync.client (calls x ∷ later) ≡ calls_made sync.client later + 1 = rw own (omega arith) in
          let mine : x.number ≡ calls_made sync.client before = x_next.number ∙ ap (λ c. calls_made c before) client in
          let last : sync.number ≡ calls_made sync.client front = next.number in
          omega (arith, all, some, mine, last)

      taken_later : is_lost behind x ≡ true → ⊥
      taken_later lost =
          let w : IsTaken behind x = taken behind x lost in
          let prefix = front ++ calls sync ∷ w.before in
          let cut : h ≡ prefix ++ fails w.node w.losses ∷ w.behind = split ∙ ap (λ es. front ++ calls sync ∷ es) w.split
          ∙ sym (append_assoc front (calls sync ∷ w.before) (fails w.node w.losses ∷ w.behind)) in
          let fair : IsFair prefix w.node w.losses = (fits_in h prefix w.behind (fails w.node w.losses) legal cut).follows in
          let may : MayLose prefix w.node w.loss = fair.each w.lower w.higher w.loss w.listed in
          let past = may.past front w.before sync refl (sym client ∙ sym w.client) is_sync in
          omega (arith, past, w.first, earlier_number)

      pub unlost : is_lost (later ++ calls sync ∷ behind) x ≡ false
      unlost =
          is_lost-append later (calls sync ∷ behind) x
          ∙ ap (λ b. if b then true else is_lost behind x)
          (none_lost front (prefix_in h front (calls sync ∷ behind) legal split) sync.client next.ready before later x there client)
          ∙ false_from_ne_true (is_lost behind x) taken_later
