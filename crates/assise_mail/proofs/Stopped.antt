-- Where calls in order stop.
use Rattle.assise_mail.proofs.Common.{◌≡◌, ℕ, zero, suc, ◌+◌, ◌<◌, Bool, true, false, not, true≢false, List, [], ◌∷◌, ◌++◌, length, take, drop, get_or, refl}
use Rattle.assise_mail.proofs.Common.{ap, sym, subst, ◌∙◌, arith, Result, Ok, Err, IfErr, EntryValue, SeesAll, AnyTurns, ComesToElse, StopsAt, replies_of}
use Rattle.assise_mail.proofs.Common.{ops_of}
use Rattle.std.specs.Result.{IsErrAnd}
use Rattle.std.proofs.lemmas.List.{map_push, take_more}
use Rattle.assise_names.specs.contracts.reply.ReplyPartialEq.TheImpl.{eq-value}
use Rattle.assise_names.specs.declared.refusal.Refusal.{Refusal}
use Rattle.assise_names.specs.declared.reply.Reply.{Reply}
use Rattle.assise_history.proofs.Shared.Replies.{equal_replies}
use Rattle.assise_libfs.specs.Calling.{SeesCall}
use Rattle.assise_workers.proofs.Shared.Lists.{one_more_of}
use Rattle.assise_mail.specs.declared.fault.MailFault.{MailFault}
use Rattle.assise_mail.specs.declared.due_call.DueCall.{DueCall}

-- ---- whether a reply is the one that is due

not-false : (x : Bool) → not x ≡ false → x ≡ true
not-false true is = refl
not-false false is = sym is

not-true : (x : Bool) → not x ≡ true → x ≡ true → ⊥
not-true true is h = true≢false (sym is)
not-true false is h = true≢false (sym h)

pub is_due : (a b : Reply) (r : Bool) → r ≡ not (eq-value.it a b) → r ≡ false → a ≡ b
is_due a b r is h = (equal_replies a b (eq-value.it a b) refl).0 (not-false (eq-value.it a b) (sym is ∙ h))

pub is_not_due : (a b : Reply) (r : Bool) → r ≡ not (eq-value.it a b) → r ≡ true → a ≡ b → ⊥
is_not_due a b r is h same = not-true (eq-value.it a b) (sym is ∙ h) ((equal_replies a b (eq-value.it a b) refl).1 same)

-- ---- what a refused call makes of a fault

abbrev is_ok : Result Reply Refusal → Bool
is_ok (Ok reply) = true
is_ok (Err refusal) = false

pub err≢ok : {refusal : Refusal} {reply : Reply} → ◌≡◌ {A = Result Reply Refusal} (Err refusal) (Ok reply) → ⊥
err≢ok is = true≢false (sym (ap is_ok is))

abbrev reply_or : Reply → Result Reply Refusal → Reply
reply_or d (Ok reply) = reply
reply_or d (Err refusal) = d

pub ok-value : {a b : Reply} → ◌≡◌ {A = Result Reply Refusal} (Ok a) (Ok b) → a ≡ b
ok-value {a} is = ap (reply_or a) is

pub where_err : (r : Result (Unit {0}) MailFault) (IsThis Leaves : MailFault → Type 0) → IsErrAnd r IsThis →
    ((fault : MailFault) → IsThis fault → Leaves fault) → IfErr r Leaves
where_err (Ok x) IsThis Leaves h leaves = tt
where_err (Err fault) IsThis Leaves h leaves = leaves fault h

-- ---- a place among calls

split_at : (xs : List DueCall) (i : ℕ) (d : DueCall) → i < length xs → xs ≡ take i xs ++ get_or xs i d ∷ drop (suc i) xs
split_at [] i d there = absurd (omega (arith, there))
split_at (x ∷ xs) zero d there = refl
split_at (x ∷ xs) (suc i) d there = ap (λ ys. x ∷ ys) (split_at xs i d (omega (arith, there)))

module _ (c : ℕ) (calls : List DueCall) (i : ℕ) (wanted : DueCall) (h between new : List EntryValue) (there : i < length calls)
    (is : get_or calls i wanted ≡ wanted)
    (sees : SeesAll AnyTurns c (ops_of (take i calls)) h (replies_of (take i calls)) between) where
  pub one_call_more : (d : ℕ) (reply : Reply) → d ≡ c → reply ≡ wanted.reply → SeesCall d wanted.op between (Ok reply) new →
      SeesAll AnyTurns c (ops_of (take (i + 1) calls)) h (replies_of (take (i + 1) calls)) new
  one_call_more d reply same due one =
      let more : take (i + 1) calls ≡ take i calls ++ wanted ∷ [] = take_more calls i wanted there ∙ ap (λ s. take i calls ++ s ∷ []) is in
      let ops : ops_of (take (i + 1) calls) ≡ ops_of (take i calls) ++ wanted.op ∷ [] = ap ops_of more ∙ map_push (λ (s : DueCall). s.op) (take i calls) wanted
      in
      let dues : replies_of (take (i + 1) calls) ≡ replies_of (take i calls) ++ Ok wanted.reply ∷ [] = ap replies_of more
      ∙ map_push (λ (s : DueCall). Ok s.reply) (take i calls) wanted in
      let all : SeesAll AnyTurns c (ops_of (take i calls) ++ wanted.op ∷ []) h (replies_of (take i calls) ++ Ok wanted.reply ∷ []) new =
      one_more_of AnyTurns c d (ops_of (take i calls)) h (replies_of (take i calls)) between wanted.op (Ok wanted.reply) new same sees
      (subst (λ r. SeesCall d wanted.op between (Ok r) new) due one) tt tt in
      subst (λ os. SeesAll AnyTurns c os h (replies_of (take (i + 1) calls)) new) (sym ops)
      (subst (λ ds. SeesAll AnyTurns c (ops_of (take i calls) ++ wanted.op ∷ []) h ds new) (sym dues) all)

  pub stops_here : (d : ℕ) (fault : MailFault) → d ≡ c → ComesToElse d wanted.op (λ reply. reply ≡ wanted.reply) between fault new → StopsAt c calls h fault new
  stops_here d fault same other = record {
    made = take i calls;
    wanted = wanted;
    rest = drop (suc i) calls;
    between = between;
    split = split_at calls i wanted there ∙ ap (λ s. take i calls ++ s ∷ drop (suc i) calls) is;
    sees = sees;
    stops = subst (λ k. ComesToElse k wanted.op (λ reply. reply ≡ wanted.reply) between fault new) same other;
  }
