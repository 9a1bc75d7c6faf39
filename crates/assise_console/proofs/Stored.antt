-- What an open leaves of a stock, and what it stores.
use Rattle.assise_console.proofs.Common.{◌≡◌, ℕ, List, ◌++◌, Option, Result, Ok, Err, OnErr, refl, ap, sym, subst, Refusal, digested, not_yet, opened, refused}
use Rattle.assise_console.proofs.Common.{released, replied, opened_answer, Response, Quiet, Client, Replied, Waits, Refused, Carried, Digested, Released}
use Rattle.assise_console.proofs.Common.{Linked, HotSet, Crashed, Failed, Began, Left, Returned, Raised, Tree, History, Checked, Tells, RevokerKind, Least}
use Rattle.assise_console.proofs.Common.{Whole, Eights}
use Rattle.std.specs.Option.{option_to_list}
use Rattle.assise_console.specs.declared.stock.Stock.{Stock}
use Rattle.assise_console.specs.Stored.{revokers_left}
use Rattle.std.specs.Global.{Vec}

same_client : (c d : ℕ) → opened d ≡ opened c → d ≡ c
same_client c d is = cc

-- who tells that a client was opened answers with that client
tells_opened : (a : Response) (c : ℕ) → Tells a (opened c) → a ≡ Client c
tells_opened (Client d) c tells = ap Client (same_client c d (sym tells))
tells_opened (Replied reply) c tells = absurd (let bad : opened c ≡ replied reply = tells in cc)
tells_opened Waits c tells = absurd (let bad : opened c ≡ not_yet = tells in cc)
tells_opened (Refused refusal) c tells = absurd (let bad : opened c ≡ refused refusal = tells in cc)
tells_opened (Digested count) c tells = absurd (let bad : opened c ≡ digested count = tells in cc)
tells_opened (Released count) c tells = absurd (let bad : opened c ≡ released count = tells in cc)
tells_opened Quiet c tells = absurd tells
tells_opened (Carried count) c tells = absurd tells
tells_opened (Linked node) c tells = absurd tells
tells_opened (HotSet node) c tells = absurd tells
tells_opened (Crashed client) c tells = absurd tells
tells_opened (Failed node losses) c tells = absurd tells
tells_opened (Began node stale) c tells = absurd tells
tells_opened (Left stale) c tells = absurd tells
tells_opened (Returned node) c tells = absurd tells
tells_opened (Raised node) c tells = absurd tells
tells_opened (Tree tree) c tells = absurd tells
tells_opened History c tells = absurd tells
tells_opened (Checked legal) c tells = absurd tells

kept_of : (P : Type 0) (a : Response) (r : Result ℕ Refusal) → Tells a (opened_answer r) → OnErr r P → ((c : ℕ) → a ≡ Client c → ⊥) → P
kept_of P a (Ok c) tells p none = absurd (none c (tells_opened a c tells))
kept_of P a (Err e) tells p none = p

module _ {C : Type 0} (a : Response) (r : Result ℕ Refusal) (old new : List C) (was now : ℕ → Option C) (tells : Tells a (opened_answer r)) where
  pub takes : ((c : ℕ) → opened_answer r ≡ opened c → old ≡ new ++ option_to_list (now c)) → (c : ℕ) → a ≡ Client c → old ≡ new ++ option_to_list (now c)
  takes gets c is = gets c (subst (λ b. Tells b (opened_answer r)) is tells)

  pub kept : OnErr r (new ≡ old) → ((c : ℕ) → a ≡ Client c → ⊥) → new ≡ old
  kept same none = kept_of (new ≡ old) a r tells same none

  pub others_stay : ((c : ℕ) → (opened_answer r ≡ opened c → ⊥) → now c ≡ was c) → (c : ℕ) → (a ≡ Client c → ⊥) → now c ≡ was c
  others_stay others c other = others c (λ is. other (tells_opened a c (subst (λ e. Tells a e) is tells)))

-- ---- the other kinds

pub other_kinds_least : {C : Type 0} (s : Stock C) (v : Vec C) (k : RevokerKind) → (k ≡ Least → ⊥) → revokers_left k (record s { least = v })
    ≡ revokers_left k s
other_kinds_least s v Least other = absurd (other refl)
other_kinds_least s v Whole other = refl
other_kinds_least s v Eights other = refl

pub other_kinds_whole : {C : Type 0} (s : Stock C) (v : Vec C) (k : RevokerKind) → (k ≡ Whole → ⊥) → revokers_left k (record s { whole = v })
    ≡ revokers_left k s
other_kinds_whole s v Least other = refl
other_kinds_whole s v Whole other = absurd (other refl)
other_kinds_whole s v Eights other = refl

pub other_kinds_eights : {C : Type 0} (s : Stock C) (v : Vec C) (k : RevokerKind) → (k ≡ Eights → ⊥) → revokers_left k (record s { eights = v })
    ≡ revokers_left k s
other_kinds_eights s v Least other = refl
other_kinds_eights s v Whole other = refl
other_kinds_eights s v Eights other = absurd (other refl)
