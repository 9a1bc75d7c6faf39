-- What follows from what tries and calls make of what their caller has seen.
use Rattle.assise_libfs.proofs.Common.{◌≡◌, ℕ, ◌+◌, ◌≤◌, List, [], ◌∷◌, ◌++◌, length, sym, refl, ap, ◌∙◌, subst, arith, append_assoc, append-nil, add-zero}
use Rattle.assise_libfs.proofs.Common.{length-append, Option, Some, Result, Ok, Err, IfOk, ∥∥₁_elim, fits_in, prefix_in, Op, Durability, Refusal, Reply}
use Rattle.assise_libfs.proofs.Common.{EntryValue, opens, calls, IsLegal, IsOpenedOn, calls_made, clients_opened, early, next_opened, calls_by, Extends}
use Rattle.assise_libfs.proofs.Common.{ExtendsByOne, calls-append, told_call, ExtendsByOthers, SeesTry, answers}
use Rattle.std.proofs.Math.Bridge.{le_prop}
use Rattle.std.proofs.lemmas.List.{append_cancel_left}
use Rattle.assise_history.proofs.Shared.LivesOneMore.{made-still}

-- what was taken extends by others what was seen
pub by_others : (c : ℕ) (old taken : List EntryValue) → Extends taken old → calls_by c taken ≡ calls_by c old → ExtendsByOthers c old taken
by_others c old taken extends same = record {
  between = extends.0;
  split = extends.1;
  others =
      append_cancel_left (calls_by c old) (calls_by c extends.0) []
      (sym (calls-append c old extends.0) ∙ (ap (calls_by c) (sym extends.1) ∙ (same ∙ sym (append-nil (calls_by c old)))));
  same = same;
}

-- others, and then others
pub others_then_others : (c : ℕ) (a b d : List EntryValue) → ExtendsByOthers c a b → ExtendsByOthers c b d → ExtendsByOthers c a d
others_then_others c a b d o e = record {
  between = o.between ++ e.between;
  split = e.split ∙ (ap (λ z. z ++ e.between) o.split ∙ append_assoc a o.between e.between);
  others = calls-append c o.between e.between ∙ (ap (λ z. z ++ calls_by c e.between) o.others ∙ e.others);
  same = e.same ∙ o.same;
}

told_same : (c : ℕ) (a b : List EntryValue) (op : Op) (reply : Reply) → calls_by c b ≡ calls_by c a → told_call c b op reply ≡ told_call c a op reply
told_same c a b op reply same = ap (λ (k : ℕ). calls (record { client = c; number = k; op = op; reply = reply })) (ap length same)

-- others, and then the call
pub others_then_one : (c : ℕ) (a b d : List EntryValue) (op : Op) (reply : Reply) → ExtendsByOthers c a b → ExtendsByOne c b d (told_call c b op reply) →
    ExtendsByOne c a d (told_call c a op reply)
others_then_one c a b d op reply o e = let call = told_same c a b op reply o.same in record {
  between = o.between ++ e.between;
  split = e.split ∙ (ap (λ z. (z ++ e.between) ++ told_call c b op reply ∷ []) o.split
      ∙ (ap (λ z. z ++ told_call c b op reply ∷ []) (append_assoc a o.between e.between) ∙ ap (λ z. (a ++ (o.between ++ e.between)) ++ z ∷ []) call));
  others = calls-append c o.between e.between ∙ (ap (λ z. z ++ calls_by c e.between) o.others ∙ e.others);
  grown = e.grown ∙ (ap (λ z. z ++ told_call c b op reply ∷ []) o.same ∙ ap (λ z. calls_by c a ++ z ∷ []) call);
}

others_then_own : (c : ℕ) (op : Op) (a b : List EntryValue) (r : Result (Option Reply) Refusal) (e : List EntryValue) → ExtendsByOthers c a b →
    SeesTry c op b r e → SeesTry c op a r e
others_then_own c op a b (Ok (Some reply)) e o s = others_then_one c a b e op reply o s
others_then_own c op a b _ e o s = others_then_others c a b e o s

-- others, and then a try
pub others_then_try : (c d : ℕ) (op : Op) (a b : List EntryValue) (r : Result (Option Reply) Refusal) (e : List EntryValue) → d ≡ c → ExtendsByOthers c a b →
    SeesTry d op b r e → SeesTry c op a r e
others_then_try c d op a b r e same o s = others_then_own c op a b r e o (subst (λ z. SeesTry z op b r e) same s)

-- ---- what was seen goes on

pub one-extends : (c : ℕ) (a d : List EntryValue) (x : EntryValue) → ExtendsByOne c a d x → Extends d a
one-extends c a d x e = (e.between ++ x ∷ [], e.split ∙ append_assoc a e.between (x ∷ []))

pub others-extends : (c : ℕ) (a d : List EntryValue) → ExtendsByOthers c a d → Extends d a
others-extends c a d o = (o.between, o.split)

pub try-extends : (c : ℕ) (op : Op) (a : List EntryValue) (r : Result (Option Reply) Refusal) (d : List EntryValue) → SeesTry c op a r d → Extends d a
try-extends c op a (Ok (Some reply)) d s = one-extends c a d (told_call c a op reply) s
try-extends c op a _ d s = others-extends c a d s

pub opened-extends : (c n : ℕ) (a d : List EntryValue) → Extends d a → IsOpenedOn a c n → IsOpenedOn d c n
opened-extends c n a d e o = record {
  durability = o.durability;
  before = o.before;
  since = o.since ++ e.0;
  split = e.1 ∙ (ap (λ z. z ++ e.0) o.split ∙ append_assoc o.before (opens c n o.durability ∷ o.since) e.0);
}

-- ---- counts

pub try-counts : (c : ℕ) (op : Op) (a : List EntryValue) (r : Result (Option Reply) Refusal) (d : List EntryValue) → SeesTry c op a r d →
    calls_made c d ≡ calls_made c a + answers r
try-counts c op a (Ok (Some reply)) d s = ap length s.grown ∙ length-append (calls_by c a) (told_call c a op reply ∷ [])
try-counts c op a _ d s = ap length s.same ∙ sym (add-zero (calls_made c a))

pub answers-few : (r : Result (Option Reply) Refusal) → answers r ≤ 1
answers-few (Ok (Some reply)) = omega arith
answers-few _ = omega arith

-- ---- a client that was just opened

pub none_yet : (h : List EntryValue) (c n : ℕ) (u : Durability) → IsLegal (h ++ opens c n u ∷ []) → calls_made c (h ++ opens c n u ∷ []) ≡ 0
none_yet h c n u legal =
    let next : c ≡ clients_opened h + 1 = next_opened h c n u (fits_in (h ++ opens c n u ∷ []) h [] (opens c n u) legal refl) in
    made-still h (opens c n u) c refl ∙ early h (prefix_in (h ++ opens c n u ∷ []) h (opens c n u ∷ []) legal refl) c (omega arith)

-- the client that was opened, if one was, has no calls
pub none_of_opened : {X : Type 0} (h h' : List EntryValue) (n : ℕ) (u : Durability) (r : Result ℕ X) → IfOk r (λ c. h' ≡ h ++ opens c n u ∷ []) →
    ∥ IsLegal h' ∥₁ → IfOk r (λ c. calls_made c h' ≡ 0)
none_of_opened h h' n u (Ok c) e legal =
    let few : calls_made c h' ≤ 0 = ∥∥₁_elim legal le_prop (λ l. let none = none_yet h c n u (subst IsLegal e l) in let same = ap (calls_made c) e in
    omega arith) in
    omega arith
none_of_opened h h' n u (Err x) e legal = tt
