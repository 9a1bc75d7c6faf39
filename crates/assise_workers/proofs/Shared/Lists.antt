-- What follows of lists of calls.
use Rattle.assise_workers.proofs.Common.{◌≡◌, ℕ, suc, ◌+◌, ◌<◌, List, [], ◌∷◌, ◌++◌, length, map, take, get_or, sym, refl, ap, ◌∙◌, subst, arith, append_assoc}
use Rattle.assise_workers.proofs.Common.{append-nil, add-zero, length-append, Result, Ok, Err, Bor, map-append, take_more, IfErr, IfOk, Refusal, EntryValue}
use Rattle.assise_workers.proofs.Common.{calls, calls_by, Extends, AreCallsMade, IsCallMade, SeesAll, told_all}
use Rattle.assise_names.specs.declared.call.Op.{Op}
use Rattle.assise_names.specs.declared.reply.Reply.{Reply}
use Rattle.assise_history.specs.Legal.{calls_made}
use Rattle.assise_libfs.specs.Calling.{MayRefuse, SeesCall, told_call}
use Rattle.assise_libfs.proofs.Shared.Tries.{one-extends, others-extends}

pub extends-on : (d b a : List EntryValue) → Extends d b → Extends b a → Extends d a
extends-on d b a e f = (f.0 ++ e.0, e.1 ∙ (ap (λ z. z ++ e.0) f.1 ∙ append_assoc a f.0 e.0))

-- one more of values that are lent
pub lent_more : {A : Type 0} (xs : List (Bor A)) (i : ℕ) (d : Bor A) → i < length xs → map (λ x. x.now) (take (i + 1) xs)
    ≡ map (λ x. x.now) (take i xs) ++ (get_or xs i d).now ∷ []
lent_more xs i d within = ap (map (λ x. x.now)) (take_more xs i d within) ∙ map-append (λ x. x.now) (take i xs) (get_or xs i d ∷ [])

-- two facts of a value that came
pub both_ok : {X E : Type 0} (P Q R : X → Type 0) (r : Result X E) → ((x : X) → P x → Q x → R x) → IfOk r P → IfOk r Q → IfOk r R
both_ok P Q R (Ok x) f p q = f x p q
both_ok P Q R (Err e) f p q = tt

-- the calls of a list behind another go on where those end
pub told-append : (c k : ℕ) (ops : List Op) (rs : List (Result Reply Refusal)) (more : List Op) (came : List (Result Reply Refusal)) → length rs ≡ length ops
    → told_all c k (ops ++ more) (rs ++ came) ≡ told_all c k ops rs ++ told_all c (k + length (told_all c k ops rs)) more came
told-append c k [] [] more came same = ap (λ (j : ℕ). told_all c j more came) (sym (add-zero k))
told-append c k (o ∷ ops) (Ok reply ∷ rs) more came same =
    let first = calls (record { client = c; number = k; op = o; reply = reply }) in
    let n : length rs ≡ length ops = omega (arith, same) in
    let at : (k + 1) + length (told_all c (k + 1) ops rs) ≡ k + suc (length (told_all c (k + 1) ops rs)) = omega arith in
    ap (λ z. first ∷ z) ((told-append c (k + 1) ops rs more came n) ∙ ap (λ (j : ℕ). told_all c (k + 1) ops rs ++ told_all c j more came) at)
told-append c k (o ∷ ops) (Err refusal ∷ rs) more came same = let n : length rs ≡ length ops = omega (arith, same) in told-append c k ops rs more came n
told-append c k _ _ more came same = absurd (omega (arith, same))

-- one call more
pub one_made : (T : ℕ → Op → List EntryValue → Result Reply Refusal → List EntryValue → Type 0) (c : ℕ) (ops : List Op) (a : List EntryValue)
    (rs : List (Result Reply Refusal)) (b : List EntryValue) (op : Op) (r : Result Reply Refusal) (d : List EntryValue)
    → AreCallsMade T c ops a rs b → IsCallMade T c op b r d → AreCallsMade T c (ops ++ op ∷ []) a (rs ++ r ∷ []) d
one_made T c [] a [] b op r d made one = (d, (subst (λ z. IsCallMade T c op z r d) made one, refl))
one_made T c (o ∷ ops) a (q ∷ rs) b op r d made one = (made.0, (made.1.0, one_made T c ops made.0 rs b op r d made.1.1 one))
one_made T c _ a _ b op r d made one = absurd made

module _ (T : ℕ → Op → List EntryValue → Result Reply Refusal → List EntryValue → Type 0) (c : ℕ) (ops : List Op) (a : List EntryValue)
    (rs : List (Result Reply Refusal)) (b : List EntryValue) (s : SeesAll T c ops a rs b) where
  count_more : (op : Op) (r : Result Reply Refusal) → length (rs ++ r ∷ []) ≡ length (ops ++ op ∷ [])
  count_more op r = let n = s.count in omega (arith, length-append rs (r ∷ []), length-append ops (op ∷ []))

  number : calls_made c b ≡ calls_made c a + length (told_all c (calls_made c a) ops rs)
  number = ap length s.told ∙ length-append (calls_by c a) (told_all c (calls_made c a) ops rs)

  pub one_more : (op : Op) (r : Result Reply Refusal) (d : List EntryValue) → IsCallMade T c op b r d → SeesAll T c (ops ++ op ∷ []) a (rs ++ r ∷ []) d
  one_more op (Ok reply) d was =
      let one = was.0 in
      let so_far = told_all c (calls_made c a) ops rs in
      let call : told_call c b op reply ∷ [] ≡ told_all c (calls_made c a + length so_far) (op ∷ []) (Ok reply ∷ []) =
      ap (λ (k : ℕ). calls (record { client = c; number = k; op = op; reply = reply }) ∷ []) number in
      record {
        count = count_more op (Ok reply);
        extends = extends-on d b a (one-extends c b d (told_call c b op reply) one) s.extends;
        told = one.grown ∙ (ap (λ z. z ++ told_call c b op reply ∷ []) s.told ∙ (append_assoc (calls_by c a) so_far (told_call c b op reply ∷ [])
            ∙ ap (λ z. calls_by c a ++ z) (ap (λ z. so_far ++ z) call ∙ sym (told-append c (calls_made c a) ops rs (op ∷ []) (Ok reply ∷ []) s.count))));
        each = one_made T c ops a rs b op (Ok reply) d s.each was;
      }
  one_more op (Err refusal) d was =
      let one = was.0 in
      let so_far = told_all c (calls_made c a) ops rs in
      record {
        count = count_more op (Err refusal);
        extends = extends-on d b a (others-extends c b d one) s.extends;
        told = one.same ∙ (s.told ∙ ap (λ z. calls_by c a ++ z)
            (sym (append-nil so_far) ∙ sym (told-append c (calls_made c a) ops rs (op ∷ []) (Err refusal ∷ []) s.count)));
        each = one_made T c ops a rs b op (Err refusal) d s.each was;
      }

pub one_more_of : (T : ℕ → Op → List EntryValue → Result Reply Refusal → List EntryValue → Type 0) (c d : ℕ) (ops : List Op) (a : List EntryValue)
    (rs : List (Result Reply Refusal)) (b : List EntryValue) (op : Op) (r : Result Reply Refusal) (e : List EntryValue) → d ≡ c
    → SeesAll T c ops a rs b → SeesCall d op b r e → IfErr r (MayRefuse d op e) → T d op b r e → SeesAll T c (ops ++ op ∷ []) a (rs ++ r ∷ []) e
one_more_of T c d ops a rs b op r e same s one fits turns = one_more T c ops a rs b s op r e (subst (λ z. IsCallMade T z op b r e) same (one, (fits, turns)))
