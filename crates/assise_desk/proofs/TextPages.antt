-- A page of a text, and why there is no text of a tree.
use Rattle.assise_desk.proofs.Common.{◌≡◌, ◌∙◌, ℕ, ◌+◌, ◌<◌, min, List, ◌++◌, length, take, Option, None, Some, MatchOption, ◌⊎◌, Result, Ok, Err, IsOkUnless}
use Rattle.assise_desk.proofs.Common.{refl, ap, sym, arith, inl, inr, length-take, Refusal, OutOfMemory, take_all}
use Rattle.assise_seq_tree.specs.Tree.{Tree}
use Rattle.std.proofs.lemmas.Bool.{cases_lt}

pub page_shown : (place : Option ℕ) (most n : ℕ) (old out page left : List ℕ) → page ≡ take n left → n ≡ min (length left) most →
    MatchOption place (most < 0 + length page) (λ next. next ≡ 0 + length page) →
    MatchOption place (out ≡ old) (λ next. take next out ≡ take 0 old ++ page) → take n out ≡ take most left
page_shown None most n old out page left is count none written = absurd (omega (arith, none, count, ap length is ∙ length-take n left))
page_shown (Some next) most n old out page left is count at written =
    let long : length page ≡ n = omega (arith, count, ap length is ∙ length-take n left) in
    let end : next ≡ n = omega (arith, at, long) in
    let all : take n left ≡ take most left =
    elim (cases_lt most (length left)) [
      | inl less ↦ let same : n ≡ most = omega (arith, count, less) in ap (λ k. take k left) same
      | inr more ↦ let same : n ≡ length left =
          omega (arith, count, more) in ap (λ k. take k left) same ∙ take_all (length left) left (omega arith) ∙ sym (take_all most left (omega (arith, more)))
    ] in
    ap (λ k. take k out) (sym end) ∙ written ∙ is ∙ all

-- why a node has no tree
pub why_no_tree : (r : Result Tree Refusal) (refusal : Refusal) (fault : Option Refusal) → r ≡ Err refusal → ((e : Refusal) → fault ≡ Some e → r ≡ Err e) →
    (fault ≡ None → IsOkUnless r OutOfMemory) →
    (refusal ≡ OutOfMemory) ⊎ (fault ≡ Some refusal)
why_no_tree (Ok tree) refusal fault is faulty only = cc
why_no_tree (Err e) refusal None is faulty only = let lacks : e ≡ OutOfMemory = only refl in inl (cc (is, lacks))
why_no_tree (Err e) refusal (Some f) is faulty only = inr (cc (is, faulty f refl))
