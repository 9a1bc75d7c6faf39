-- The derived comparison of replies says whether they are the same.
use Rattle.assise_history.proofs.Common.{rules, ◌≡◌, ◌↔◌, ◌==◌, ℕ, List, Bool, refl, arith}
use Rattle.std.specs.Prelude.{IsTrue}
use Rattle.std.specs.Cmp.Lexicographic.{pointwise}
use Rattle.std.specs.Bool.{Decides}
use Rattle.std.specs.Cmp.{unsigned_Decides}
use Rattle.std.proofs.lemmas.Slice.Eq.{slice_eq-Decides}
use Rattle.assise_names.specs.declared.reply.Reply.{Reply}
use Rattle.assise_names.specs.declared.reply.Reply.TheVariants.{Done, Bytes, Names, File, Dir, Error}
use Rattle.assise_names.specs.contracts.reply.ReplyPartialEq.TheImpl.{eq-value}

-- two lists of names are compared byte by byte
names_decided : (xs ys : List (List ℕ)) → Decides (pointwise (pointwise ◌==◌) xs ys) (xs ≡ ys)
names_decided xs ys = slice_eq-Decides (λ a b. slice_eq-Decides unsigned_Decides a b _ refl) xs ys _ refl

equal_names : (xs ys : List (List ℕ)) (r : Bool) → r ≡ pointwise (pointwise ◌==◌) xs ys → IsTrue r ↔ (Names xs ≡ Names ys)
equal_names xs ys r e = grind (arith, names_decided)

pub equal_replies : (a b : Reply) (r : Bool) → r ≡ eq-value.it a b → IsTrue r ↔ (a ≡ b)
equal_replies (Names xs) (Names ys) r e = equal_names xs ys r e
equal_replies (Names xs) Done r e = search rules
equal_replies (Names xs) (Bytes ys) r e = search rules
equal_replies (Names xs) (File n) r e = search rules
equal_replies (Names xs) (Dir n) r e = search rules
equal_replies (Names xs) (Error x) r e = search rules
equal_replies Done b r e = search rules
equal_replies (Bytes xs) b r e = search rules
equal_replies (File n) b r e = search rules
equal_replies (Dir n) b r e = search rules
equal_replies (Error x) b r e = search rules
