use Rattle.std.proofs.Common.{IfSome, None, Option, Some, refl}
use Rattle.assise_link_tests.proofs.noting.sent.Goals as goal

mapped : {X : Type 0} (r : Option X) (P Q : X → Type 0) → ((x : X) → P x → Q x) → IfSome r P → IfSome r Q
mapped None P Q f h = tt
mapped (Some x) P Q f h = f x h

pub returns-clause-noted : goal.returns-clause-noted
returns-clause-noted c = mapped c.carry_frame.result _ _ (λ came over. (over.given over.bytes refl).1) c.carry_frame.ensures.came
