-- What is known of a result's value, and what follows of it.
use Rattle.assise_machine.proofs.Common.{IfOk, Result, Ok, Err, Refusal}

pub if_ok_as : {X : Type 0} (r : Result X Refusal) (P Q : X → Type 0) → IfOk r P → ((x : X) → P x → Q x) → IfOk r Q
if_ok_as (Ok x) P Q p f = f x p
if_ok_as (Err e) P Q p f = tt

pub if_ok_both : {X : Type 0} (r : Result X Refusal) (P Q R : X → Type 0) → IfOk r P → IfOk r Q → ((x : X) → P x → Q x → R x) → IfOk r R
if_ok_both (Ok x) P Q R p q f = f x p q
if_ok_both (Err e) P Q R p q f = tt
