-- What the caller of a turn has seen behind it.
use Rattle.assise_libfs.proofs.Common.{◌≡◌, ℕ, List, Option, Some, Result, Ok, Err, refl, sym, ◌∙◌, subst, IfErr, Op, Refusal, Reply, EntryValue, calls_made}
use Rattle.assise_libfs.proofs.Common.{Extends, ExtendsByOne, calls_by, calls_of, extends-same, extends_by_one, ExtendsByOthers, MayRefuseTry, SeesTry, Tries}
use Rattle.assise_libfs.proofs.Common.{told_call}
use Rattle.assise_libfs.proofs.Shared.Tries.{by_others, others_then_one}

same_calls : (c : ℕ) (o : Option ℕ) (h old : List EntryValue) → o ≡ Some c → calls_of o h ≡ calls_of o old → calls_by c h ≡ calls_by c old
same_calls c o h old is same = subst (λ (z : Option ℕ). calls_of z h ≡ calls_of z old) is same

sees-tried : (c : ℕ) (op : Op) (old h : List EntryValue) (r : Result (Option Reply) Refusal) (h' : List EntryValue) → Extends h old →
    calls_by c h ≡ calls_by c old → Tries c op h r h' → SeesTry c op old r h'
sees-tried c op old h (Ok (Some reply)) h' extends same e =
    let x : _ = record { client = c; number = calls_made c h; op = op; reply = reply } in
    let one : ExtendsByOne c h h' (told_call c h op reply) = subst (λ z. ExtendsByOne c h z (told_call c h op reply)) (sym e)
    (extends_by_one c x h h refl (extends-same h) refl) in
    others_then_one c old h h' op reply (by_others c old h extends same) one
sees-tried c op old h _ h' extends same e = subst (ExtendsByOthers c old) (sym e) (by_others c old h extends same)

-- the state was taken by a pass of this client, and is given back after the try
pub sees : (c : ℕ) (o : Option ℕ) (op : Op) (old h : List EntryValue) (r : Result (Option Reply) Refusal) (h' : List EntryValue) → o ≡ Some c → Extends h old →
    calls_of o h ≡ calls_of o old → Tries c op h r h' → SeesTry c op old r h'
sees c o op old h r h' is extends same e = sees-tried c op old h r h' extends (same_calls c o h old is same) e

-- a refused try is refused for what is seen when the state was given back
pub refused-given : (c : ℕ) (op : Op) (h : List EntryValue) (r : Result (Option Reply) Refusal) (h' s : List EntryValue) → Tries c op h r h' → s ≡ h' →
    IfErr r (MayRefuseTry c op h) → IfErr r (MayRefuseTry c op s)
refused-given c op h (Ok x) h' s e given f = tt
refused-given c op h (Err refusal) h' s e given f = subst (λ z. MayRefuseTry c op z refusal) (sym (given ∙ e)) f
