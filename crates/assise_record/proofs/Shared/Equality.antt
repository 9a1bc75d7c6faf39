-- The comparison of effects says whether they are the same.
use Rattle.assise_record.proofs.Common.{rules, ◌≡◌, ◌==◌, ◌&&◌, ℕ, List, Bool, ap, ◌∙◌, pointwise, pointwise_decides, Patch, LogRecord, Effect, NewFile, NewDir}
use Rattle.assise_record.proofs.Common.{Write, SetLen, Link, Unlink, Free, arith}
use Rattle.std.specs.Bool.{Decides}
use Rattle.std.specs.Cmp.{unsigned_Decides}
use Rattle.assise_record.specs.contracts.effect.EffectPartialEq.TheImpl.{eq-value}
use Rattle.assise_record.specs.contracts.record.RecordPartialEq.TheImpl.{eq-value as record-eq}

names_decided : (xs ys : List ℕ) → Decides (pointwise ◌==◌ xs ys) (xs ≡ ys)
names_decided = pointwise_decides unsigned_Decides

abbrev same_patch : Patch → Patch → Bool
same_patch p q = (p.offset == q.offset) && pointwise ◌==◌ p.bytes q.bytes

alike : (p q : Patch) → p.offset ≡ q.offset → p.bytes ≡ q.bytes → p ≡ q
alike p q offsets bytes = ap (λ (o : ℕ). record p { offset = o }) offsets ∙ ap (λ (b : List ℕ). record q { bytes = b }) bytes

patches_decided : (p q : Patch) → Decides (same_patch p q) (p ≡ q)
patches_decided p q = grind (arith, names_decided)

-- the test of the fields decides the effects of one kind
fields_decided : (b : Bool) {P Q : Type 0} → Decides b P → (P → Q) → (Q → P) → Decides b Q
fields_decided b p to from = ((λ h. to (p.0 h)), (λ h. p.1 (from h)))

writes_decided : (i j : ℕ) (p q : Patch) → Decides ((i == j) && same_patch p q) (Write i p ≡ Write j q)
writes_decided i j p q = grind (arith, patches_decided)

unlinks_decided : (d e : ℕ) (n m : List ℕ) → Decides ((d == e) && pointwise ◌==◌ n m) (Unlink d n ≡ Unlink e m)
unlinks_decided d e n m = grind (arith, names_decided)

links_decided : (d e : ℕ) (n m : List ℕ) (i j : ℕ) → Decides ((d == e) && (pointwise ◌==◌ n m && (i == j))) (Link d n i ≡ Link e m j)
links_decided d e n m i j = grind (arith, names_decided)

pub effects_decided : (a b : Effect) → Decides (eq-value.it a b) (a ≡ b)
effects_decided (NewFile i) b = search rules
effects_decided (NewDir i) b = search rules
effects_decided (Write i p) (Write j q) = writes_decided i j p q
effects_decided (Write i p) b = search rules
effects_decided (SetLen i n) b = search rules
effects_decided (Link d n i) (Link e m j) = links_decided d e n m i j
effects_decided (Link d n i) b = search rules
effects_decided (Unlink d n) (Unlink e m) = unlinks_decided d e n m
effects_decided (Unlink d n) b = search rules
effects_decided (Free i) b = search rules

alike_records : (r s : LogRecord) → r.call ≡ s.call → r.effects ≡ s.effects → r ≡ s
alike_records r s calls effects = ap (λ (n : ℕ). record r { call = n }) calls ∙ ap (λ (es : List Effect). record s { effects = es }) effects

pub records_decided : (r s : LogRecord) → Decides (record-eq.it r s) (r ≡ s)
records_decided r s = grind (arith, pointwise_decides effects_decided r.effects s.effects)
