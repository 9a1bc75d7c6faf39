-- Which effects of a list count for nothing, because of later ones.
-- Assise (OSDI 2020), section 3 (CC-NVM: in optimistic mode update logs are coalesced before they are replicated).
use Rattle.std.specs.Prelude.{ℕ, ◌+◌, ◌==◌, nat_le, Bool, false, ◌&&◌, if◌then◌else◌, List, [], ◌∷◌, length}
use Rattle.std.specs.List.{list_any}
use Rattle.std.specs.Ordering.{nat_cmp, is_eq}
use Rattle.std.specs.Cmp.Lexicographic.{slice_cmp}
use Rattle.assise_record.specs.declared.effect.Effect.{Effect}
use Rattle.assise_record.specs.declared.effect.Effect.TheVariants.{NewFile, NewDir, Write, SetLen, Link, Unlink, Free}
use Rattle.assise_record.specs.Patch.{Patch}
use Rattle.assise_record.specs.Touched.{touched_by}

-- the bytes of the second lie within those of the first
abbrev pub covers : Patch → Patch → Bool
covers q p = nat_le q.offset p.offset && nat_le (p.offset + length p.bytes) (q.offset + length q.bytes)

-- a write of bytes within these
abbrev pub is_write_within : ℕ → Patch → Effect → Bool
is_write_within i q (Write j p) = (j == i) && covers q p
is_write_within i q (NewFile j) = false
is_write_within i q (NewDir j) = false
is_write_within i q (SetLen j size) = false
is_write_within i q (Link d name j) = false
is_write_within i q (Unlink d name) = false
is_write_within i q (Free j) = false

-- a link or an unlink of this name in this directory
abbrev pub is_of_entry : ℕ → List ℕ → Effect → Bool
is_of_entry d name (Link b other j) = (b == d) && is_eq (slice_cmp nat_cmp name other)
is_of_entry d name (Unlink b other) = (b == d) && is_eq (slice_cmp nat_cmp name other)
is_of_entry d name (NewFile j) = false
is_of_entry d name (NewDir j) = false
is_of_entry d name (Write j p) = false
is_of_entry d name (SetLen j size) = false
is_of_entry d name (Free j) = false

-- the first effect, which comes later, makes the second one of no account
abbrev pub overrides : Effect → Effect → Bool
overrides (NewFile i) e = touched_by e == i
overrides (NewDir i) e = touched_by e == i
overrides (Free i) e = touched_by e == i
overrides (Write i q) e = is_write_within i q e
overrides (SetLen i size) e = false
overrides (Link d name i) e = is_of_entry d name e
overrides (Unlink d name) e = is_of_entry d name e

-- one of the later effects does
abbrev pub overridden : Effect → List Effect → Bool
overridden e later = list_any (λ f. overrides f e) later

-- those that no later one overrides, in their order
abbrev pub coalesced : List Effect → List Effect
coalesced [] = []
coalesced (e ∷ es) = if overridden e es then coalesced es else e ∷ coalesced es
