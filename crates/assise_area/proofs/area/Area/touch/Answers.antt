use Rattle.assise_area.proofs.Common.{◌≡◌, sym, ap, ◌∙◌, AreaInvariant, hot_at, area_seen}
use Rattle.assise_area.proofs.Shared.Seen.{either_two, nothing}
use Rattle.assise_area.proofs.HotUse.{seen_promoted, seen_same, seen_warmed, sound_promoted, sound_same, sound_warmed, touched_hot, touched_kept, touched_warm}
use Rattle.assise_area.proofs.HotUse.{unmoved}
use Rattle.assise_area.proofs.area.Area.touch.Goals as goal

pub invariant_of-self : goal.invariant_of-self
invariant_of-self c = sound_promoted c.self.inside.hot c.promote.new.self c.self.inside.cold.entries c.args.inode c.promote.ensures.entries c.self.invariant

pub returns-then-promote : goal.returns-then-promote
returns-then-promote c =
    let a = c.args.self.now in
    let hot = c.self.inside.hot in
    let cold = c.self.inside.cold.entries in
    let there = sym c.if-promote.ensures.value in
    touched_hot a (area_seen c.promote.new.self cold) hot cold c.args.inode c.self.view_is there
    (seen_promoted a hot c.promote.new.self cold c.args.inode c.self.view_is c.promote.ensures.entries there c.see_order.ensures.1)

pub invariant_of-self-then-not-contains_key : goal.invariant_of-self-then-not-contains_key
invariant_of-self-then-not-contains_key c =
    sound_promoted c.self.inside.hot c.promote.new.self c.self.inside.cold.entries c.args.inode c.promote.ensures.entries c.self.invariant

pub returns-then-not-contains_key : goal.returns-then-not-contains_key
returns-then-not-contains_key c =
    let hot = c.self.inside.hot in
    let cold = c.self.inside.cold.entries in
    let none = nothing (hot_at hot.entries c.args.inode) c.if-promote.ensures.value in
    touched_kept c.args.self.now (area_seen c.promote.new.self cold) hot cold c.args.inode c.self.view_is none
    (ap (λ h. area_seen h cold) (unmoved hot c.promote.new.self c.args.inode c.promote.ensures.entries none) ∙ c.self.view_is)

pub warm-requires-clause-disjoint : goal.warm-requires-clause-disjoint
warm-requires-clause-disjoint c =
    let sound : AreaInvariant c.promote.new.self c.self.inside.cold.entries = sound_promoted c.self.inside.hot c.promote.new.self c.self.inside.cold.entries
    c.args.inode c.promote.ensures.entries c.self.invariant in
    sound.disjoint

pub warm-requires-clause-absent : goal.warm-requires-clause-absent
warm-requires-clause-absent c =
    let hot = c.self.inside.hot in
    let none = nothing (hot_at hot.entries c.args.inode) c.if-promote.ensures.value in
    ap (λ h. hot_at h.entries c.args.inode) (unmoved hot c.promote.new.self c.args.inode c.promote.ensures.entries none) ∙ none

pub invariant_of-self-2 : goal.invariant_of-self-2
invariant_of-self-2 c =
    let cold = c.self.inside.cold.entries in
    let sound = sound_promoted c.self.inside.hot c.promote.new.self cold c.args.inode c.promote.ensures.entries c.self.invariant in
    either_two c.warm.result c.warm.ensures.ok c.warm.ensures.err c.warm.ensures.err_cold
    (λ w. sound_warmed c.promote.new.self c.warm.new.hot cold c.warm.new.cold.entries c.args.inode w sound)
    (λ same values. sound_same c.promote.new.self c.warm.new.hot cold c.warm.new.cold.entries same values sound)

pub returns : goal.returns
returns c =
    let a = c.args.self.now in
    let i = c.args.inode in
    let hot = c.self.inside.hot in
    let cold = c.self.inside.cold.entries in
    let now = area_seen c.warm.new.hot c.warm.new.cold.entries in
    let none = nothing (hot_at hot.entries i) c.if-promote.ensures.value in
    let kept = unmoved hot c.promote.new.self i c.promote.ensures.entries none in
    let view : area_seen c.promote.new.self cold ≡ a = ap (λ h. area_seen h cold) kept ∙ c.self.view_is in
    let absent = ap (λ h. hot_at h.entries i) kept ∙ none in
    either_two c.warm.result c.warm.ensures.ok c.warm.ensures.err c.warm.ensures.err_cold
    (λ w. touched_warm a now hot cold i c.self.view_is none (sym c.if-not-contains_key.ensures)
    (seen_warmed a c.promote.new.self c.warm.new.hot cold c.warm.new.cold.entries i view absent w))
    (λ same values. touched_kept a now hot cold i c.self.view_is none
    (seen_same a c.promote.new.self c.warm.new.hot cold c.warm.new.cold.entries view same values))
