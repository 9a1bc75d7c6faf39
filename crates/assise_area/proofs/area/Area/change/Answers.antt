use Rattle.assise_area.proofs.Common.{◌≡◌, None, Some, option_map, sym, ap, subst, ◌∙◌, set_value_same, nat_eq, lru_cache, on_err, is_there, AsksForMemory}
use Rattle.assise_area.proofs.Common.{changed, with_value, with_inodes, AreaInvariant, cold_at, hot_at, area_seen}
use Rattle.std.specs.FinMap as map
use Rattle.assise_record.specs.Touched.{touched_by}
use Rattle.assise_area.proofs.Shared.Seen.{either, err_map, ok_map, value_of_cold, value_of_hot}
use Rattle.assise_area.proofs.WrittenValues.{seen_cold, seen_set, sound_cold, sound_set}
use Rattle.assise_area.proofs.area.Area.change.Goals as goal
use Rattle.assise_area.proofs.area.Area.change.Goals.{In_default}

cold : (c : In_default) → hot_at c.self.inside.hot.entries (touched_by c.args.effect.now) ≡ None
cold c = ap (hot_at c.self.inside.hot.entries) (sym c.touches.ensures) ∙ sym c.in_default.ensures.value

pub invariant_of-self : goal.invariant_of-self
invariant_of-self c =
    let i = touched_by c.args.effect.now in
    either c.change_cold.result c.change_cold.ensures.ok c.change_cold.ensures.err
    (λ updates. sound_cold c.self.inside.hot c.self.inside.cold.entries c.change_cold.new.cold.entries i
    (option_map (λ content. changed content c.args.effect.now) (cold_at c.self.inside.cold.entries i))
    (cold (goal.at.invariant_of-self c).In_default) updates c.self.invariant)
    (λ same. subst (AreaInvariant c.self.inside.hot) (sym same) c.self.invariant)

pub returns-in_default-clause-ok : goal.returns-in_default-clause-ok
returns-in_default-clause-ok c =
    let a = c.args.self.now in
    let hot = c.self.inside.hot in
    let es = c.self.inside.cold.entries in
    let effect = c.args.effect.now in
    let i = touched_by effect in
    let none = cold (goal.at.returns-in_default-clause-ok c).In_default in
    ok_map c.change_cold.result c.change_cold.ensures.ok (λ updates.
    seen_cold a hot es c.change_cold.new.cold.entries i (option_map (λ content. changed content effect) (cold_at es i)) c.self.view_is none updates
    ∙ ap (λ o. with_inodes a (with_value a.inodes i (option_map (λ content. changed content effect) o))) (sym (value_of_cold a hot es i c.self.view_is none)))

pub returns-in_default-clause-asked : goal.returns-in_default-clause-asked
returns-in_default-clause-asked c =
    let none = cold (goal.at.returns-in_default-clause-asked c).In_default in
    let was = value_of_cold c.args.self.now c.self.inside.hot c.self.inside.cold.entries (touched_by c.args.effect.now) c.self.view_is none in
    err_map c.change_cold.result c.change_cold.ensures.asked (λ asks. subst (AsksForMemory c.args.effect.now) (sym was) asks)

pub returns-in_err-change-clause-err : goal.returns-in_err-change-clause-err
returns-in_err-change-clause-err c =
    let hot = c.self.inside.hot in
    let kept = sym c.in-Some.ensures.value ∙ ap Some (sym c.in_err-change.ensures.err) in
    let same = set_value_same (nat_eq c.touches.result) hot.entries c.change.new.self kept in
    on_err c.from_residual.result _ (ap (λ es. area_seen (lru_cache es hot.cap) c.self.inside.cold.entries) same ∙ c.self.view_is)

pub returns-in_err-change-clause-asked : goal.returns-in_err-change-clause-asked
returns-in_err-change-clause-asked c =
    let a = c.args.self.now in
    let was = value_of_hot a c.self.inside.hot c.self.inside.cold.entries c.touches.result c.in-Some.held.now c.self.view_is (sym c.in-Some.ensures.value) in
    on_err c.from_residual.result _ (subst (AsksForMemory c.args.effect.now) (sym was ∙ ap (map.get a.inodes) c.touches.ensures) c.in_err-change.ensures.asked)

pub invariant_of-self-2 : goal.invariant_of-self-2
invariant_of-self-2 c =
    sound_set c.self.inside.hot c.self.inside.cold.entries c.touches.result c.change.new.self (is_there c.in-Some.held.now _ c.in-Some.ensures.value)
    c.self.invariant

pub returns-clause-ok : goal.returns-clause-ok
returns-clause-ok c =
    let a = c.args.self.now in
    let hot = c.self.inside.hot in
    let effect = c.args.effect.now in
    let was = value_of_hot a hot c.self.inside.cold.entries c.touches.result c.in-Some.held.now c.self.view_is (sym c.in-Some.ensures.value) in
    seen_set a hot c.self.inside.cold.entries c.touches.result c.change.new.self c.self.view_is (is_there c.in-Some.held.now _ c.in-Some.ensures.value)
    ∙ ap (λ v. with_inodes a (map.insert a.inodes c.touches.result v)) c.in_ok-change.ensures.ok
    ∙ ap (λ o. with_inodes a (with_value a.inodes c.touches.result (option_map (λ content. changed content effect) o))) (sym was)
    ∙ ap (λ j. with_inodes a (with_value a.inodes j (option_map (λ content. changed content effect) (map.get a.inodes j)))) c.touches.ensures
