use Rattle.assise_area.proofs.Common.{ap, ◌∙◌, take, lru_cache, on_err}
use Rattle.assise_area.proofs.Cooled.{seen_resized}
use Rattle.assise_area.proofs.HotUse.{seen_same, sound_same}
use Rattle.assise_area.proofs.area.Area.set_hot_capacity.Goals as goal

pub invariant_of-self : goal.invariant_of-self
invariant_of-self c = sound_same c.self.inside.hot c.cool.new.hot c.self.inside.cold.entries c.cool.new.cold.entries c.in_err-cool.ensures.err
    c.in_err-cool.ensures.err_cold c.self.invariant

pub returns-in_err-cool-clause-err : goal.returns-in_err-cool-clause-err
returns-in_err-cool-clause-err c =
    on_err c.from_residual.result _
    (seen_same c.args.self.now c.self.inside.hot c.cool.new.hot c.self.inside.cold.entries c.cool.new.cold.entries c.self.view_is c.in_err-cool.ensures.err
    c.in_err-cool.ensures.err_cold)

pub returns-clause-ok : goal.returns-clause-ok
returns-clause-ok c =
    seen_resized c.args.capacity c.self.inside.hot c.cool.new.hot c.resize.new.self c.self.inside.cold.entries c.cool.new.cold.entries c.in_ok-cool.ensures.ok
    (c.resize.ensures ∙ ap (λ n. lru_cache (take n c.cool.new.hot.entries) n) c.hot_places.ensures) c.args.self.now c.self.view_is
