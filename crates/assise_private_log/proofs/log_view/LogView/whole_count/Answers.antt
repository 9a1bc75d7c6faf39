use Rattle.assise_private_log.proofs.Common.{◌≡◌, ℕ, ◌<◌, ◌≤◌, inl, rules, arith, ap, sym, ◌∙◌, whole_count, IsNumberedLog, NumberedLog}
use Rattle.assise_private_log.proofs.Shared.Borders.{some_whole, whole_here, whole_none, whole_passed}
use Rattle.assise_private_log.proofs.log_view.LogView.whole_count.Goals as goal

pub loop-count-preserved : goal.loop-count-preserved
loop-count-preserved c = grind (arith, whole_passed)

pub returns-else-not-is_border-clause-count : goal.returns-else-not-is_border-clause-count
returns-else-not-is_border-clause-count c = sym (whole_here c.args.self.now c.args.from c.loop-count.count (search rules)) ∙ c.loop-count.invariant.same

pub returns-after-loop-count-clause-count : goal.returns-after-loop-count-clause-count
returns-after-loop-count-clause-count c =
    let all : c.loop-count.count ≡ 0 = omega arith in
    all ∙ sym (whole_none c.args.self.now c.args.from) ∙ ap (whole_count c.args.self.now c.args.from) (sym all) ∙ c.loop-count.invariant.same

-- the groups that there are among 64

some_there : (g : NumberedLog) (from most : ℕ) → IsNumberedLog g → 64 ≤ most → 0 < whole_count g from most
some_there g from most law enough = some_whole g from most law (omega (arith, enough)) (inl enough)

pub returns-after-loop-count-clause-some : goal.returns-after-loop-count-clause-some
returns-after-loop-count-clause-some c enough =
    let none : c.loop-count.count ≡ 0 = omega arith in
    let law = c.loop-count.invariant.lawful (omega (arith, none, enough)) in
    let left : whole_count c.args.self.now c.args.from c.args.most ≡ 0 =
    sym c.loop-count.invariant.same ∙ ap (whole_count c.args.self.now c.args.from) none ∙ whole_none c.args.self.now c.args.from in
    absurd (omega (arith, left, some_there c.args.self.now c.args.from c.args.most law enough))
