use Rattle.assise_inode_table.proofs.Common.{◌≡◌, ◌∙◌, suc, ◌+◌, ◌-◌, ◌/◌, ◌*◌, ap, arith, length, take, drop, set, subst, sym, concat, on_ok_weaker, take_all}
use Rattle.assise_inode_table.proofs.Common.{overwritten, IsCut}
use Rattle.assise_inode_table.proofs.BlockWrites.{Reach, reach, first_held, until_held, cut_reached, reached_held, made_is, one_written, written, still_cut}
use Rattle.assise_inode_table.proofs.blocks.overwrite.Goals as goal
use Rattle.assise_inode_table.proofs.blocks.overwrite.Goals.{After-min-until, In_ok-made, Joined-index_mut-alone}

-- the blocks that are reached
reached : (c : After-min-until) → Reach c.args.blocks.now.items c.args.size c.args.offset c.args.new.now
    (c.min-first.result / 4096) ((c.args.offset + length c.args.new.now - 1) / 4096 + 1) c.min-until.result
reached c =
    reach c.args.blocks.now.items _ _ _ _ c.len.result _ _ c.requires.cut c.requires.bytes c.requires.some c.min-first.ensures
    (omega (arith, c.len.ensures, c.args.blocks.now.ok.0)) c.len-count.ensures.value c.min-until.ensures

pub slice_bounds-overwritten-count : goal.slice_bounds-overwritten-count
slice_bounds-overwritten-count c = first_held (reached (goal.at.slice_bounds-overwritten-count c).After-min-until)

pub slice_bounds-overwritten-start : goal.slice_bounds-overwritten-start
slice_bounds-overwritten-start c =
    let r = reached (goal.at.slice_bounds-overwritten-start c).After-min-until in
    omega (arith, first_held r, until_held r, ap length c.deref.ensures.value)

pub overwritten-requires-clause-cut : goal.overwritten-requires-clause-cut
overwritten-requires-clause-cut c =
    subst (λ xs. IsCut (take (c.min-until.result - c.min-first.result / 4096) (drop (c.min-first.result / 4096) xs))) (sym c.deref.ensures.value)
    (cut_reached (reached (goal.at.overwritten-requires-clause-cut c).After-min-until))

pub overwritten-requires-clause-held : goal.overwritten-requires-clause-held
overwritten-requires-clause-held c =
    let held = reached_held (reached (goal.at.overwritten-requires-clause-held c).After-min-until) in
    omega (
      arith,
      held,
      ap (λ xs. length (concat (take (c.min-until.result - c.min-first.result / 4096) (drop (c.min-first.result / 4096) xs))))
          c.deref.ensures.value,
    )

pub replace-requires : goal.replace-requires
replace-requires c = let r = reached (goal.at.replace-requires c).After-min-until in (first_held r, until_held r)

made_anew : (c : In_ok-made) → let first = c.min-first.result / 4096 in let past = (c.args.offset + length c.args.new.now - 1) / 4096 + 1 in
    concat c.in_ok-made.made.items ≡ overwritten (take (4096 * past - 4096 * first) (drop (4096 * first) (concat c.args.blocks.now.items)))
    (c.args.offset - 4096 * first) c.args.new.now
made_anew c =
    let first = c.min-first.result / 4096 in
    made_is (reached (goal.at.In_ok-made c).After-min-until) _
    (c.in_ok-made.ensures.bytes ∙ ap (λ xs. overwritten (concat (take (c.min-until.result - first) (drop first xs))) (c.args.offset - first * 4096)
    c.args.new.now) c.deref.ensures.value)

pub returns-clause-cut : goal.returns-clause-cut
returns-clause-cut c =
    let r = reached (goal.at.returns-clause-cut c).After-min-until in
    let made = made_anew (goal.at.returns-clause-cut c).In_ok-made in
    on_ok_weaker c.replace.result (λ e. subst IsCut (sym e) (still_cut r c.in_ok-made.made.items c.in_ok-made.ensures.cut made)) c.replace.ensures.ok

pub returns-clause-bytes : goal.returns-clause-bytes
returns-clause-bytes c =
    let r = reached (goal.at.returns-clause-bytes c).After-min-until in
    let made = made_anew (goal.at.returns-clause-bytes c).In_ok-made in
    on_ok_weaker c.replace.result (λ e. ap concat e ∙ written r c.in_ok-made.made.items made) c.replace.ensures.ok

-- the one block that is reached is made anew, and the others stay
alone_written : (c : Joined-index_mut-alone) → IsCut (set c.args.blocks.now.items (c.min-first.result / 4096) c.in_ok-alone.alone)
    × (concat (set c.args.blocks.now.items (c.min-first.result / 4096) c.in_ok-alone.alone) ≡ overwritten (concat c.args.blocks.now.items) c.args.offset
    c.args.new.now)
alone_written c =
    let r = reached (goal.at.Joined-index_mut-alone c).After-min-until in
    let next : suc (c.min-first.result / 4096) ≡ c.min-until.result = omega (arith, c.if-first-until.true) in
    let at = c.args.offset - c.min-first.result / 4096 * 4096 in
    let all = take_all (4096 - at) c.args.new.now (omega (arith, c.if-at-count-le-BLOCK.true)) in
    let is = c.in_ok-alone.ensures ∙ ap (λ new. overwritten c.as_slice.result.now at new) all
    ∙ ap (λ xs. overwritten xs at c.args.new.now) (c.as_slice.ensures ∙ c.index.ensures) in
    one_written r next c.index.result.now c.in_ok-alone.alone (omega (arith, c.if-at-count-le-BLOCK.true)) is

pub returns-then-at-count-le-BLOCK-clause-cut : goal.returns-then-at-count-le-BLOCK-clause-cut
returns-then-at-count-le-BLOCK-clause-cut c = (alone_written c).0

pub returns-then-at-count-le-BLOCK-clause-bytes : goal.returns-then-at-count-le-BLOCK-clause-bytes
returns-then-at-count-le-BLOCK-clause-bytes c = (alone_written c).1
