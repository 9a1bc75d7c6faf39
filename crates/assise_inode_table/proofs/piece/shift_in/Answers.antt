use Rattle.assise_inode_table.proofs.Common.{◌≡◌, ◌-◌, ◌+◌, ◌∙◌, ◌++◌, ◌∷◌, ◌<◌, [], List, ap, append-nil, arith, length, take, set, drop_all, copy_within}
use Rattle.assise_inode_table.proofs.piece.shift_in.Goals as goal

-- a row moved up by one, and its first place set
moved_up : {X : Type 0} (xs : List X) (x : X) → 0 < length xs → set (copy_within xs 0 (length xs - 1) 1) 0 x ≡ x ∷ take (length xs - 1) xs
moved_up [] x some = absurd (omega (arith, some))
moved_up (y ∷ ys) x some =
    let count = length (y ∷ ys) - 1 - 0 in
    let kept = take count (y ∷ ys) in
    ap (λ zs. x ∷ (kept ++ zs)) (drop_all (1 + count) (y ∷ ys) (omega arith))
    ∙ ap (λ zs. x ∷ zs) (append-nil kept)
    ∙ ap (λ n. x ∷ take n (y ∷ ys)) (omega arith)

pub returns : goal.returns
returns g c = ap (λ ys. set ys 0 c.args.first) c.copy_within.ensures.after ∙ moved_up c.args.row.now c.args.first c.requires
