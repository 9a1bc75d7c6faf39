use Rattle.assise_inode_table.proofs.Common.{◌≡◌, ◌∙◌, ℕ, suc, ◌-◌, ◌<◌, ap, sym, arith, List, [], length, set, take, drop, length-append, ◌∷◌, ◌++◌, map-id}
use Rattle.assise_inode_table.proofs.Common.{set_split, nil_from_length, items_from_drains}
use Rattle.std.proofs.lemmas.Iterator.Adapters.{YieldsList-from_vec}
use Rattle.assise_inode_table.proofs.blocks.replace.Goals as goal
use Rattle.assise_inode_table.proofs.blocks.replace.Goals.{in-Some+in-Some-1, in-Some+in-None-1, in_default}

put_one : {X : Type 0} (bs made rest : List X) (k until : ℕ) (b : X) → k < length bs → until - k ≡ 1 → length made ≡ 1 → made ≡ rest ++ b ∷ []
    → set bs k b ≡ take k bs ++ (made ++ drop until bs)
put_one bs made rest k until b held one alone is =
    let next : suc k ≡ until = omega arith in
    let prefix = nil_from_length rest (omega (arith, alone, ap length is, length-append rest (b ∷ []))) in
    set_split bs k b held ∙ ap (λ n. take k bs ++ b ∷ drop n bs) next
    ∙ ap (λ ys. take k bs ++ (ys ++ drop until bs)) (sym (is ∙ ap (λ ys. ys ++ b ∷ []) prefix))

pub returns-then-until-first-ne1-clause-ok : goal.returns-then-until-first-ne1-clause-ok
returns-then-until-first-ne1-clause-ok c =
    let e = c.in_ok-splice.ensures.items in
    let d = e.3 in
    let listed = items_from_drains {v = λ y. y} {all = c.args.made.items} e.1 (d.1.0, d.1.1, (λ _. (d.0, d.1.2)))
    (YieldsList-from_vec c.args.made.items e.2.0 (omega (arith, e.2.1, c.args.made.ok.0))) in
    e.4 ∙ ap (λ ys. take c.args.first c.args.blocks.now.items ++ (ys ++ drop c.args.until c.args.blocks.now.items)) (sym (map-id e.1) ∙ listed)

pub returns-clause-ok : goal.returns-clause-ok
returns-clause-ok c =
    let bs = c.args.blocks.now.items in
    let one : c.args.until - c.args.first ≡ 1 = omega (arith, c.if-until-first-ne1.false) in
    let alone : length c.args.made.items ≡ 1 = omega (arith, c.if-len-ne1.false, c.len.ensures, c.args.made.ok.0) in
    let held : c.args.first < length bs = omega (arith, one, c.requires) in
    elim c.match-pop.branch [
      | in-Some+in-Some-1 w ↦ ap (λ v. v.items) w.blocks-is ∙ put_one bs c.args.made.items c.pop.new.self.items c.args.first c.args.until w.in-Some.block held
          one alone w.in-Some.ensures.items
      | in-Some+in-None-1 w ↦ ap (λ v. v.items) w.blocks-is ∙ put_one bs c.args.made.items c.pop.new.self.items c.args.first c.args.until w.in-Some.block held
          one alone w.in-Some.ensures.items
      | in_default w ↦ let some : 0 < c.len.result =
          omega (arith, c.if-len-ne1.false) in absurd (grind (arith, some, c.len.ensures, w.in_default.ensures.variant.1))
    ]
