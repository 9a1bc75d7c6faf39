use Rattle.assise_seq_tree.proofs.Common.{rules, ap, arith, ◌≤◌, ◌+◌, IsTrue, false, size_of_pairs, size_of}
use Rattle.assise_seq_tree.proofs.SameTrees.{same_last, size_more}
use Rattle.assise_seq_tree.proofs.sameness.is_same.Goals as goal

pub loop-first-smaller : goal.loop-first-smaller
loop-first-smaller c =
    let smaller : size_of_pairs c.is_same_but.new.pending.items ≤ size_of c.in-Some.first.now + size_of_pairs c.pop.new.self.items = search rules in
    omega (arith, smaller, ap size_of_pairs c.in-Some.ensures.items, size_more c.pop.new.self.items (c.in-Some.first, c.in-Some.second))

pub loop-first-preserved : goal.loop-first-preserved
loop-first-preserved c =
    let (apart, together) = same_last _ _ _ c.in-Some.ensures.items in
    let (down, up) = c.in_ok-is_same_but.ensures.same in
    let yes : IsTrue c.in_ok-is_same_but.field-0 = search rules in
    (λ same. c.loop-first.invariant.0 (together (down (yes, same))), λ is. (up (apart (c.loop-first.invariant.1 is))).1)

pub returns-then-not-branch : goal.returns-then-not-branch
returns-then-not-branch c = record {
  same =
      let (apart, together) = same_last _ _ _ c.in-Some.ensures.items in
      let (down, up) = c.in_ok-is_same_but.ensures.same in
      let no : IsTrue c.in_ok-is_same_but.field-0 → IsTrue false = search rules in
      (λ yes. absurd (cc), λ is. no (up (apart (c.loop-first.invariant.1 is))).0);
}
