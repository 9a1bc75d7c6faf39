use Rattle.assise_fault_script.proofs.Common.{◌∙◌, ◌++◌, ap, sym, map, take, rules, words_of}
use Rattle.assise_fault_script.proofs.Spaces.{cut, uncut, joined}
use Rattle.assise_fault_script.proofs.words.words.Goals as goal

pub loop-piece-preserved : goal.loop-piece-preserved
loop-piece-preserved c =
    let parts = cut c.loop-piece.rest.now c.split_once.result _ c.split_once.ensures.cases c.in-Some.is in
    record {
      text = search rules;
      same = joined (map (λ w. w.now) c.loop-piece.words.items) _ _ (words_of c.loop-piece.rest.now) c.keep.ensures (words_of c.in-Some.more.now) parts
          ∙ c.loop-piece.invariant.same;
    }

pub returns : goal.returns
returns c =
    let parts = uncut c.loop-piece.rest.now c.split_once.result c.split_once.ensures.cases c.in_default.is in
    c.keep-2.ensures ∙ ap (λ t. take 6 (map (λ w. w.now) c.loop-piece.words.items ++ t)) (sym parts) ∙ c.loop-piece.invariant.same
