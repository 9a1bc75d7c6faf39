-- Whether there was anything to do: of one event, of a replicate turn, and of some events and then others.
use Rattle.assise_rounds.proofs.Common.{◌==◌, ◌||◌, ◌≡◌, Bool, not, List, [], ◌∷◌, ◌++◌, map, length, refl, ap, sym, ◌∙◌, append-nil, or-false, Answer}
use Rattle.assise_rounds.proofs.Common.{ClusterEvent, sent, Told, Carried, deliveries, did_work, is_work, letter, arith}
use Rattle.std.proofs.lemmas.List.Folds.{list_any-append}

pub one_work : (e : ClusterEvent) (a : Answer) → is_work a ≡ did_work ((e, a) ∷ [])
one_work e a = sym (or-false (is_work a))

pub both_work : (before now : Bool) (es fs : Told) → before ≡ did_work es → now ≡ did_work fs → (before || now) ≡ did_work (es ++ fs)
both_work before now es fs first second = grind (arith, list_any-append)

pub no_more_work : (before : Bool) (es : Told) → before ≡ did_work es → before ≡ did_work (es ++ [])
no_more_work before es first = first ∙ ap did_work (sym (append-nil es))

-- what a node sends is work, whatever comes of it
pub turn_work : (e : ClusterEvent) (cs : List Carried) → not (length (map letter cs) == 0) ≡ did_work ((e, sent (map letter cs)) ∷ deliveries cs)
turn_work e [] = refl
turn_work e (c ∷ cs) = grind arith
