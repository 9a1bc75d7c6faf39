use Rattle.assise_workers.proofs.Common.{rules, ◌≡◌, ◌++◌, ◌∷◌, [], ◌∙◌, append_assoc, refl, subst, sym, perfect, HasCarried, AreReadBy, letter_of, seen_at}
use Rattle.assise_keeper.proofs.Shared.PassAdds.{extends-same}
use Rattle.assise_workers.proofs.Deliveries.{none_carried, one_more_carried, read_parts, rest_kept}
use Rattle.assise_workers.proofs.Shared.Lists.{extends-on}
use Rattle.assise_workers.proofs.worker.Worker.send_all.Goals as goal

pub loop-letter-init : goal.loop-letter-init
loop-letter-init g c =
    let gives : c.into_iter-letter-iterator.result.rest.items ≡ c.args.letters.items = search rules in
    record {
      goes = record { keeper = refl; seen = extends-same (seen_at c.args.self.now) };
      stays = refl;
      all = gives;
      carried = λ reads all. none_carried g.S.Growing.history g.S.Replicated.acts _ reads [] (seen_at c.args.self.now);
    }

pub loop-letter-preserved : goal.loop-letter-preserved
loop-letter-preserved g c = let before = c.loop-letter.invariant in let now = c.in-Some-send.ensures in let letter = c.in-Some.letter in
    let rest = c.next.new.self.rest.items in
    let whole : c.loop-letter.yielded ++ letter ∷ rest ≡ c.args.letters.items = search rules in
    record {
      goes = record {
        keeper = now.goes_on.keeper ∙ before.goes.keeper;
        seen = extends-on (seen_at c.send.new.self) (seen_at c.loop-letter.self)
            (seen_at c.args.self.now) now.goes_on.seen before.goes.seen;
      };
      stays = now.stays ∙ before.stays;
      all = append_assoc c.loop-letter.yielded (letter ∷ []) rest ∙ whole;
      carried = λ reads all. one_more_carried g.S.Growing.history g.S.Replicated.acts _ reads c.loop-letter.yielded letter c.loop-letter.taken
          c.in-Some-send.one _ _ _ _ c.saturating_add-taken.ensures
          (before.carried reads (read_parts reads c.loop-letter.yielded (letter ∷ []) all).0)
          (subst (λ kind. HasCarried g.S.Growing.history g.S.Replicated.acts (kind ≡ perfect) reads (letter_of letter ∷ []) c.in-Some-send.one
          (seen_at c.loop-letter.self) (seen_at c.send.new.self)) before.stays (now.turn reads (read_parts reads c.loop-letter.yielded (letter ∷ []) all).1.0));
    }

pub returns-in-None-send-clause-turn : goal.returns-in-None-send-clause-turn
returns-in-None-send-clause-turn g c = let before = c.loop-letter.invariant in let letter = c.in-Some.letter in let rest = c.next.new.self.rest.items in
    let whole : c.loop-letter.yielded ++ letter ∷ rest ≡ c.args.letters.items = search rules in
    λ reads all.
    let read = read_parts reads c.loop-letter.yielded (letter ∷ rest) (subst (AreReadBy reads) (sym whole) all) in
    let now = c.in-None-send.ensures.turn reads read.1.0 in
    rest_kept g.S.Growing.history g.S.Replicated.acts _ reads c.loop-letter.yielded letter rest c.args.letters.items c.loop-letter.taken now.0
    (seen_at c.args.self.now) (seen_at c.loop-letter.self) (seen_at c.send.new.self) whole
    (before.carried reads read.0)
    (subst (λ kind. HasCarried g.S.Growing.history g.S.Replicated.acts (kind ≡ perfect) reads (letter_of letter ∷ []) now.0 (seen_at c.loop-letter.self)
    (seen_at c.send.new.self)) before.stays now.1)
