-- What all commands so far were answered goes on with a stretch of calls, or with one command, and is a run in the end.
use Rattle.assise_threads.proofs.Common.{◌≡◌, ◌∙◌, ℕ, List, [], ◌∷◌, ◌++◌, Option, None, Some, refl, sym, ap, ap₂, subst, append-nil, append_assoc}
use Rattle.assise_threads.proofs.Common.{nil_from_length, flat_map-append, Appends, EntryValue, Durability, calls_by, openings_of, Command, Open, Response}
use Rattle.assise_threads.proofs.Common.{NumberedCommand, line_text, AnswersCommand, OpensOne, is_nowhere, is_opened, is_refused, lacks_revoker, Machine}
use Rattle.assise_threads.proofs.Common.{machine_begun, HasHeard, sight_of, AreMet, CoversSight, HasToldCalls, IsHeard, Sights, opened_by, opening_in}
use Rattle.assise_threads.proofs.Common.{openings_said, IsThreadRun, Said, said_line, said_lines, AreAllSaid, IsOneSaid, IsStretchSaid, IsClientCall}
use Rattle.assise_threads.proofs.Fronts.{AreKnown, EndsWith, are_new, known_one, known_then, one_hears}
use Rattle.assise_threads.proofs.Heard.{MadeNone, commands-append, heard_one, heard_then, no_call}
use Rattle.assise_threads.proofs.Meetings.{covers_each}
use Rattle.assise_threads.proofs.Openings.{all_fronts, answers_on}
use Rattle.assise_threads.proofs.SaidMore.{adds_more, adds_nothing, said-append}

pub nothing_said : (turns : ℕ) (first : Machine) (old : Option (List ℕ)) → first.history ≡ [] → AreAllSaid turns first [] first [] old old
nothing_said turns first old none = record {
  said = [];
  each = refl;
  main = refl;
  appends = adds_nothing old;
  heard = λ c. record { outcomes = []; count = refl; tells = refl; calls = refl; on = refl };
  known = λ c. tt;
  opened = ap openings_of none;
}

openings-said : (ss ts : List Said) → openings_said (ss ++ ts) ≡ openings_said ss ++ openings_said ts
openings-said [] ts = refl
openings-said (s ∷ ss) ts = ap (λ z. opening_in s.command.command s.answer ++ z) (openings-said ss ts)
    ∙ sym (append_assoc (opening_in s.command.command s.answer) (openings_said ss) (openings_said ts))

-- who is opened is the last that is seen, and made no call
open_ends : (n : ℕ) (u : Durability) (a : Response) (old new : Machine) → OpensOne n u a old new → EndsWith (opened_by a n u) old.history new.history
    × MadeNone (opened_by a n u) new.history
open_ends n u a old new (is_opened c is h last none) = rw is ((last, h.legal), nil_from_length (calls_by c new.history) none)
open_ends n u a old new (is_refused r is h fits) = rw is (tt, tt)
open_ends n u a old new (lacks_revoker r is h) = rw is (tt, tt)
open_ends n u a old new (is_nowhere is far same) = rw is (tt, tt)

answer_ends : (turns : ℕ) (command : Command) (a : Response) (old new : Machine) → AnswersCommand turns command a old new →
    EndsWith (opening_in command a) old.history new.history × MadeNone (opening_in command a) new.history
answer_ends turns (Open n kind u) a old new h = open_ends n u a old new h
answer_ends turns _ a old new h = (tt, tt)

lines-append : (ss ts : List Said) → said_lines (ss ++ ts) ≡ said_lines ss ++ said_lines ts
lines-append ss ts = flat_map-append said_line ss ts

module _ (turns : ℕ) (first : Machine) (done : List NumberedCommand) (seen : Machine) (before : Sights) (old mid : Option (List ℕ))
    (all : AreAllSaid turns first done seen before old mid) where
  pub stretch_added : (stretch : List NumberedCommand) (after : Sights) (new : Option (List ℕ)) → IsStretchSaid turns stretch seen before after mid new →
      AreAllSaid turns first (done ++ stretch) seen after old new
  stretch_added stretch after new more = record {
    said = all.said ++ more.said;
    each = commands-append all.said more.said ∙ ap₂ (λ x y. x ++ y) all.each more.each;
    main = said-append turns first seen seen all.said more.said all.main more.main;
    appends = subst (Appends old new) (sym (lines-append all.said more.said))
        (adds_more old mid new (said_lines all.said) (said_lines more.said) all.appends more.appends);
    heard = λ c. heard_then c all.said more.said turns (sight_of c before) (sight_of c after) (all.heard c) (more.clients c) (more.on c);
    known = λ c. known_then turns c more.said (sight_of c before) (sight_of c after) seen.history (more.clients c) (all.known c);
    opened = all.opened ∙ sym (openings-said all.said more.said ∙ (ap (λ z. openings_said all.said ++ z) more.quiet ∙ append-nil (openings_said all.said)));
  }

  pub one_added : (l : NumberedCommand) (now : Machine) (after : Sights) (new : Option (List ℕ)) → (IsClientCall l.command → ⊥) →
      IsOneSaid turns l seen before now after mid new → AreAllSaid turns first (done ++ l ∷ []) now after old new
  one_added l now after new none one =
      let s : Said = record { command = l; answer = one.answer; machine = now } in
      let ends = answer_ends turns l.command one.answer seen now one.answered in
      record {
        said = all.said ++ s ∷ [];
        each = commands-append all.said (s ∷ []) ∙ ap (λ z. z ++ l ∷ []) all.each;
        main = said-append turns first seen now all.said (s ∷ []) all.main (one.answered, refl);
        appends = subst (Appends old new) (ap (λ z. said_lines all.said ++ z) (sym (append-nil (said_line s))) ∙ sym (lines-append all.said (s ∷ [])))
            (adds_more old mid new (said_lines all.said) (line_text l.line now.history one.answer) all.appends one.appends);
        heard = λ c. heard_one c all.said s turns before after (all.heard c) one.clients ends.1 (no_call c l.command none)
            (one_hears turns c s before after (no_call c l.command none) one.clients
            (are_new before (opening_in l.command one.answer) seen.history now.history all.known ends.0));
        known = subst (λ z. AreKnown z now.history) (sym one.clients)
            (known_one before (opening_in l.command one.answer) seen.history now.history (answers_on turns l.command one.answer seen now one.answered) all.known
            ends.0);
        opened = one.opened ∙ (ap₂ (λ x y. x ++ y) all.opened (sym (append-nil (opening_in l.command one.answer))) ∙ sym (openings-said all.said (s ∷ [])));
      }

-- ---- in the end

has_told : (turns c : ℕ) (ss : List Said) (h : List EntryValue) (sight : Option (List EntryValue)) (heard : HasHeard turns c ss sight) → CoversSight c h sight →
    HasToldCalls c ss h heard.outcomes sight
has_told turns c ss h None heard covers = tt
has_told turns c ss h (Some seen) heard covers = covers.1 ∙ heard.calls

is_heard : (turns c : ℕ) (ss : List Said) (h : List EntryValue) (sight : Option (List EntryValue)) → HasHeard turns c ss sight → CoversSight c h sight →
    IsHeard turns c ss h
is_heard turns c ss h sight heard covers =
    record {
      seen = sight;
      on = heard.on;
      covers = covers;
      outcomes = heard.outcomes;
      count = heard.count;
      tells = heard.tells;
      calls =
          has_told turns c ss h sight heard covers;
    }

-- where the clients met
pub is_run : (turns : ℕ) (commands : List NumberedCommand) (seen : Machine) (us : Sights) (old new : Option (List ℕ))
    (all : AreAllSaid turns (machine_begun commands) commands seen us old new) (last : List EntryValue) → AreMet seen us last →
    IsThreadRun turns commands all.said
is_run turns commands seen us old new all last met = record {
  each = all.each;
  seen = seen;
  main = all.main;
  last = met.between;
  worked = met.worked;
  one = record {
    legal = met.legal;
    fronts = all_fronts turns met.between.history (machine_begun commands) all.said seen met.since all.main;
    openings = met.openings ∙ all.opened;
    clients = λ c. is_heard turns c all.said met.between.history (sight_of c us) (all.heard c) (covers_each c met.between.history us met.clients);
  };
}
