-- What the main thread sees goes on from line to line.
use Rattle.assise_threads.proofs.Common.{◌≡◌, ◌∙◌, ℕ, List, [], ◌∷◌, ap, sym, append-nil, AllByRecursion, Durability, EntryValue, Extends, Command, Cluster}
use Rattle.assise_threads.proofs.Common.{Manual, Open, Call, Carry, Link, Back, History, Response, Machine, extends-on, AnswersCommand, CarriesSome}
use Rattle.assise_threads.proofs.Common.{ComesBackInTakes, IsCallAnswered, OpensOne, is_busy, is_carried, is_nowhere, is_opened, is_refused, is_replied, joins}
use Rattle.assise_threads.proofs.Common.{lacks_revoker, stops_filling, IsSaid, Said}
use Rattle.assise_threads.proofs.ReturnTries.{tried_on}

extends_same_as : (new old : Machine) → new ≡ old → Extends new.history old.history
extends_same_as new old is = ([], ap (λ m. m.history) is ∙ sym (append-nil old.history))

-- ---- each answer goes on

pub opens_on : (n : ℕ) (u : Durability) (a : Response) (old new : Machine) → OpensOne n u a old new → Extends new.history old.history
opens_on n u a old new (is_opened c is h last none) = h.grows
opens_on n u a old new (is_refused r is h fits) = h.grows
opens_on n u a old new (lacks_revoker r is h) = h.grows
opens_on n u a old new (is_nowhere is far same) = extends_same_as new old same

call_on : (a : Response) (old new : Machine) → IsCallAnswered a old new → Extends new.history old.history
call_on a old new (is_replied reply is same) = extends_same_as new old same
call_on a old new (is_refused r is same) = extends_same_as new old same

carry_on : (n : ℕ) (a : Response) (old new : Machine) → CarriesSome n a old new → Extends new.history old.history
carry_on n a old new (is_carried count later is done same) = extends_same_as new old same
carry_on n a old new (is_refused r later is done same) = extends_same_as new old same
carry_on n a old new (is_nowhere is far same) = extends_same_as new old same

back_on : (turns n : ℕ) (a : Response) (old new : Machine) → ComesBackInTakes turns n a old new → Extends new.history old.history
back_on turns n a old new (is_refused r is h) = h.grows
back_on turns n a old new (stops_filling r k tried few before is h) = extends-on new.history tried.history old.history h.grows (tried_on n k old tried before)
back_on turns n a old new (joins k tried filled few before once no_more h) = extends-on new.history filled.history old.history h.grows
    (extends-on filled.history tried.history old.history once.take.grows (tried_on n k old tried before))
back_on turns n a old new (is_busy is before) = tried_on n turns old new before

pub answers_on : (turns : ℕ) (command : Command) (a : Response) (old new : Machine) → AnswersCommand turns command a old new → Extends new.history old.history
answers_on turns (Cluster nodes log hot) a old new h = extends_same_as new old h.stays
answers_on turns Manual a old new h = extends_same_as new old h.stays
answers_on turns (Open n kind u) a old new h = opens_on n u a old new h
answers_on turns (Call c op) a old new h = call_on a old new h
answers_on turns (Carry n) a old new h = carry_on n a old new h
answers_on turns (Link n kind) a old new h = extends_same_as new old h.stays
answers_on turns (Back n) a old new h = back_on turns n a old new h
answers_on turns History a old new h = h.extends
answers_on turns _ a old new h = h.grows

-- ---- of a whole run

pub said_on : (turns : ℕ) (old : Machine) (ss : List Said) (new : Machine) → IsSaid turns old ss new → Extends new.history old.history
said_on turns old [] new same = extends_same_as new old same
said_on turns old (s ∷ ss) new (first, rest) =
    extends-on new.history s.machine.history old.history (said_on turns s.machine ss new rest) (answers_on turns s.command.command s.answer old s.machine first)

pub all_fronts : (turns : ℕ) (h : List EntryValue) (old : Machine) (ss : List Said) (new : Machine) → Extends h new.history → IsSaid turns old ss new →
    AllByRecursion (λ s. Extends h s.machine.history) ss
all_fronts turns h old [] new more said = tt
all_fronts turns h old (s ∷ ss) new more (first, rest) =
    (extends-on h new.history s.machine.history more (said_on turns s.machine ss new rest), all_fronts turns h s.machine ss new more rest)
