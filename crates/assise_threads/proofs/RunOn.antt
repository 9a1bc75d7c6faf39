-- A run goes on with what is said next, and is whole in the end.
use Rattle.assise_threads.proofs.Common.{◌≡◌, ℕ, ◌+◌, true, List, [], ◌∷◌, ◌++◌, take, drop, Option, None, refl, sym, subst, take-add, slice_get, EntryValue}
use Rattle.assise_threads.proofs.Common.{IsLegal, extends-same, worked_to_itself, Command, Cluster, Manual, Open, Call, Carry, Link, Hot, Digest, Release}
use Rattle.assise_threads.proofs.Common.{Crash, Fail, Back, Refill, Join, Raise, Tree, History, Check, NumberedCommand, Response, Quiet, Client, Replied}
use Rattle.assise_threads.proofs.Common.{Refused, Carried, Shown, Whole, Checked, BadNode, Busy, OutOfMemory, Machine, line_text, Told, IsVerdict, SetsHot}
use Rattle.assise_threads.proofs.Common.{Shows, is_verdict, is_made, is_out, is_shown, lacks_memory, lacks_room, not_shown, LibFs, AnswersCommand, joins}
use Rattle.assise_threads.proofs.Common.{stops_filling, is_refused, is_busy, is_opened, is_carried, is_nowhere, is_replied, lacks_revoker, machine_begun}
use Rattle.assise_threads.proofs.Common.{AreSaidNext, is_one, is_stretch, sights, IsRunSaid, AreMet, Sights, AreAllSaid}
use Rattle.assise_history.proofs.Shared.Legality.{legal-nil}
use Rattle.assise_threads.proofs.Meetings.{met_none}
use Rattle.assise_threads.proofs.AllSaid.{is_run, nothing_said, one_added, stretch_added}

pub nothing_yet : (turns : ℕ) (first seen : Machine) (clients : Sights) (old : Option (List ℕ)) → first.history ≡ [] → seen ≡ first → clients ≡ [] →
    AreAllSaid turns first [] seen clients old old
nothing_yet turns first seen clients old none is nobody = rw (is, nobody) (nothing_said turns first old none)

said_then : (turns : ℕ) (first : Machine) (done next : List NumberedCommand) (seen now : Machine) (before after : Sights) (old mid new : Option (List ℕ)) →
    AreAllSaid turns first done seen before old mid → AreSaidNext turns next seen before now after mid new → AreAllSaid turns first (done ++ next) now after old
    new
said_then turns first done next seen now before after old mid new all (is_stretch same more) =
    subst (λ z. AreAllSaid turns first (done ++ next) z after old new) (sym same) (stretch_added turns first done seen before old mid all next after new more)
said_then turns first done next seen now before after old mid new all (is_one l is none one) =
    subst (λ z. AreAllSaid turns first (done ++ z) now after old new) (sym is) (one_added turns first done seen before old mid all l now after new none one)

-- `count` more of the commands
pub goes_further : (turns : ℕ) (first : Machine) (ls rest : List NumberedCommand) (i count : ℕ) (seen now : Machine) (before after : Sights)
    (old mid new : Option (List ℕ)) → rest ≡ drop i ls → AreAllSaid turns first (take i ls) seen before old mid
    → AreSaidNext turns (take count rest) seen before now after mid new → AreAllSaid turns first (take (i + count) ls) now after old new
goes_further turns first ls rest i count seen now before after old mid new is all more =
    subst (λ z. AreAllSaid turns first z now after old new) (sym (take-add i count ls))
    (said_then turns first (take i ls) (take count (drop i ls)) seen now before after old mid new all
    (subst (λ z. AreSaidNext turns (take count z) seen before now after mid new) is more))

-- where the clients met
pub is_run_said : (turns : ℕ) {S : Type 0} (commands : List NumberedCommand) (seen : Machine) (ls : List (LibFs S)) (old new : Option (List ℕ))
    (last : List EntryValue) → AreAllSaid turns (machine_begun commands) commands seen (sights ls) old new → AreMet seen (sights ls) last →
    IsRunSaid turns commands old new
is_run_said turns commands seen ls old new last all met =
    record { said = all.said; run = is_run turns commands seen (sights ls) old new all last met; appends = all.appends }

no_one_met : (m : Machine) → m.history ≡ [] → AreMet m [] m.history
no_one_met m none = met_none m m (worked_to_itself m) (extends-same m.history) (subst (λ h. ∥ IsLegal h ∥₁) (sym none) ∣ legal-nil ∣₁) refl

pub nothing_run : (turns : ℕ) (commands : List NumberedCommand) (old : Option (List ℕ)) → slice_get commands 0 ≡ None → IsRunSaid turns commands old old
nothing_run turns [] old none = let all = nothing_said turns (machine_begun []) old refl in
    record {
      said = all.said;
      run = is_run turns [] (machine_begun []) [] old old all (machine_begun []).history (no_one_met (machine_begun []) refl);
      appends =
          all.appends;
    }
nothing_run turns (l ∷ ls) old none = absurd (cc)

-- ---- the history is printed by its own command alone

hot_not_whole : (n capacity : ℕ) (m : Machine) (es : Told) (m' : Machine) → SetsHot n capacity Whole m es m' → ⊥
hot_not_whole n capacity m es m' (is_made least most h) = h.tells
hot_not_whole n capacity m es m' (is_out out is h) = let x : Whole ≡ Quiet = is in cc

not_whole : (turns : ℕ) (command : Command) (old new : Machine) → (command ≡ History → ⊥) → AnswersCommand turns command Whole old new → ⊥
not_whole turns (Cluster nodes log hot) old new other h = let x : Whole ≡ Quiet = h.answer in cc
not_whole turns Manual old new other h = let x : Whole ≡ Quiet = h.answer in cc
not_whole turns (Open node kind u) old new other (is_opened c is h last none) = let x : Whole ≡ Client c = is in cc
not_whole turns (Open node kind u) old new other (is_refused r is h f) = let x : Whole ≡ Refused r = is in cc
not_whole turns (Open node kind u) old new other (lacks_revoker r is h) = let x : Whole ≡ Refused r = is in cc
not_whole turns (Open node kind u) old new other (is_nowhere is far e) = let x : Whole ≡ Refused BadNode = is in cc
not_whole turns (Call c op) old new other (is_replied reply is e) = let x : Whole ≡ Replied reply = is in cc
not_whole turns (Call c op) old new other (is_refused r is e) = let x : Whole ≡ Refused r = is in cc
not_whole turns (Carry node) old new other (is_carried count later is done e) = let x : Whole ≡ Carried count = is in cc
not_whole turns (Carry node) old new other (is_refused r later is done e) = let x : Whole ≡ Refused r = is in cc
not_whole turns (Carry node) old new other (is_nowhere is far e) = let x : Whole ≡ Refused BadNode = is in cc
not_whole turns (Link node kind) old new other h = let x : Whole ≡ Quiet = h.answer in cc
not_whole turns (Hot node capacity) old new other h = hot_not_whole node capacity h.before h.told new h.does
not_whole turns (Digest node) old new other h = h.does.tells
not_whole turns Release old new other h = h.does.tells
not_whole turns (Crash client) old new other h = h.does.tells
not_whole turns (Fail node) old new other h = h.does.tells
not_whole turns (Back node) old new other (joins k tried filled few before once no_more h) = h.does.tells
not_whole turns (Back node) old new other (stops_filling r k tried few before is h) = let x : Whole ≡ Refused r = is in cc
not_whole turns (Back node) old new other (is_refused r is h) = let x : Whole ≡ Refused r = is in cc
not_whole turns (Back node) old new other (is_busy is before) = let x : Whole ≡ Refused Busy = is in cc
not_whole turns (Refill node) old new other h = h.does.tells
not_whole turns (Join node) old new other h = h.does.tells
not_whole turns (Raise node) old new other h = h.does.tells
not_whole turns Check old new other h = no_check h.does.verdict
  where
    no_check : {m : Machine} → IsVerdict Whole m → ⊥
    no_check (is_verdict found is legal) = let x : Whole ≡ Checked found = is in cc
    no_check (lacks_room is) = let x : Whole ≡ Refused OutOfMemory = is in cc
not_whole turns (Tree node) old new other h = no_tree h.does.shows
  where
    no_tree : {m : Machine} → Shows node Whole m → ⊥
    no_tree (is_shown tree fine is spells) = let x : Whole ≡ Shown tree = is in cc
    no_tree (lacks_memory fine is) = let x : Whole ≡ Refused OutOfMemory = is in cc
    no_tree (not_shown r fault is) = let x : Whole ≡ Refused r = is in cc
not_whole turns History old new other h = other refl

-- so a line shows no history where another command was answered
pub line_shows_none : (turns n : ℕ) (command : Command) (a : Response) (shown : List EntryValue) (old new : Machine) → (command ≡ History → ⊥) →
    AnswersCommand turns command a old new → line_text n shown a ≡ line_text n new.history a
line_shows_none turns n command Whole shown old new other h = absurd (not_whole turns command old new other h)
line_shows_none turns n command (Checked true) shown old new other h = refl
line_shows_none turns n command _ shown old new other h = refl
