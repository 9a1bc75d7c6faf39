-- What the ends of clients say of a stretch of calls.
use Rattle.assise_threads.proofs.Common.{◌≡◌, ◌≢◌, ◌∙◌, ℕ, ap, true, false, ◌==◌, if◌then◌else◌, List, [], ◌∷◌, map, length, Option, None, Some, Result, sym}
use Rattle.assise_threads.proofs.Common.{subst, ◌⊎◌, inl, inr, AllByRecursion, AllZip, cond_both, eqb-true, eqb_tells, Refusal, Reply, EntryValue}
use Rattle.assise_threads.proofs.Common.{NumberedCommand, Machine, IsSameClient, client_of, keeper_of, limit_of, seen_by, LibFs, SeesAll, ClusterOf}
use Rattle.assise_threads.proofs.Common.{cluster_acts, cluster_history, AreAt, HaveTurns, TurnedThere, HearsStretch, sight_of, sights, Said, calls_in}
use Rattle.assise_threads.proofs.Common.{commands_said, IsStretchSaid, AreCalls, AreCallsSaid, AreTold, HasAllOf, HasCalls, MakesCalls, libfs_at, outcomes_at}
use Rattle.assise_threads.proofs.Common.{outcomes_of, sight_at}
use Rattle.std.proofs.Common.{IfSome}
use Rattle.assise_keeper.specs.declared.keeper.Keeper.{Keeper}
use Rattle.assise_workers.specs.declared.serving.ClientEnd.{ClientEnd}
use Rattle.assise_workers.specs.declared.serving.ClientList.{ClientList}
use Rattle.assise_workers.specs.Serving.{HasServed, calls_of_list}
use Rattle.assise_threads.proofs.MachineTurns.{sees_of}
use Rattle.assise_threads.proofs.Fronts.{calls_open_none, hears_on}

-- a client isn't there, or it made its calls of the stretch, with these outcomes
abbrev pub HasEnded : ℕ → ℕ → List NumberedCommand → Option (List EntryValue) → Option (List EntryValue) → Option (List (Result Reply Refusal)) → Type 0
HasEnded turns c stretch None None None = Unit {0}
HasEnded turns c stretch (Some old) (Some new) (Some rs) = SeesAll (TurnedThere turns) c (calls_in c stretch) old rs new
HasEnded turns c stretch _ _ _ = ⊥

-- ---- of all clients

module _ (turns c : ℕ) (stretch : List NumberedCommand) where
  first_or_behind : (a : ℕ) (old new : List EntryValue) (rs : List (Result Reply Refusal)) (u v : Option (List EntryValue))
      (w : Option (List (Result Reply Refusal))) → (a ≡ c → SeesAll (TurnedThere turns) c (calls_in c stretch) old rs new) → HasEnded turns c stretch u v w
      → HasEnded turns c stretch (if a == c then Some old else u) (if a == c then Some new else v) (if a == c then Some rs else w)
  first_or_behind a old new rs u v w here behind = by_case (eqb_tells a c)
    where
      by_case : (((a == c) ≡ true) × (a ≡ c)) ⊎ (((a == c) ≡ false) × (a ≢ c)) → HasEnded turns c stretch (if a == c then Some old else u)
          (if a == c then Some new else v) (if a == c then Some rs else w)
      by_case (inl (is, same)) = subst (λ b. HasEnded turns c stretch (if b then Some old else u) (if b then Some new else v) (if b then Some rs else w))
          (sym is) (here same)
      by_case (inr (is, other)) = subst (λ b. HasEnded turns c stretch (if b then Some old else u) (if b then Some new else v) (if b then Some rs else w))
          (sym is) behind

  module _ {S : Type 0} where
    one_sees : (l : LibFs S) (e : ClientEnd S) → MakesCalls stretch l e → limit_of l ≡ turns → client_of l ≡ c →
        SeesAll (TurnedThere turns) c (calls_in c stretch) (seen_by l) e.replies.items (seen_by e.libfs)
    one_sees l e made limit is = subst (λ d. SeesAll (TurnedThere turns) d (calls_in d stretch) (seen_by l) e.replies.items (seen_by e.libfs)) is
        (subst (λ k. SeesAll (TurnedThere k) (client_of l) (calls_in (client_of l) stretch) (seen_by l) e.replies.items (seen_by e.libfs)) limit made.sees)

    all_served : (ls : List (LibFs S)) (ends : List (ClientEnd S)) → AllZip (MakesCalls stretch) ls ends → HaveTurns turns ls →
        HasEnded turns c stretch (sight_of c (sights ls)) (sight_of c (map sight_at ends)) (outcomes_of c (map outcomes_at ends))
    all_served [] [] made limits = tt
    all_served (l ∷ ls) (e ∷ es) made limits =
        subst (λ n. HasEnded turns c stretch (sight_of c (sights (l ∷ ls))) (if n == c then Some (seen_by e.libfs) else sight_of c (map sight_at es))
        (if n == c then Some e.replies.items else outcomes_of c (map outcomes_at es)))
        (sym made.0.client.client)
        (first_or_behind (client_of l) (seen_by l) (seen_by e.libfs) e.replies.items (sight_of c (sights ls)) (sight_of c (map sight_at es))
        (outcomes_of c (map outcomes_at es)) (one_sees l e made.0 limits.0)
        (all_served ls es made.1 limits.1))
    all_served _ _ made limits = absurd made

-- ---- what follows

hears : (turns c : ℕ) (stretch : List NumberedCommand) (ss : List Said) (u v : Option (List EntryValue)) (w : Option (List (Result Reply Refusal))) →
    commands_said ss ≡ stretch → HasEnded turns c stretch u v w → AreTold c ss w → HearsStretch turns c ss u v
hears turns c stretch ss None None None each served told = told
hears turns c stretch ss (Some old) (Some new) (Some rs) each served told =
    (rs, (told, subst (λ z. SeesAll (TurnedThere turns) c (calls_in c z) old rs new) (sym each) served))
hears turns c stretch ss _ _ _ each served told = absurd served

all_calls : (stretch : List NumberedCommand) (ss : List Said) → commands_said ss ≡ stretch → AreCalls stretch → AreCalls (commands_said ss)
all_calls stretch ss each calls = subst AreCalls (sym each) calls

module _ {S : Type 0} (stretch : List NumberedCommand) where
  -- what all of a client's calls leave as it is stays
  still : {X : Type 0} (of : LibFs S → X) (x : X) → ((l m : LibFs S) → IsSameClient l m → of m ≡ of l) → (ls : List (LibFs S)) (ends : List (ClientEnd S)) →
      AllZip (MakesCalls stretch) ls ends → AllByRecursion (λ l. of l ≡ x) ls
      → AllByRecursion (λ l. of l ≡ x) (map libfs_at ends)
  still of x same [] [] made all = tt
  still of x same (l ∷ ls) (e ∷ es) made all = (same l e.libfs made.0.client ∙ all.0, still of x same ls es made.1 all.1)
  still of x same _ _ made all = absurd made

  -- the clients are of the same keeper, and have as many turns
  pub still_at : (k : Keeper S) (ls : List (LibFs S)) (ends : List (ClientEnd S)) → AllZip (MakesCalls stretch) ls ends → AreAt k ls →
      AreAt k (map libfs_at ends)
  still_at k ls ends made at = still keeper_of k (λ l m same. same.keeper) ls ends made at

  pub still_turns : (turns : ℕ) (ls : List (LibFs S)) (ends : List (ClientEnd S)) → AllZip (MakesCalls stretch) ls ends → HaveTurns turns ls →
      HaveTurns turns (map libfs_at ends)
  still_turns turns ls ends made limits = still limit_of turns (λ l m same. same.limit) ls ends made limits

  pub has_all : (ls : List (LibFs S)) (ends : List (ClientEnd S)) → AllZip (MakesCalls stretch) ls ends → HasAllOf stretch (map outcomes_at ends)
  has_all [] [] made c = tt
  has_all (l ∷ ls) (e ∷ es) made c =
      cond_both (client_of e.libfs == c) (Some e.replies.items) (outcomes_of c (map outcomes_at es))
      (λ o. IfSome o (λ all. length all ≡ length (calls_in c stretch)))
      (λ is. made.0.sees.count ∙ ap (λ d. length (calls_in d stretch)) (sym made.0.client.client ∙ eqb-true (client_of e.libfs) c is))
      (λ is. has_all ls es made.1 c)
  has_all _ _ made c = absurd made

module _ (turns : ℕ) {S : Type 0} (stretch : List NumberedCommand) (ls : List (LibFs S)) (ends : List (ClientEnd S))
    (made : AllZip (MakesCalls stretch) ls ends) (limits : HaveTurns turns ls) where
  hears_its : (ss : List Said) → commands_said ss ≡ stretch → (c : ℕ) → AreTold c ss (outcomes_of c (map outcomes_at ends)) →
      HearsStretch turns c ss (sight_of c (sights ls)) (sight_of c (map sight_at ends))
  hears_its ss each c told = hears turns c stretch ss (sight_of c (sights ls)) (sight_of c (map sight_at ends)) (outcomes_of c (map outcomes_at ends)) each
      (all_served turns c stretch ls ends made limits) told

  pub is_said : (seen : Machine) (old new : Option (List ℕ)) → AreCalls stretch → AreCallsSaid turns stretch seen (map outcomes_at ends) old new →
      IsStretchSaid turns stretch seen (sights ls) (map sight_at ends) old new
  is_said seen old new calls are = record {
    said = are.said;
    each = are.each;
    main = are.main;
    appends = are.appends;
    clients = λ c. hears_its are.said are.each c (are.told c);
    on = λ c. hears_on turns c are.said (sight_of c (sights ls)) (sight_of c (map sight_at ends)) (all_calls stretch are.said are.each calls)
        (hears_its are.said are.each c (are.told c));
    quiet = calls_open_none are.said (all_calls stretch are.said are.each calls);
  }

-- ---- of the lists

module _ {C : Type 0} (stretch : List NumberedCommand) where
  one_makes : (l : LibFs (ClusterOf C)) (x : ClientList (ClusterOf C)) (e : ClientEnd (ClusterOf C)) → HasCalls stretch l x →
      HasServed cluster_history cluster_acts x e → MakesCalls stretch l e
  one_makes l x e has served = record {
    client = subst (λ y. IsSameClient y e.libfs) has.same served.client;
    sees = subst (λ y. SeesAll (TurnedThere (limit_of y)) (client_of y) (calls_in (client_of l) stretch) (seen_by y) e.replies.items (seen_by e.libfs)) has.same
        (subst (λ ops. SeesAll (TurnedThere (limit_of x.libfs)) (client_of x.libfs) ops (seen_by x.libfs) e.replies.items (seen_by e.libfs)) has.calls
        (sees_of C (limit_of x.libfs) (client_of x.libfs) (calls_of_list x) (seen_by x.libfs) e.replies.items (seen_by e.libfs) served.sees));
  }

  pub all_make : (ls : List (LibFs (ClusterOf C))) (lists : List (ClientList (ClusterOf C))) (ends : List (ClientEnd (ClusterOf C))) →
      AllZip (HasCalls stretch) ls lists → AllZip (HasServed cluster_history cluster_acts) lists ends → AllZip (MakesCalls stretch) ls ends
  all_make [] [] [] calls served = tt
  all_make (l ∷ ls) (x ∷ xs) (e ∷ es) calls served = (one_makes l x e calls.0 served.0, all_make ls xs es calls.1 served.1)
  all_make [] [] _ calls served = absurd served
  all_make (l ∷ ls) (x ∷ xs) _ calls served = absurd served
  all_make _ _ _ calls served = absurd calls
