-- What is known of a client is what the history says.
use Rattle.assise_machine.proofs.Common.{◌≡◌, ℕ, Bool, not, ◌∷◌, ◌++◌, ap, sym, ◌∙◌, arith, opens, IsClient, MachineInvariant, ClientValue, client_in, observed}
use Rattle.assise_machine.proofs.Common.{world_of, StateValue}
use Rattle.assise_machine.specs.KnownClients.{IsKnownClient}

same_not : (a b : Bool) → not a ≡ not b → a ≡ b
same_not a b same = grind arith

pub known_client : (s : StateValue) (c : ℕ) (x : ClientValue) → IsClient (observed s).world c → x ≡ client_in s.clients c → MachineInvariant (observed s) →
    IsKnownClient (observed s).history c x
unfolding observed world_of
known_client s c x client is h =
    let same : client_in s.clients c ≡ x = sym is in
    let home = ap (λ y. y.home) same in
    let was = h.recorded.opened c client in
    let since = was.opened.since in
    record {
      opened = record {
        durability = was.opened.durability;
        before = was.opened.before;
        since = since;
        split = was.opened.split ∙ ap (λ n. was.opened.before ++ opens c n was.opened.durability ∷ since) home;
      };
      crashed = sym (ap (λ y. y.crashed) same) ∙ was.crashed;
      failed =
          grind arith;
      calls = sym (ap (λ y. y.next) same) ∙ h.recorded.next c;
    }
