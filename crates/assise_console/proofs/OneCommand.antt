-- What commands make happen: one event, or some, which their answers tell.
use Rattle.assise_console.proofs.Common.{⊤, ◌≡◌, ◌<◌, ◌≤◌, ℕ, Bool, true, false, List, [], ◌∷◌, Option, Some, None, Result, Ok, Err, length, refl, ap, sym}
use Rattle.assise_console.proofs.Common.{subst, ◌∙◌, arith, Op, Refusal, BadClient, BadNode, OutOfMemory, alone_at, Durability, node_fault, RevokerKind, Least}
use Rattle.assise_console.proofs.Common.{Whole, Eights, Answer, ClusterEvent, back, crash, digest, fail, join, open_client, raise, refill, refused}
use Rattle.assise_console.proofs.Common.{release_ready, set_hot, try_call, Happens, Machine, Digesting, Releasing, Sending, SettingHot, node_refused, IsServed}
use Rattle.assise_console.proofs.Common.{happens, stock_after, Response, Carried, Refused, Shown, Told, Kind, IsOne, IsOneAt, Tells, TellsAt, ConsoleState}
use Rattle.assise_console.proofs.Common.{stock_of, with_machine, with_stock, Calls, CallsOften, CarriesFrames, Changes, OpensClient, Returns, ReturnsWhole}
use Rattle.assise_console.proofs.Common.{SetsHot, Shows, call_answer, is_carried, is_made, is_refused, is_shown, lacks_memory, return_answer}
use Rattle.assise_names.specs.declared.reply.Reply.{Reply}
use Rattle.assise_seq_tree.specs.Tree.{Tree as PlainTree}
use Rattle.assise_inode_table.specs.Spelled.{Spells}
use Rattle.assise_rounds.specs.NodeLinks.{FaithfulAt}
use Rattle.assise_rounds.specs.Returning.{ComesBack, is_refused as comes_not}
use Rattle.assise_rounds.specs.Rounds.{Replicates}
use Rattle.assise_rounds.specs.Trying.{TriesOften, is_settled}
use Rattle.assise_console.proofs.Numbers.{comes_nowhere, crashes_nobody, digests_nowhere, fails_nowhere, fills_nowhere, joins_nowhere, no_node, opens_nowhere}
use Rattle.assise_console.proofs.Numbers.{raises_nowhere, sets_nowhere, tries_nobody}
use Rattle.assise_console.proofs.SmallNumbers.{no_client_so_large, no_node_so_large}

-- ---- links

-- the link is of the kind that it was
abbrev pub with_links : ConsoleState → Machine → List Kind → ConsoleState
with_links s m links = record { machine = m; stock = s.stock; turns = s.turns; manual = s.manual; links = links }

changes_links : (Does : Machine → Told → Machine → Type 0) (s : ConsoleState) (m' : Machine) (links : List Kind) → links ≡ s.links →
    (es : Told) × Does s.machine es m' → (es : Told) × Changes Does s es (with_links s m' links)
changes_links Does s m' links same (es, h) = (es, record { events = h; stays = ap (with_links s m') same })

-- ---- an open

pub opens_by : (s : ConsoleState) (n k : ℕ) (kind : RevokerKind) (u : Durability) (a : Response) (e : Answer) (m' : Machine) (left : ℕ) → k ≡ n → Tells a e →
    IsServed (stock_of kind s.stock) s.machine (open_client k u) e m'
    → left ≡ stock_after (stock_of kind s.stock) e →
    (es : Told) × OpensClient s n kind u es a
    (record { machine = m'; stock = with_stock kind left s.stock; turns = s.turns; manual = s.manual; links = s.links })
opens_by s n k kind u a e m' left same tells served stock = (
  _,
  record {
    answer = e;
    tells = tells;
    told = refl;
    served = subst (λ j. IsServed (stock_of kind s.stock) s.machine (open_client j u) e m') same served;
    stock = ap (λ l. with_stock kind l s.stock) stock;
    turns = refl;
    manual = refl;
    links = refl;
  },
)

same_stock : (s : ConsoleState) (kind : RevokerKind) → s.stock ≡ with_stock kind (stock_of kind s.stock) s.stock
same_stock s Least = refl
same_stock s Whole = refl
same_stock s Eights = refl

pub opens_none : (s : ConsoleState) (n : ℕ) (kind : RevokerKind) (u : Durability) → length s.machine.members.nodes < n →
    (es : Told) × OpensClient s n kind u es (Refused BadNode) s
opens_none s n kind u far = (
  _,
  record {
    answer = refused BadNode;
    tells = refl;
    told = refl;
    served = happens (opens_nowhere s.machine n u far);
    stock = same_stock s kind;
    turns = refl;
    manual = refl;
    links = refl;
  },
)

-- ---- a call

pub calls_once : (s : ConsoleState) (n k : ℕ) (op : Op) (a : Response) (e : Answer) (m' : Machine) → k ≡ n → s.manual ≡ true → Tells a e →
    Happens s.machine (try_call k op) e m' → (es : Told) × Changes (Calls s.manual s.links s.turns n op a) s es (with_machine s m')
calls_once s n k op a e m' same manual tells h =
    let once : IsOne (try_call k op) a s.machine ((try_call k op, e) ∷ []) m' =
    record { answer = e; tells = tells; event = record { told = refl; happens = h } } in (
      (try_call k op, e) ∷ [],
      record {
        events = rw manual (subst (λ j. IsOne (try_call j op) a s.machine ((try_call k op, e) ∷ []) m') same once);
        stays = refl;
      },
    )

pub calls_often : (s : ConsoleState) (n k : ℕ) (op : Op) (a : Response) (r : Result Reply Refusal) (m' : Machine) (links : List Kind) → k ≡ n →
    s.manual ≡ false → a ≡ call_answer r → links ≡ s.links → (es : Told) × TriesOften (FaithfulAt s.links) s.turns k op r s.machine es m'
    → (es : Told) × Changes (Calls s.manual s.links s.turns n op a) s es (with_links s m' links)
calls_often s n k op a r m' links same manual tells stay (es, h) =
    let often : CallsOften s.links s.turns n op a s.machine es m' =
    record { result = r; answer = tells; tries = subst (λ j. TriesOften (FaithfulAt s.links) s.turns j op r s.machine es m') same h } in
    changes_links (Calls s.manual s.links s.turns n op a) s m' links stay (es, rw manual often)

pub calls_none : (s : ConsoleState) (n : ℕ) (op : Op) → s.machine.world.clients < n →
    (es : Told) × Changes (Calls s.manual s.links s.turns n op (Refused BadClient)) s es s
calls_none s n op far = either s.manual refl
  where
    nobody : Happens s.machine (try_call n op) (refused BadClient) s.machine
    nobody = tries_nobody s.machine n op far

    once : IsOne (try_call n op) (Refused BadClient) s.machine ((try_call n op, refused BadClient) ∷ []) s.machine
    once = record { answer = refused BadClient; tells = refl; event = record { told = refl; happens = nobody } }

    often : CallsOften s.links s.turns n op (Refused BadClient) s.machine ((try_call n op, refused BadClient) ∷ []) s.machine
    often = record {
      result = Err BadClient;
      answer = refl;
      tries = is_settled 0 (omega arith) record {
        between = s.machine;
        before = [];
        after = (try_call n op, refused BadClient) ∷ [];
        told = refl;
        first = record { told = refl; stays = refl };
        second = record { told = refl; happens = nobody };
      };
    }

    either : (manual : Bool) → s.manual ≡ manual → (es : Told) × Changes (Calls s.manual s.links s.turns n op (Refused BadClient)) s es s
    either true is = ((try_call n op, refused BadClient) ∷ [], record { events = rw is once; stays = refl })
    either false is = ((try_call n op, refused BadClient) ∷ [], record { events = rw is often; stays = refl })

-- ---- a replicate turn, and a digest

-- what is done over a faithful link is done over one of which less is known
replicates_less : (F G : Type 0) → (F → G) → (n count : ℕ) (m : Machine) (es : Told) (m' : Machine) → Replicates G n count m es m' →
    Replicates F n count m es m'
replicates_less F G to n count m es m' h = record { carried = h.carried; same = λ f. h.same (to f); counts = h.counts; told = h.told; happen = h.happen }

pub carries_some : (s : ConsoleState) (n k count : ℕ) (m' : Machine) (G : Type 0) (links : List Kind) → k ≡ n → (FaithfulAt s.links k → G) → links ≡ s.links →
    (es : Told) × Replicates G k count s.machine es m'
    → (es : Told) × Changes (CarriesFrames (FaithfulAt s.links n) n (Carried count)) s es (with_links s m' links)
carries_some s n k count m' G links same to stay (es, h) =
    let here : CarriesFrames (FaithfulAt s.links k) k (Carried count) s.machine es m' =
    is_carried count refl (replicates_less (FaithfulAt s.links k) G to k count s.machine es m' h) in
    changes_links (CarriesFrames (FaithfulAt s.links n) n (Carried count)) s m' links stay
    (es, subst (λ j. CarriesFrames (FaithfulAt s.links j) j (Carried count) s.machine es m') same here)

pub carries_refused : (s : ConsoleState) (n k : ℕ) (r : Refusal) (m' : Machine) (links : List Kind) → k ≡ n → links ≡ s.links →
    Sending s.machine k (refused r) m'
    → (es : Told) × Changes (CarriesFrames (FaithfulAt s.links n) n (Refused r)) s es (with_links s m' links)
carries_refused s n k r m' links same stay h =
    changes_links (CarriesFrames (FaithfulAt s.links n) n (Refused r)) s m' links stay
    (_, is_refused r refl record { told = refl; happens = subst (λ j. Sending s.machine j (refused r) m') same h })

pub carries_nowhere : (s : ConsoleState) (n : ℕ) → node_fault s.machine n ≡ Some BadNode →
    (es : Told) × Changes (CarriesFrames (FaithfulAt s.links n) n (Refused BadNode)) s es s
carries_nowhere s n none = (_, record { events = is_refused BadNode refl record { told = refl; happens = node_refused BadNode none refl refl }; stays = refl })

pub carries_none : (s : ConsoleState) (n : ℕ) → length s.machine.members.nodes < n →
    (es : Told) × Changes (CarriesFrames (FaithfulAt s.links n) n (Refused BadNode)) s es s
carries_none s n far = carries_nowhere s n (no_node s.machine n far)

pub digests_by : (m : Machine) (n k : ℕ) (a : Response) (e : Answer) (m' : Machine) → k ≡ n → Tells a e → Digesting m k e m' →
    (es : Told) × IsOne (digest n) a m es m'
digests_by m n k a e m' same tells h =
    (_, record { answer = e; tells = tells; event = record { told = refl; happens = subst (λ j. Digesting m j e m') same h } })

pub digests_none : (m : Machine) (n : ℕ) → length m.members.nodes < n → (es : Told) × IsOne (digest n) (Refused BadNode) m es m
digests_none m n far = (_, record { answer = refused BadNode; tells = refl; event = record { told = refl; happens = digests_nowhere m n far } })

-- ---- leases

pub releases_by : (m : Machine) (a : Response) (e : Answer) (m' : Machine) → Tells a e → Releasing m e m' → (es : Told) × IsOne release_ready a m es m'
releases_by m a e m' tells h = (_, record { answer = e; tells = tells; event = record { told = refl; happens = h } })

-- ---- crashes, failures and returns

pub does_at : (what : ℕ → ClusterEvent) (m : Machine) (n k : ℕ) (a : Response) (e : Answer) (m' : Machine) → k ≡ n → TellsAt k a e → Happens m (what k) e m' →
    (es : Told) × IsOneAt what n a m es m'
does_at what m n k a e m' same tells h =
    let there : IsOneAt what k a m ((what k, e) ∷ []) m' = record { answer = e; tells = tells; event = record { told = refl; happens = h } } in
    ((what k, e) ∷ [], subst (λ j. IsOneAt what j a m ((what k, e) ∷ []) m') same there)

refuses_at : (what : ℕ → ClusterEvent) (m : Machine) (n : ℕ) (r : Refusal) → Happens m (what n) (refused r) m → (es : Told) × IsOneAt what n (Refused r) m es m
refuses_at what m n r h = does_at what m n n (Refused r) (refused r) m refl refl h

pub crashes_none : (m : Machine) (c : ℕ) → m.world.clients < c → (es : Told) × IsOneAt crash c (Refused BadClient) m es m
crashes_none m c far = refuses_at crash m c BadClient (crashes_nobody m c far)

pub fails_none : (m : Machine) (n : ℕ) → length m.members.nodes < n → (es : Told) × IsOneAt fail n (Refused BadNode) m es m
fails_none m n far = refuses_at fail m n BadNode (fails_nowhere m n far)

pub comes_none : (m : Machine) (n : ℕ) → length m.members.nodes < n → (es : Told) × IsOneAt back n (Refused BadNode) m es m
comes_none m n far = refuses_at back m n BadNode (comes_nowhere m n far)

pub refills_none : (m : Machine) (n : ℕ) → length m.members.nodes < n → (es : Told) × IsOneAt refill n (Refused BadNode) m es m
refills_none m n far = refuses_at refill m n BadNode (fills_nowhere m n far)

pub joins_none : (m : Machine) (n : ℕ) → length m.members.nodes < n → (es : Told) × IsOneAt join n (Refused BadNode) m es m
joins_none m n far = refuses_at join m n BadNode (joins_nowhere m n far)

pub raises_none : (m : Machine) (n : ℕ) → length m.members.nodes < n → (es : Told) × IsOneAt raise n (Refused BadNode) m es m
raises_none m n far = refuses_at raise m n BadNode (raises_nowhere m n far)

-- ---- how many inodes may be hot

hot_made : (n capacity : ℕ) (a : Response) (m m' : Machine) → 1 ≤ capacity → capacity ≤ 4096 → (es : Told) × IsOneAt (λ j. set_hot j capacity) n a m es m' →
    (es : Told) × SetsHot n capacity a m es m'
hot_made n capacity a m m' least most (es, h) = (es, is_made least most h)

pub sets_hot : (m : Machine) (n k capacity : ℕ) (a : Response) (e : Answer) (m' : Machine) → k ≡ n → 1 ≤ capacity → capacity ≤ 4096 → TellsAt k a e →
    SettingHot m k capacity e m' → (es : Told) × SetsHot n capacity a m es m'
sets_hot m n k capacity a e m' same least most tells h = hot_made n capacity a m m' least most (does_at (λ j. set_hot j capacity) m n k a e m' same tells h)

pub hot_nowhere : (m : Machine) (n capacity : ℕ) → 1 ≤ capacity → capacity ≤ 4096 → length m.members.nodes < n →
    (es : Told) × SetsHot n capacity (Refused BadNode) m es m
hot_nowhere m n capacity least most far =
    hot_made n capacity (Refused BadNode) m m least most (refuses_at (λ j. set_hot j capacity) m n BadNode (sets_nowhere m n capacity far))

-- ---- the same of a console, whose cluster alone changes

pub changes : (What : Machine → Told → Machine → Type 0) (s : ConsoleState) (m' : Machine) → (es : Told) × What s.machine es m' →
    (es : Told) × Changes What s es (with_machine s m')
changes What s m' (es, h) = (es, record { events = h; stays = refl })

pub begins_return : (s : ConsoleState) (n : ℕ) (a : Response) (m' : Machine) → s.manual ≡ true → (es : Told) × IsOneAt back n a s.machine es m' →
    (es : Told) × Changes (Returns s.manual n a) s es (with_machine s m')
begins_return s n a m' manual (es, h) = (es, record { events = rw manual h; stays = refl })

pub returns_whole : (s : ConsoleState) (n k : ℕ) (a : Response) (r : Result ⊤ Refusal) (m' : Machine) → k ≡ n → s.manual ≡ false → a ≡ return_answer k r →
    (es : Told) × ComesBack k r s.machine es m' → (es : Told) × Changes (Returns s.manual n a) s es (with_machine s m')
returns_whole s n k a r m' same manual tells (es, h) =
    let whole : ReturnsWhole k a s.machine es m' = record { result = r; answer = tells; comes = h } in
    (es, record { events = rw manual (subst (λ j. ReturnsWhole j a s.machine es m') same whole); stays = refl })

pub returns_none : (s : ConsoleState) (n : ℕ) → s.manual ≡ false → length s.machine.members.nodes < n →
    (es : Told) × Changes (Returns s.manual n (Refused BadNode)) s es s
returns_none s n manual far =
    let nowhere = comes_nowhere s.machine n far in returns_whole s n n (Refused BadNode) (Err BadNode) s.machine refl manual refl
    ((back n, refused BadNode) ∷ [], comes_not BadNode refl record { told = refl; happens = nowhere })

-- ---- a tree

pub shows_tree : (m : Machine) (n k : ℕ) (tree : PlainTree) → k ≡ n → node_fault m k ≡ None → Spells (alone_at m.world k) tree → Shows n (Shown tree) m
shows_tree m n k tree same fine spelled = rw (sym same) (is_shown tree fine refl spelled)

abbrev refusal_in : Refusal → Result PlainTree Refusal → Refusal
refusal_in r (Ok t) = r
refusal_in r (Err x) = x

same_refusal : (r e : Refusal) (res : Result PlainTree Refusal) → res ≡ Err r → res ≡ Err e → r ≡ e
same_refusal r e res is other = ap (refusal_in r) (sym is ∙ other)

pub shows_refusal : (m : Machine) (n k : ℕ) (r : Refusal) (res : Result PlainTree Refusal) → k ≡ n → res ≡ Err r →
    ((e : Refusal) → node_fault m k ≡ Some e → res ≡ Err e) → (node_fault m k ≡ None → r ≡ OutOfMemory) → Shows n (Refused r) m
shows_refusal m n k r res same is faulty memory = rw (sym same) (by_case (node_fault m k) refl)
  where
    by_case : (fault : Option Refusal) → node_fault m k ≡ fault → Shows k (Refused r) m
    by_case None e = lacks_memory e (ap Refused (memory e))
    by_case (Some f) e = is_refused f e (ap Refused (same_refusal r f res is (faulty f e)))

pub shows_nothing : (m : Machine) (n : ℕ) → length m.members.nodes < n → Shows n (Refused BadNode) m
shows_nothing m n far = is_refused BadNode (no_node m n far) refl

-- ---- a number that names nothing is refused

pub ruleset names_none = (digests_none, crashes_none, fails_none, comes_none, refills_none, joins_none, raises_none, no_client_so_large, no_node_so_large)
