-- Legal histories with an entry more, of each kind, in the words of the entries: what a machine cites for one step.
use Rattle.assise_history.proofs.Common.{◌≡◌, ◌↔◌, ℕ, List, [], ◌∷◌, ◌++◌, refl, sym, subst, ◌∙◌, append_assoc, opening, answer, Durability, Call, Loss}
use Rattle.assise_history.proofs.Common.{EntryValue, opens, calls, crashes, fails, returns, kept, tree_after, IsRun, IsLegal, Fits, IsAlive, IsDown, IsFair}
use Rattle.assise_history.proofs.Common.{IsNextCall, MayFollow, MayOpen, arith}
use Rattle.assise_history.proofs.Shared.TestedElements.{by_ends}
use Rattle.assise_history.proofs.Shared.Runs.{kept-push, kept-call, run-push, run-last}
use Rattle.assise_history.proofs.Shared.LivesOneMore.{further}
use Rattle.assise_history.proofs.Shared.Legality.{legal-nil, legal-push, legal-prefix, legal-last, legal_run, legal_from, fits_in, prefix_run}

-- the reply is the answer on the tree that the kept calls leave
abbrev pub IsAnswered : List EntryValue → Call → Type 0
IsAnswered h x = x.reply ≡ (answer (tree_after opening (kept h)) x.op).0

-- an entry that leaves what is kept fits where it may follow
pub fits_quiet : (h : List EntryValue) (e : EntryValue) → IsLegal h → kept (h ++ e ∷ []) ≡ kept h → MayFollow h e → Fits h e
fits_quiet h e legal same may = record { follows = may; run = subst (IsRun opening) (sym same) (legal_run h legal) }

pub fits_call : (h : List EntryValue) (x : Call) → IsLegal h → IsNextCall h x → IsAnswered h x → Fits h (calls x)
fits_call h x legal next reply = grind (arith, kept-call, run-push, legal_run)

pub fits_failure : (h : List EntryValue) (n : ℕ) (losses : List Loss) → IsFair h n losses → IsRun opening (kept (h ++ fails n losses ∷ [])) →
    Fits h (fails n losses)
fits_failure h n losses fair run = record { follows = fair; run = run }

pub call_answered : (h : List EntryValue) (x : Call) → Fits h (calls x) → IsAnswered h x
call_answered h x fits = run-last opening (kept h) x (subst (IsRun opening) (kept-call h x) fits.run)

-- each kind of entry, there and back
pub legal-open : (h : List EntryValue) (c n : ℕ) (u : Durability) → IsLegal h → MayOpen h c n → IsLegal (h ++ opens c n u ∷ [])
legal-open h c n u legal may = legal-push h (opens c n u) legal (fits_quiet h (opens c n u) legal (kept-push h (opens c n u)) may)

pub legal-call : (h : List EntryValue) (x : Call) → IsLegal h → IsNextCall h x → IsAnswered h x → IsLegal (h ++ calls x ∷ [])
legal-call h x legal next reply = legal-push h (calls x) legal (fits_call h x legal next reply)

pub legal-crash : (h : List EntryValue) (c : ℕ) → IsLegal h → IsAlive h c → IsLegal (h ++ crashes c ∷ [])
legal-crash h c legal alive = legal-push h (crashes c) legal (fits_quiet h (crashes c) legal (kept-push h (crashes c)) alive)

pub legal-failure : (h : List EntryValue) (n : ℕ) (losses : List Loss) → IsLegal h → IsFair h n losses → IsRun opening (kept (h ++ fails n losses ∷ [])) →
    IsLegal (h ++ fails n losses ∷ [])
legal-failure h n losses legal fair run = legal-push h (fails n losses) legal (fits_failure h n losses fair run)

pub legal-return : (h : List EntryValue) (n : ℕ) → IsLegal h → IsDown h n → IsLegal (h ++ returns n ∷ [])
legal-return h n legal down = legal-push h (returns n) legal (fits_quiet h (returns n) legal (kept-push h (returns n)) down)

pub open_more : (h : List EntryValue) (c n : ℕ) (u : Durability) → IsLegal (h ++ opens c n u ∷ []) ↔ (IsLegal h × MayOpen h c n)
open_more h c n u = (λ all. (legal-prefix h (opens c n u ∷ []) all, (legal-last h (opens c n u) all).follows), λ p. legal-open h c n u p.0 p.1)

pub call_more : (h : List EntryValue) (x : Call) → IsLegal (h ++ calls x ∷ []) ↔ (IsLegal h × (IsNextCall h x × IsAnswered h x))
call_more h x = (
  λ all. let fits = legal-last h (calls x) all in (legal-prefix h (calls x ∷ []) all, (fits.follows, call_answered h x fits)),
  λ p. legal-call h x p.0 p.1.0 p.1.1,
)

pub crash_more : (h : List EntryValue) (c : ℕ) → IsLegal (h ++ crashes c ∷ []) ↔ (IsLegal h × IsAlive h c)
crash_more h c = (λ all. (legal-prefix h (crashes c ∷ []) all, (legal-last h (crashes c) all).follows), λ p. legal-crash h c p.0 p.1)

pub failure_more : (h : List EntryValue) (n : ℕ) (losses : List Loss) →
    IsLegal (h ++ fails n losses ∷ []) ↔ (IsLegal h × (IsFair h n losses × IsRun opening (kept (h ++ fails n losses ∷ []))))
failure_more h n losses = (
  λ all. let fits = legal-last h (fails n losses) all in (legal-prefix h (fails n losses ∷ []) all, (fits.follows, fits.run)),
  λ p. legal-failure h n losses p.0 p.1.0 p.1.1,
)

pub return_more : (h : List EntryValue) (n : ℕ) → IsLegal (h ++ returns n ∷ []) ↔ (IsLegal h × IsDown h n)
return_more h n = (λ all. (legal-prefix h (returns n ∷ []) all, (legal-last h (returns n) all).follows), λ p. legal-return h n p.0 p.1)

-- an entry in the midst
pub follows_in : (h before later : List EntryValue) (e : EntryValue) → IsLegal h → h ≡ before ++ e ∷ later → MayFollow before e
follows_in h before later e legal split = (fits_in h before later e legal split).follows

pub answered_in : (h before later : List EntryValue) (x : Call) → IsLegal h → h ≡ before ++ calls x ∷ later → IsAnswered before x
answered_in h before later x legal split = call_answered before x (fits_in h before later (calls x) legal split)

-- runs of all prefixes, and entries that may follow
prefix_of : (h before later : List EntryValue) (e : EntryValue) → h ≡ before ++ e ∷ later → h ≡ (before ++ e ∷ []) ++ later
prefix_of h before later e split = split ∙ sym (append_assoc before (e ∷ []) later)

pub legal_parts : (h : List EntryValue) →
    IsLegal h ↔ (((prefix later : List EntryValue) → h ≡ prefix ++ later → IsRun opening (kept prefix))
    × ((before later : List EntryValue) (e : EntryValue) → h ≡ before ++ e ∷ later → MayFollow before e))
legal_parts h = (
  λ legal. (λ prefix later split. prefix_run h prefix later legal split, λ before later e split. follows_in h before later e legal split),
  λ p. legal_from h (λ before later e split. grind (arith, prefix_of h before later e split)),
)

-- what is enough of calls and failures
abbrev Follow : List EntryValue → Type 0
Follow h = (before later : List EntryValue) (e : EntryValue) → h ≡ before ++ e ∷ later → MayFollow before e

abbrev Answered : List EntryValue → Type 0
Answered h = (before later : List EntryValue) (x : Call) → h ≡ before ++ calls x ∷ later → IsAnswered before x

abbrev Left : List EntryValue → Type 0
Left h = (before later : List EntryValue) (n : ℕ) (losses : List Loss) → h ≡ before ++ fails n losses ∷ later →
    IsRun opening (kept (before ++ fails n losses ∷ []))

fits_enough : (h : List EntryValue) (e : EntryValue) → IsLegal h → MayFollow h e → Answered (h ++ e ∷ []) → Left (h ++ e ∷ []) → Fits h e
fits_enough h (calls x) legal may answered left = fits_call h x legal may (answered h [] x refl)
fits_enough h (fails n losses) legal may answered left = fits_failure h n losses may (left h [] n losses refl)
fits_enough h e legal may answered left = fits_quiet h e legal (kept-push h e) may

pub legal_enough : (h : List EntryValue) → Follow h → Answered h → Left h → IsLegal h
legal_enough = by_ends (λ h. Follow h → Answered h → Left h → IsLegal h)
    (λ follow answered left. legal-nil)
    (λ h e before follow answered left.
    let legal = before
    (λ b l x split. follow b (l ++ e ∷ []) x (further h b l x e split))
    (λ b l x split. answered b (l ++ e ∷ []) x (further h b l (calls x) e split))
    (λ b l n losses split. left b (l ++ e ∷ []) n losses (further h b l (fails n losses) e split)) in
    legal-push h e legal (fits_enough h e legal (follow h [] e refl) answered left))
