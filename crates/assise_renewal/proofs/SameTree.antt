-- Dsyncs and rounds leave the tree of the kept calls as it was.
use Rattle.assise_renewal.proofs.Common.{◌≡◌, ℕ, List, [], ◌∷◌, ◌++◌, inl, inr, ap, sym, ◌∙◌, append_assoc, append-nil, AllByRecursion, Op, Dsync, Reply, Tree}
use Rattle.assise_renewal.proofs.Common.{opening, Call, EntryValue, calls, kept, tree_after, calls_made, Answer, ClusterEvent, all_entries, call_entry}
use Rattle.assise_renewal.proofs.Common.{entries_of, Machine, observed, ClusterOf, machine, Told, trace_told, IsDsync, IsLedBy, IsOfSort, tree_kept}
use Rattle.assise_seq_tree.specs.Answer.{answer}
use Rattle.assise_history.proofs.Shared.Runs.{kept-push, tree_after-push}
use Rattle.assise_renewal.proofs.Added.{added}

abbrev tree_of : List EntryValue → Tree
tree_of h = tree_after opening (kept h)

dsync_leaves : (t : Tree) (op : Op) → op ≡ Dsync → (answer t op).1 ≡ t
dsync_leaves t op is = ap (λ o. (answer t o).1) is

call_leaves : (h : List EntryValue) (c : ℕ) (op : Op) (reply : Reply) → op ≡ Dsync → tree_of (h ++ call_entry h c op reply) ≡ tree_of h
call_leaves h c op reply is =
    let x : Call = record { client = c; number = calls_made c h; op = op; reply = reply } in
    ap (tree_after opening) (kept-push h (calls x)) ∙ tree_after-push opening (kept h) x ∙ dsync_leaves (tree_of h) op is

event_leaves : (h : List EntryValue) (e : ClusterEvent) (a : Answer) → IsOfSort IsDsync e → tree_of (h ++ entries_of h e a) ≡ tree_of h
event_leaves h e a is =
    elim (added IsDsync h e a is) [
      | inl none ↦ ap (λ es. tree_of (h ++ es)) none ∙ ap tree_of (append-nil h)
      | inr one ↦ ap (λ es. tree_of (h ++ es)) one.is ∙ call_leaves h one.client one.op one.reply one.sorted
    ]

events_leave : (h : List EntryValue) (es : Told) → AllByRecursion (λ e. IsOfSort IsDsync e.0) es → tree_of (h ++ all_entries h es) ≡ tree_of h
events_leave h [] each = ap tree_of (append-nil h)
events_leave h ((e, a) ∷ es) each =
    let now = h ++ entries_of h e a in
    ap tree_of (sym (append_assoc h (entries_of h e a) (all_entries now es))) ∙ events_leave now es each.1 ∙ event_leaves h e a each.0

led_leaves : (m m' : Machine) → IsLedBy IsDsync m m' → tree_of m'.history ≡ tree_of m.history
led_leaves m m' led = ap tree_of (trace_told m m' led.events led.trace) ∙ events_leave m.history led.events led.sorted

pub same_tree_kept : {C : Type 0} (old new : ClusterOf C) → IsLedBy IsDsync (machine old) (machine new) → tree_kept new ≡ tree_kept old
unfolding observed
same_tree_kept old new led = led_leaves (machine old) (machine new) led
