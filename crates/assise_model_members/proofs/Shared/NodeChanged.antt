-- One node that isn't full is changed: it fails again, begins to come back, or is filled.
use Rattle.assise_model_members.proofs.Common.{◌≡◌, ◌≢◌, inl, inr, ℕ, false, true, Some, refl, sym, ap, ◌∙◌, subst, arith, nat_cmp, contains-remove}
use Rattle.assise_model_members.proofs.Common.{nat_cmp_total, cases_eq, ne_eqb, same_Some, contains, World, Full, since_of, AreMembers, FailsAgain}
use Rattle.assise_model_members.proofs.Common.{BeginsReturn, Refills, with_node, failed_as, back_as, copied_as, filling_fault_of, stale_of, Membership}
use Rattle.assise_model_members.proofs.Common.{IsMembership, written_since, lowest_full, Standing, standing_of, full, down, returning, failed_lawful}
use Rattle.assise_model_members.proofs.Common.{back_lawful, copied_lawful, donor_full}
use Rattle.std.specs.FinSet as set
use Rattle.assise_model_members.proofs.Shared.NodeStandings.{set_here, set_else, lowest_stands, returning_is, down_is}

-- ---- any such change

-- what a change of node n to this standing does
record IsChange (w u : World) (m : Membership) (n since : ℕ) (old s : Standing) : Type 0 where
  pub stood : standing_of m.nodes n ≡ Some old
  pub was_away : since_of (Some old) ≡ Some since
  pub is_away : since_of (Some s) ≡ Some since
  pub lawful : IsMembership (with_node m n s)
  pub full : u.full ≡ w.full
  pub area_else : (k i : ℕ) → k ≢ n → u.area k i ≡ w.area k i
  pub unwritten : (i : ℕ) → set.contains (written_since m since) i ≡ false → u.area n i ≡ w.area n i
  pub fills : (since donor i : ℕ) (stale : set.FinSet nat_cmp) → s ≡ returning since donor stale → set.contains stale i ≡ false → u.area n i ≡ u.area donor i

-- a full node is another
full_other : (w : World) (m : Membership) (n k since : ℕ) (old : Standing) → AreMembers w m → standing_of m.nodes n ≡ Some old →
    since_of (Some old) ≡ Some since →
    Full w k → k ≢ n
full_other w m n k since old a stood away f is = grind arith

module _ (w u : World) (m : Membership) (n since : ℕ) (old s : Standing) (a : AreMembers w m) (g : IsChange w u m n since old s) where
  here : standing_of (with_node m n s).nodes n ≡ Some s
  here = set_here m.nodes n old s g.stood

  elsewhere : (k : ℕ) → k ≢ n → standing_of (with_node m n s).nodes k ≡ standing_of m.nodes k
  elsewhere k differs = set_else m.nodes n k old s g.stood differs

  was_full : (k : ℕ) → Full u k → Full w k
  was_full k f = subst (λ ns. contains ns k ≡ true) g.full f

  other_full : (k : ℕ) → Full w k → k ≢ n
  other_full k f = full_other w m n k since old a g.stood g.was_away f

  due : (k e f i : ℕ) → since_of (standing_of (with_node m n s).nodes k) ≡ Some e → Full u f → set.contains (written_since m e) i ≡ false →
      u.area k i ≡ u.area f i
  due k e f i at ff none = grind (arith, was_full, other_full, cases_eq, same_Some, here, elsewhere)

  filling : (k first donor i : ℕ) (stale : set.FinSet nat_cmp) → standing_of (with_node m n s).nodes k ≡ Some (returning first donor stale) →
      set.contains stale i ≡ false → u.area k i ≡ u.area donor i
  filling k first donor i stale at none =
      elim (cases_eq k n) [
        | inl is ↦
            subst (λ k. u.area k i ≡ u.area donor i) (sym is)
            (g.fills first donor i stale
            (grind (arith, here)) none)
        | inr differs ↦
            let before : standing_of m.nodes k ≡ Some (returning first donor stale) = sym (elsewhere k differs) ∙ at in
            g.area_else k i differs ∙ a.filling k first donor i stale before none
            ∙ sym (g.area_else donor i (other_full donor (a.nodes_full donor (donor_full m k first donor stale a.lawful before))))
      ]

  change_keeps : AreMembers u (with_node m n s)
  change_keeps = search (elsewhere, other_full, here, filling, arith) parts 3

-- ---- a node that comes back fails again

module _ (w u : World) (m m' : Membership) (n : ℕ) (g : FailsAgain w m n u m') where
  pub again_stands : (since donor : ℕ) (stale : set.FinSet nat_cmp) → standing_of m.nodes n ≡ Some (returning since donor stale) →
      m' ≡ with_node m n (down since)
  again_stands since donor stale is = g.members ∙ ap (failed_as m n set.empty) is

  pub again_keeps : AreMembers w m → AreMembers u m'
  again_keeps a =
      (let (since, donor, stale, is) = returning_is (standing_of m.nodes n) g.was_returning in
      let same : m' ≡ with_node m n (down since) = again_stands since donor stale is in
      subst (AreMembers u) (sym same)
      (change_keeps w u m n since (returning since donor stale) (down since) a (grind (arith, failed_lawful))))

-- ---- a node that was down begins to come back

module _ (w u : World) (m m' : Membership) (n : ℕ) (g : BeginsReturn w m n u m') where
  pub back_is : (since : ℕ) → standing_of m.nodes n ≡ Some (down since) → m' ≡ with_node m n (returning since (lowest_full m.nodes) (written_since m since))
  back_is since is = g.members ∙ ap (back_as m n) is

  pub back_keeps : AreMembers w m → AreMembers u m'
  back_keeps a =
      (let (since, is) = down_is (standing_of m.nodes n) g.fine in
      let low : ℕ = lowest_full m.nodes in
      let written : set.FinSet nat_cmp = written_since m since in
      let same : m' ≡ with_node m n (returning since low written) = back_is since is in
      let low_full : Full w low = a.nodes_full low (lowest_stands m.nodes a.lawful.some_full) in
      let stale : stale_of (standing_of m'.nodes n) ≡ Some written = grind (arith, set_here) in
      let unwritten : (i : ℕ) → set.contains written i ≡ false → u.area n i ≡ w.area n i = grind arith in
      subst (AreMembers u) (sym same)
      (change_keeps w u m n since (down since) (returning since low written) a (grind (arith, back_lawful))))

-- ---- an inode is filled

-- without one inode, a set has the others
removed_else : (s : set.FinSet nat_cmp) (i j : ℕ) → j ≢ i → set.contains (set.remove s i) j ≡ false → set.contains s j ≡ false
removed_else s i j differs none = grind (arith, ne_eqb, contains-remove, nat_cmp_total)

module _ (w u : World) (m m' : Membership) (n i : ℕ) (g : Refills w m n i u m') where
  pub refill_is : m' ≡ with_node m n (returning g.since g.donor (set.remove g.stale i))
  refill_is = g.members ∙ ap (λ o. record { epoch = m.epoch; nodes = copied_as m.nodes n i o; written = m.written; levels = m.levels }) g.stands

  pub refill_keeps : AreMembers w m → AreMembers u m'
  refill_keeps a =
      let donor_before : Full w g.donor = a.nodes_full g.donor (donor_full m n g.since g.donor g.stale a.lawful g.stands) in
      let donor_stays : (j : ℕ) → u.area g.donor j ≡ w.area g.donor j =
      grind arith in
      subst (AreMembers u) (sym refill_is)
      (change_keeps w u m n g.since (returning g.since g.donor g.stale) (returning g.since g.donor (set.remove g.stale i)) a (record {
        stood = g.stands;
        was_away = refl;
        is_away = refl;
        lawful = subst IsMembership (sym g.members ∙ refill_is) (copied_lawful m n a.lawful (ap filling_fault_of g.stands) i);
        full = g.rests.nodes.full;
        area_else = λ k j differs. g.area_else k j (λ is _. differs is);
        unwritten = grind arith;
        fills = grind (arith, removed_else);
      }))
