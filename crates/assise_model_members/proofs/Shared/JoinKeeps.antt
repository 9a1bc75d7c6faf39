-- A node that lacks no inode is full again.
use Rattle.assise_model_members.proofs.Common.{◌≡◌, ◌≢◌, inl, inr, ℕ, false, cond, Option, Some, None, [], ◌∷◌, ◌++◌, refl, sym, ap, ◌∙◌, subst, eqb-true}
use Rattle.assise_model_members.proofs.Common.{arith, nat_cmp, empty_of_len, contains-empty, cases_eq, Joins, World, Full, since_of, AreMembers, Rejoins}
use Rattle.assise_model_members.proofs.Common.{joined, join_fault_of, Membership, written_since, Standing, standing_of, full, returning, joined_lawful}
use Rattle.assise_model_members.proofs.Common.{donor_full}
use Rattle.std.specs.FinSet as set
use Rattle.assise_model_members.proofs.Shared.NodeStandings.{set_here, set_else, away_not_full, not_all}
use Rattle.assise_model_members.proofs.Written.{outside, still_written}

-- a node whose joining isn't refused may lack nothing
pub lacks_none : (o : Option Standing) (since donor : ℕ) (stale : set.FinSet nat_cmp) → o ≡ Some (returning since donor stale) → join_fault_of o ≡ None →
    (i : ℕ) → set.contains stale i ≡ false
lacks_none o since donor stale at fine i = grind (arith, empty_of_len, eqb-true, contains-empty)

module _ (w u : World) (m m' : Membership) (n : ℕ) (a : AreMembers w m) (g : Rejoins w m n u m') where
  abbrev after : Membership
  after = joined m n

  donor_before : Full w g.donor
  donor_before = a.nodes_full g.donor (donor_full m n g.since g.donor g.stale a.lawful g.stands)

  not_before : Full w n → ⊥
  not_before f = away_not_full (standing_of m.nodes n) g.since (ap since_of g.stands) (a.full_nodes n f)

  donor_same : (i : ℕ) → w.area n i ≡ w.area g.donor i
  donor_same i = a.filling n g.since g.donor i g.stale g.stands (lacks_none (standing_of m.nodes n) g.since g.donor g.stale g.stands g.fine i)

  pub rejoin_joins : Joins w n g.donor u
  rejoin_joins = grind (arith, donor_full, donor_before, not_before, donor_same)

  own : standing_of after.nodes n ≡ Some full
  own = set_here m.nodes n (returning g.since g.donor g.stale) full g.stands

  elsewhere : (k : ℕ) → k ≢ n → standing_of after.nodes k ≡ standing_of m.nodes k
  elsewhere k differs = set_else m.nodes n k (returning g.since g.donor g.stale) full g.stands differs

  other : (k e : ℕ) → since_of (standing_of after.nodes k) ≡ Some e → k ≢ n
  other k e at is = away_not_full (standing_of after.nodes k) e at (subst (λ k. standing_of after.nodes k ≡ Some full) (sym is) own)

  -- where some node still isn't full, the lists stay
  fewer : (k e i : ℕ) → since_of (standing_of after.nodes k) ≡ Some e → set.contains (written_since after e) i ≡ false → set.contains (written_since m e) i
      ≡ false
  fewer k e i at none =
      outside (written_since m e) (written_since after e)
      (still_written m after set.empty refl (ap (λ b. cond b [] (m.written ++ set.empty ∷ [])) (not_all after.nodes k e at)) e) i none

  due : (k e f i : ℕ) → since_of (standing_of after.nodes k) ≡ Some e → Full u f → set.contains (written_since after e) i ≡ false → u.area k i ≡ u.area f i
  due k e f i at ff none =
      let old : since_of (standing_of m.nodes k) ≡ Some e = sym (ap since_of (elsewhere k (other k e at))) ∙ at in
      let before : set.contains (written_since m e) i ≡ false = fewer k e i at none in
      g.area k i
      ∙ (elim (g.only f ff) [
        | inl is ↦ a.due k e g.donor i old donor_before before ∙ sym (donor_same i) ∙ sym (ap (λ f. w.area f i) is)
        | inr stayed ↦ a.due k e f i old stayed before
      ])
      ∙ sym (g.area f i)

  filling : (k since donor i : ℕ) (stale : set.FinSet nat_cmp) → standing_of after.nodes k ≡ Some (returning since donor stale) →
      set.contains stale i ≡ false → u.area k i ≡ u.area donor i
  filling k since donor i stale at none = grind (arith, elsewhere k (other k since (ap since_of at)))

  pub rejoin_keeps : AreMembers u m'
  rejoin_keeps = grind (arith, joined_lawful, own, elsewhere, not_before, cases_eq, due, filling)
