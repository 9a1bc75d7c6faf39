-- Records that come to the same: what is left of groups, between two places where groups end, and the records of those groups.
use Rattle.assise_inode_table.proofs.Common.{◌≡◌, ℕ, ◌+◌, ◌-◌, ◌≤◌, true, List, [], ◌∷◌, ◌++◌, length, refl, ap, sym, ◌∙◌, subst, arith, inl, inr, AreGroups}
use Rattle.assise_inode_table.proofs.Common.{all_records, all_coalesced, are_whole, were, coalesced_group, group-effects, value_after, contains, touched}
use Rattle.assise_inode_table.proofs.Common.{SameNetEffect}
use Rattle.assise_record.specs.LogRecord.{LogRecord}
use Rattle.assise_record.specs.Records.{all_effects}
use Rattle.assise_record.proofs.Shared.Records.{all_effects-append}
use Rattle.assise_record.proofs.Shared.WholeGroups.{ends, part, part_past, part_from, were-none, were-past, whole_none}
use Rattle.assise_inode_table.proofs.Shared.EffectValues.{contains-both, value_after-append}
use Rattle.assise_inode_table.proofs.EffectOverrides.{same_net, same_touch}

pub record ComeToSame (rs qs : List LogRecord) : Type 0 where
  pub net : SameNetEffect (all_effects rs) (all_effects qs)
  pub touch : (i : ℕ) → contains (touched (all_effects rs)) i ≡ contains (touched (all_effects qs)) i

pub same_none : ComeToSame [] []
same_none = record { net = λ i v. refl; touch = λ i. refl }

pub same_both : (rs qs ss ts : List LogRecord) → ComeToSame rs qs → ComeToSame ss ts → ComeToSame (rs ++ ss) (qs ++ ts)
same_both rs qs ss ts a b = record {
  net = grind (arith, all_effects-append, value_after-append);
  touch = grind (arith, all_effects-append, contains-both);
}

pub same_group : (g : List LogRecord) → ComeToSame (coalesced_group g) g
same_group g = record {
  net = λ i v. ap (value_after i v) (group-effects g) ∙ same_net (all_effects g) i v;
  touch = λ i. ap (λ es. contains (touched es) i) (group-effects g) ∙ same_touch (all_effects g) i;
}

-- ---- between two places where groups end

pub parts_same : (gs : List (List LogRecord)) (j k : ℕ) → AreGroups gs → are_whole gs j ≡ true → are_whole gs k ≡ true → j ≤ k →
    ComeToSame (part (all_coalesced gs) j k) (part (all_records gs) (were gs j) (were gs k))
parts_same [] j k h bj bk le = grind arith
parts_same (g ∷ gs) j k h bj bk le =
    let a : ℕ = length (coalesced_group g) in
    elim (ends g gs k bk) [
      | inl none ↦
          grind arith
      | inr (past, rest) ↦
          elim (ends g gs j bj) [
            | inl none ↦
                let old_j : were (g ∷ gs) j ≡ 0 = ap (were (g ∷ gs)) none ∙ were-none (g ∷ gs) h in
                let old_k : were (g ∷ gs) k ≡ length g + were gs (k - a) = were-past g gs k past in
                let t : ComeToSame (part (all_coalesced gs) 0 (k - a)) (part (all_records gs) (were gs 0) (were gs (k - a))) =
                grind (arith, parts_same gs 0 (k - a) h.1 (whole_none gs) rest (omega arith)) in
                let u : ComeToSame (part (all_coalesced gs) 0 (k - a)) (part (all_records gs) 0 (were gs (k - a))) =
                grind (arith, were-none) in
                let left : part (all_coalesced (g ∷ gs)) j k ≡ coalesced_group g ++ part (all_coalesced gs) 0 (k - a) =
                grind (arith, part_from) in
                let sum : (length g + were gs (k - a)) - length g ≡ were gs (k - a) = omega arith in
                let right : part (all_records (g ∷ gs)) (were (g ∷ gs) j) (were (g ∷ gs) k) ≡ g ++ part (all_records gs) 0 (were gs (k - a)) =
                grind (arith, part_from) in
                subst (λ rs. ComeToSame rs (part (all_records (g ∷ gs)) (were (g ∷ gs) j) (were (g ∷ gs) k))) (sym left)
                (subst (λ rs. ComeToSame (coalesced_group g ++ part (all_coalesced gs) 0 (k - a)) rs) (sym right)
                (same_both (coalesced_group g) g (part (all_coalesced gs) 0 (k - a)) (part (all_records gs) 0 (were gs (k - a))) (same_group g) u))
            | inr (past_j, rest_j) ↦
                let old_j : were (g ∷ gs) j ≡ length g + were gs (j - a) = were-past g gs j past_j in
                let old_k : were (g ∷ gs) k ≡ length g + were gs (k - a) = were-past g gs k past in
                let t : ComeToSame (part (all_coalesced gs) (j - a) (k - a)) (part (all_records gs) (were gs (j - a)) (were gs (k - a))) =
                grind (arith, parts_same gs (j - a) (k - a) h.1 rest_j rest (omega (arith, le))) in
                let left : part (all_coalesced (g ∷ gs)) j k ≡ part (all_coalesced gs) (j - a) (k - a) = grind (arith, part_past) in
                let sum_j : (length g + were gs (j - a)) - length g ≡ were gs (j - a) = omega arith in
                let sum_k : (length g + were gs (k - a)) - length g ≡ were gs (k - a) = omega arith in
                let right : part (all_records (g ∷ gs)) (were (g ∷ gs) j) (were (g ∷ gs) k) ≡ part (all_records gs) (were gs (j - a)) (were gs (k - a)) =
                grind (arith, part_past)
                in
                subst (λ rs. ComeToSame rs (part (all_records (g ∷ gs)) (were (g ∷ gs) j) (were (g ∷ gs) k))) (sym left)
                (subst (λ rs. ComeToSame (part (all_coalesced gs) (j - a) (k - a)) rs) (sym right) t)
          ]
    ]
