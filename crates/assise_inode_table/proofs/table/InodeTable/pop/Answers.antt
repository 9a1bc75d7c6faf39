use Rattle.assise_inode_table.proofs.Common.{◌≡◌, ◌++◌, ◌∙◌, IfSome, None, Option, Some, ap, cond, nat_eq, refl, nat_eq_equiv, lookup, option_to_list}
use Rattle.std.specs.FinMap as map
use Rattle.assise_inode_table.proofs.Shared.MapView.{get-seen, last_of, remove-numbers}
use Rattle.assise_inode_table.proofs.table.InodeTable.pop.Goals as goal

some_map : {A : Type 0} {P Q : A → Type 0} (o : Option A) → IfSome o P → ((x : A) → o ≡ Some x → P x → Q x) → IfSome o Q
some_map None p f = tt
some_map (Some x) p f = f x refl p

pub returns-clause-there : goal.returns-clause-there
returns-clause-there c =
    let es = c.self.inside.inodes.entries in
    let fs = c.pop.new.self.entries in
    some_map c.pop.result c.pop.ensures.updates (λ taken is updates.
    get-seen es taken.0 c.self.view_is
    ∙ ap (lookup (nat_eq taken.0)) (c.pop.ensures.entries ∙ ap (λ o. fs ++ option_to_list o) is)
    ∙ last_of fs taken.0 taken.1 (updates.0 taken.0 ∙ ap (λ b. cond b None (lookup (nat_eq taken.0) es)) (nat_eq_equiv.refl taken.0)))

pub returns-clause-others : goal.returns-clause-others
returns-clause-others c =
    some_map c.pop.result c.pop.ensures.updates (λ taken is updates.
    remove-numbers c.self.inside.inodes.entries c.pop.new.self.entries taken.0 updates.0 ∙ ap (λ m. map.remove m taken.0) c.self.view_is)
