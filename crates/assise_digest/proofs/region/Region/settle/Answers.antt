use Rattle.assise_digest.proofs.Common.{◌-◌, slice_set, OnErr, OnOk, Result, Ok, Err, length, take_all, arith, ap, subst, sym, ◌∙◌, all_applied, all_effects}
use Rattle.assise_digest.proofs.Common.{ahead, digested_by, LogInvariant, LogsInvariant, seen_log}
use Rattle.assise_digest.proofs.Grouped.{digested_sound_all, digested_view_all}
use Rattle.assise_digest.proofs.RegionLogs.{here_sound, log_there, sound_set}
use Rattle.assise_digest.proofs.region.Region.settle.Goals as goal

by_result : {T E A B D F P : Type 0} (r : Result T E) → OnOk r A → OnOk r B → OnErr r D → OnErr r F → (A → B → P) → (D → F → P) → P
by_result (Ok x) a b d f g h = g a b
by_result (Err e) a b d f g h = h d f

ok_map_two : {T E A B P : Type 0} (r : Result T E) → OnOk r A → OnOk r B → (A → B → P) → OnOk r P
ok_map_two (Ok x) a b f = f a b
ok_map_two (Err e) a b f = tt

pub settle-requires-clause-sound : goal.settle-requires-clause-sound
settle-requires-clause-sound c =
    let m = c.self.inside.area.inodes in
    let xs = c.self.inside.logs.items in
    here_sound m xs c.args.self.now c.args.client c.index_mut.result.now c.self.invariant c.self.view_is c.requires.client c.index_mut.ensures.value

pub invariant_of-self : goal.invariant_of-self
invariant_of-self c =
    let m = c.self.inside.area.inodes in
    let w = c.settle.new.area.inodes in
    let xs = c.self.inside.logs.items in
    let x = c.index_mut.result.now in
    let y = c.settle.new.self in
    let here : LogInvariant m x = here_sound m xs c.args.self.now c.args.client x c.self.invariant c.self.view_is c.requires.client c.index_mut.ensures.value in
    by_result c.settle.result c.settle.ensures.moved c.settle.ensures.sound c.settle.ensures.err c.settle.ensures.err_area
    (λ moved sound.
    digested_sound_all m w xs c.args.self.now c.args.client (length (ahead (seen_log x))) x y c.self.view_is c.requires.client c.requires.disjoint
    c.self.invariant c.index_mut.ensures.value (moved ∙ ap (λ rs. all_applied m (all_effects rs)) (sym (take_all _ (ahead (seen_log x)) (omega arith)))) sound)
    (λ same same_area.
    subst (λ n. LogsInvariant n (slice_set xs (c.args.client - 1) y)) (sym (ap (λ a. a.inodes) same_area))
    (sound_set m xs (c.args.client - 1) y c.self.invariant (subst (LogInvariant m) (sym same) here)))

pub returns-clause-ok : goal.returns-clause-ok
returns-clause-ok c =
    let m = c.self.inside.area.inodes in
    let w = c.settle.new.area.inodes in
    let xs = c.self.inside.logs.items in
    let r = c.args.self.now in
    let x = c.index_mut.result.now in
    let there = log_there m xs r c.args.client x c.self.view_is c.requires.client c.index_mut.ensures.value in
    ok_map_two c.settle.result c.settle.ensures.moved c.settle.ensures.seen (λ moved seen.
    digested_view_all m w c.settle.new.area.capacity xs r c.args.client (length (ahead (seen_log x))) x c.settle.new.self c.self.view_is c.requires.client
    c.index_mut.ensures.value (moved ∙ ap (λ rs. all_applied m (all_effects rs)) (sym (take_all _ (ahead (seen_log x)) (omega arith))))
    c.settle.ensures.capacity seen
    ∙ ap (λ l. digested_by r c.args.client (length (ahead l))) (sym there))
