-- The export writes an empty desk into memory that nothing is known of.
use Rattle.assise_c.proofs.Common.{◌≡◌, List, None, [], ◌∷◌, ◌++◌, refl, sym, ap, ◌∙◌, full_share, Val, vptr, vunit, SProp, emp, sep, never, id⊢, ex, ex_i}
use Rattle.assise_c.proofs.Common.{WpFn, sem, ‵, raw, ◌⊛◌, some, later, prop, at_ret, ◌$◌, ◌∵◌, !, qed, by, move, keep, drop, use0, use1, use2, split, join}
use Rattle.assise_c.proofs.Common.{fsplit, fjoin, feq_i, pick, await, rewrite, regoal, stop, unit_lit, init, of_opd, no_more, first, blocks, assigns_last, exec}
use Rattle.assise_c.proofs.Common.{returns, enter, alloc_all, pass_all, free_all, look_at, get, through, sets, lands_as, env, fact, fact_i, tables, yes}
use Rattle.assise_c.proofs.Common.{RattleType, owns, Is, shows, part_at, types_at, plain, RawPtr, Ptr, ptr_val, lies_at, room_at, in_a_block, nothing, heard}
use Rattle.assise_c.proofs.Common.{peeks, Lasts, lasts, alive, triple_of, calls_at, framed, Stays, stay_dropped, walk_of, Goes-dropped, part_in, proved_at}
use Rattle.assise_c.proofs.Common.{leaves, Desk, cluster_at}
use Rattle.assise_desk.specs.contracts.caller_desk.CallerDesk as desk
use Rattle.assise_desk.proofs.caller_desk.CallerDesk.TheLaws as desk_laws
use Rattle.assise_c.specs.contracts.empty as g
use Rattle.assise_c.proofs.empty.Met.{met}
use Rattle.assise_c.specs.contracts.assise_begin as f
use Rattle.assise_c.specs.contracts.assise_begin.Key.{name as #self}
use Rattle.assise_c.proofs.assise_begin.Statement.{statement}
use Rattle.assise_c.proofs.assise_begin.Code as code

abbrev stayed : Stays f.ended.signature.params f.ended.kept
stayed = (stay_dropped (plain (λ _. RawPtr)) yes, tt)

pub assise_begin_spec : {M : Type 1} → statement M
assise_begin_spec 𝓤 𝓛 𝓜 𝓡 wired =
    let H = 𝓛.H in
    let 𝓣 = tables 𝓤 H 𝓜 𝓡 𝓡.env in
    let c = f.clauses 𝓛 𝓜.mem 𝓡.returns in
    let D : RattleType = desk.the_row in
    let LD = desk_laws.the_row_laws in
    let G = triple_of 𝓛 g.signature (g.spec 𝓛 𝓜.mem 𝓡.returns) in
    proved_at 𝓛 f.ended stayed c 𝓜 𝓡 (Goes-dropped 𝓛 0 (plain (λ _. RawPtr)) yes (λ κs x w. refl), tt)
    #self code.function (code.unfolded 𝓤 H 𝓜 𝓡 wired) (λ z are.
    let a = z.0.3 in
    let vss = z.0.4 in
    let Post : Val → SProp 𝓤 = (walk_of 𝓛 f.ended stayed c).post z in
    let Left : Ptr → Desk → SProp 𝓤 = λ p left. sep 𝓤 (sem 𝓛 (lies_at D full_share p left)) (fact 𝓤 (cluster_at left ≡ None)) in
    qed 𝓛 ((raw (alive 𝓛 f.signature z.0.0 z.0.1) ⊛ ‵ (owns (types_at f.ended.signature.params z.0.0) a vss)) ∷ ‵ (room_at D a.0) ∷ []) ∵
    split ! $ move ! (1 ∷ []) $ fsplit ! $ keep ! (3 ∷ 2 ∷ []) $
    in_a_block ! a.0 (λ p. room_at D p) (id⊢ 𝓤 (never 𝓤)) (λ b o e.
    regoal ! (λ (us : List Val). prop (WpFn 𝓤 H 𝓣.C 𝓣.Λ code.function us Post)) (λ i. (are.0 ∙ ap (λ (p : Ptr). ptr_val p ∷ []) e) i ++ []) refl $
    enter ! 𝓣.C 𝓣.Λ code.function (vptr b o ∷ []) Post $ alloc_all ! (λ l. pass_all ! refl ((tt, tt), tt) $
    let Ev = env code.Mir.locals l in
    sets ! (of_opd ! (get ! refl)) refl (tt, tt) $
    move ! (1 ∷ []) $ nothing ! $ move ! (1 ∷ 0 ∷ []) $ join ! $ nothing ! $ move ! (1 ∷ 0 ∷ []) $ join ! $
    let y : G.Ghost = ((tt, tt, tt, tt, tt), tt) in
    use1 𝓛 (raw (G.pre y)) (id⊢ 𝓤 _) $
    calls_at ! (framed 𝓤 H 𝓜 𝓣) G (met 𝓤 𝓛 𝓜 𝓡 (code.calls-assise_c::empty 𝓡.env wired)) y (no_more !) (λ w.
    use1 𝓛 (later (some (λ (r : Desk). (raw (alive 𝓛 g.signature tt tt) ⊛ ‵ (D.own_val r (w ∷ []))) ⊛
    some (λ (ls : Lasts g.ended tt y.0.3). ‵ (lasts g.ended tt y.0.3 ls) ⊛ raw (fact 𝓤 (cluster_at r ≡ None)))))) (id⊢ 𝓤 (G.post y w)) $
    await ! tt $ pick ! (λ r. split ! $ split ! $ move ! (2 ∷ []) $ pick ! (λ ls. split ! $ drop ! $ heard ! (cluster_at r ≡ None) (λ none. move ! (1 ∷ []) $
    peeks ! D (Is D) (shows 𝓛 D) r (w ∷ []) (λ told.
    let tw = ((LD.lawful 𝓛).typed r (w ∷ []) told).0 in
    lands_as ! refl refl tw $
    first ! $ blocks ! $ sets ! (of_opd ! (get ! refl)) refl tw $ assigns_last ! (of_opd ! (get ! refl)) (through ! refl (stop !)) (init ! 2 refl tw) $
    exec ! 𝓣.C 𝓣.Λ Ev code.Mir.t-4 (at_ret Ev Post) $ sets ! (of_opd ! (unit_lit !)) refl (tt, tt) $
    returns ! (look_at ! 0 refl) $ free_all ! refl $
    move ! (2 ∷ 0 ∷ []) $ use2 𝓛 (‵ (part_at D full_share r b o)) (part_in 𝓛 D refl full_share r b o w) $
    rewrite ! 0 (λ (p : Ptr). ‵ (lies_at D full_share p r)) (sym e) refl $
    use0 𝓛 (raw (fact 𝓤 (cluster_at r ≡ None))) (fact_i 𝓤 (cluster_at r ≡ None) (emp 𝓤) none) $
    move ! (1 ∷ 0 ∷ []) $ use2 𝓛 (raw (ex 𝓤 (Left a.0))) (ex_i 𝓤 (Left a.0) r) $
    feq_i ! (List Val) (vunit ∷ []) (vunit ∷ []) refl $ nothing ! $ nothing ! $ fjoin ! $
    keep ! (3 ∷ 0 ∷ 1 ∷ 2 ∷ []) $ by ! (leaves 𝓛 f.ended stayed c z vunit tt (tt, tt) (tt, tt))))))))))
