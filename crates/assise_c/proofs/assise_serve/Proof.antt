-- The export reads the desk, has it served, and writes it back.
use Rattle.assise_c.proofs.Common.{◌≡◌, List, [], ◌∷◌, ◌++◌, refl, sym, ap, ◌∙◌, subst, full_share, Val, vptr, vunit, SProp, emp, sep, never, id⊢, ex, ex_i}
use Rattle.assise_c.proofs.Common.{fact, fact_i, WpFn, sem, ‵, raw, ◌⊛◌, some, later, prop, at_ret, ◌$◌, ◌∵◌, !, qed, by, move, keep, drop, use0, use1, use2}
use Rattle.assise_c.proofs.Common.{split, join, fsplit, fjoin, feq_i, pick, await, rewrite, regoal, stop, unit_lit, load, look, store, of_opd, no_more}
use Rattle.assise_c.proofs.Common.{and_then, first, blocks, assigns_last, exec, returns, enter, alloc_all, pass_all, free_all, look_at, get, through, sets}
use Rattle.assise_c.proofs.Common.{sets_last, lands_as, env, tables, yes, RattleType, owns, Is, shows, Typed, lone, part_at, types_at, plain, RawPtr, Ptr}
use Rattle.assise_c.proofs.Common.{ptr_val, lies_at, in_a_block, nothing, heard, peeks, only, Lasts, lasts, alive, triple_of, calls_at, framed, Stays}
use Rattle.assise_c.proofs.Common.{stay_dropped, walk_of, Goes-dropped, part_out, part_in, proved_at, leaves, Desk, IsServedAt}
use base.Fml.{fat}
use denote.Struct.Members.{Lone}
use Rattle.std.specs.contracts.alloc.Global as heap
use Rattle.std.proofs.alloc.Global.TheLaws as heap_laws
use Rattle.assise_desk.specs.contracts.caller_desk.CallerDesk as desk
use Rattle.assise_desk.proofs.caller_desk.CallerDesk.TheLaws as desk_laws
use Rattle.assise_c.specs.contracts.served as g
use Rattle.assise_c.proofs.served.Met.{met}
use Rattle.assise_c.specs.contracts.assise_serve as f
use Rattle.assise_c.specs.contracts.assise_serve.Key.{name as #self}
use Rattle.assise_c.proofs.assise_serve.Statement.{statement}
use Rattle.assise_c.proofs.assise_serve.Code as code

Lone-is : (vs : List Val) → Lone vs → vs ≡ only vs ∷ []
Lone-is [] l = absurd l
Lone-is (v ∷ []) l = refl
Lone-is (v ∷ u ∷ us) l = absurd l

abbrev stayed : Stays f.ended.signature.params f.ended.kept
stayed = (stay_dropped (plain (λ _. heap.the_row)) yes, (stay_dropped (plain (λ _. RawPtr)) yes, tt))

pub assise_serve_spec : {M : Type 1} → statement M
assise_serve_spec 𝓤 𝓛 𝓜 𝓡 wired =
    let H = 𝓛.H in
    let 𝓣 = tables 𝓤 H 𝓜 𝓡 𝓡.env in
    let c = f.clauses 𝓛 𝓜.mem 𝓡.returns in
    let D : RattleType = desk.the_row in
    let LD = desk_laws.the_row_laws in
    let Z : RattleType = heap.the_row in
    let LZ = heap_laws.the_row_laws in
    let G = triple_of 𝓛 g.signature (g.spec 𝓛 𝓜.mem 𝓡.returns) in
    proved_at 𝓛 f.ended stayed c 𝓜 𝓡 (Goes-dropped 𝓛 0 (plain (λ _. Z)) yes (λ κs x w. refl), (Goes-dropped 𝓛 0 (plain (λ _. RawPtr)) yes (λ κs x w. refl), tt))
    #self code.function (code.unfolded 𝓤 H 𝓜 𝓡 wired) (λ z are.
    let a = z.0.3 in
    let vss = z.0.4 in
    let Post : Val → SProp 𝓤 = (walk_of 𝓛 f.ended stayed c).post z in
    let u : Val = only vss.0 in
    let is : vss.0 ≡ u ∷ [] = Lone-is vss.0 (LZ.single a.0 vss.0 are.0) in
    let tu = (subst (Typed Z.mir) is ((LZ.lawful 𝓛).typed a.0 vss.0 are.0)).0 in
    qed 𝓛 ((raw (alive 𝓛 f.signature z.0.0 z.0.1) ⊛ ‵ (owns (types_at f.ended.signature.params z.0.0) a vss)) ∷ ‵ (lies_at D full_share a.1.0 z.1) ∷ []) ∵
    split ! $ move ! (1 ∷ []) $ fsplit ! $ move ! (1 ∷ []) $ fsplit ! $ keep ! (4 ∷ 2 ∷ 3 ∷ []) $
    rewrite ! 1 (λ (vs : List Val). ‵ (Z.own_val a.0 vs)) is refl $
    let Left : Desk → Ptr → Desk → SProp 𝓤 = λ asked p left. sep 𝓤 (sem 𝓛 (lies_at D full_share p left)) (fact 𝓤 (IsServedAt asked left)) in
    in_a_block ! a.1.0 (λ p. lies_at D full_share p z.1) (id⊢ 𝓤 (never 𝓤)) (λ b o e.
    regoal ! (λ (us : List Val). prop (WpFn 𝓤 H 𝓣.C 𝓣.Λ code.function us Post)) (λ i. is i ++ ((are.1.0 ∙ ap (λ (p : Ptr). ptr_val p ∷ []) e) i ++ [])) refl $
    use1 𝓛 (some (λ (v : Val). ‵ (fat full_share (lone D.mir) b o v) ⊛ ‵ (D.own_val z.1 (v ∷ [])))) (part_out 𝓛 D refl full_share z.1 b o) $ pick !
    (λ v. split ! $ move ! (1 ∷ []) $
    peeks ! D (Is D) (shows 𝓛 D) z.1 (v ∷ []) (λ shown.
    let tv = ((LD.lawful 𝓛).typed z.1 (v ∷ []) shown).0 in
    enter ! 𝓣.C 𝓣.Λ code.function (u ∷ vptr b o ∷ []) Post $ alloc_all ! (λ l. pass_all ! refl (tu, ((tt, tt), tt)) $
    let Ev = env code.Mir.locals l in
    sets ! (of_opd ! (get ! refl)) refl (tt, tt) $ sets ! (of_opd ! (get ! refl)) refl (tt, tt) $ sets ! (of_opd ! (get ! refl)) refl tu $
    first ! $ blocks ! $ sets ! (of_opd ! (get ! refl)) refl (tt, tt) $ sets_last ! (of_opd ! (load ! (through ! refl (stop !)) (look ! 1 refl))) refl tv $
    exec ! 𝓣.C 𝓣.Λ Ev code.Mir.t-5 (at_ret Ev Post) $ sets ! (of_opd ! (get ! refl)) refl tv $
    nothing ! $ move ! (1 ∷ 0 ∷ []) $ fjoin ! $ move ! (2 ∷ 0 ∷ []) $ fjoin ! $ move ! (2 ∷ 0 ∷ []) $ join ! $
    let y : G.Ghost = ((tt, tt, tt, (a.0, (z.1, tt)), (u ∷ [], (v ∷ [], tt))), tt) in
    nothing ! $ move ! (1 ∷ 0 ∷ []) $ join ! $ use1 𝓛 (raw (G.pre y)) (id⊢ 𝓤 _) $
    calls_at ! (framed 𝓤 H 𝓜 𝓣) G (met 𝓤 𝓛 𝓜 𝓡 (code.calls-assise_c::served 𝓡.env wired)) y (and_then ! (get ! refl) (and_then ! (get ! refl) (no_more !)))
    (λ w.
    use1 𝓛 (later (some (λ (r : Desk). (raw (alive 𝓛 g.signature tt tt) ⊛ ‵ (D.own_val r (w ∷ []))) ⊛
    some (λ (ls : Lasts g.ended tt y.0.3). ‵ (lasts g.ended tt y.0.3 ls) ⊛ raw (fact 𝓤 (IsServedAt z.1 r)))))) (id⊢ 𝓤 (G.post y w)) $
    await ! tt $ pick ! (λ r. split ! $ split ! $ move ! (2 ∷ []) $ pick ! (λ ls. split ! $ drop ! $ heard ! (IsServedAt z.1 r) (λ same. move ! (1 ∷ []) $
    peeks ! D (Is D) (shows 𝓛 D) r (w ∷ []) (λ told.
    let tw = ((LD.lawful 𝓛).typed r (w ∷ []) told).0 in
    lands_as ! refl refl tw $
    first ! $ blocks ! $ sets ! (of_opd ! (get ! refl)) refl (tt, tt) $ sets ! (of_opd ! (get ! refl)) refl tw $ assigns_last ! (of_opd ! (get ! refl))
    (through ! refl (stop !)) (store ! 2 refl tw) $
    exec ! 𝓣.C 𝓣.Λ Ev code.Mir.t-8 (at_ret Ev Post) $ sets ! (of_opd ! (unit_lit !)) refl (tt, tt) $
    returns ! (look_at ! 0 refl) $ free_all ! refl $
    move ! (2 ∷ 0 ∷ []) $ use2 𝓛 (‵ (part_at D full_share r b o)) (part_in 𝓛 D refl full_share r b o w) $
    rewrite ! 0 (λ (p : Ptr). ‵ (lies_at D full_share p r)) (sym e) refl $
    use0 𝓛 (raw (fact 𝓤 (IsServedAt z.1 r))) (fact_i 𝓤 (IsServedAt z.1 r) (emp 𝓤) same) $
    move ! (1 ∷ 0 ∷ []) $ use2 𝓛 (raw (ex 𝓤 (Left z.1 a.1.0))) (ex_i 𝓤 (Left z.1 a.1.0) r) $
    feq_i ! (List Val) (vunit ∷ []) (vunit ∷ []) refl $ nothing ! $ nothing ! $ fjoin ! $ nothing ! $ fjoin ! $
    keep ! (3 ∷ 0 ∷ 1 ∷ 2 ∷ []) $ by ! (leaves 𝓛 f.ended stayed c z vunit tt (tt, (tt, tt)) (tt, (tt, tt)))))))))))))
