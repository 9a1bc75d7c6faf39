use Rattle.assise_keeper.proofs.Common.{◌≡◌, List, ap, sym, ◌∙◌, EntryValue, Stage, Holding, taken_at}

pub self_taken : {S : Type 0} (st : Stage S) (h : List EntryValue) (s : S) → st ≡ Holding h s → st ≡ Holding (taken_at st) s
self_taken {S} st h s is = is ∙ ap (λ (z : Stage S). Holding (taken_at z) s) (sym is)
