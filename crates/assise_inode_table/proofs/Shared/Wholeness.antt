-- The effects of a call can be made all or none.
use Rattle.assise_inode_table.proofs.Common.{ℕ, List, [], ◌∷◌, refl, inl, inr, Op, Create, Mkdir, Read, WriteCall, Truncate, Rename, UnlinkCall, Rmdir}
use Rattle.assise_inode_table.proofs.Common.{ListCall, Stat, Fsync, Dsync, Reply, Effect, Link, Unlink, Free, last_name, step, Values, CanBeMadeWhole, arith}
use Rattle.assise_inode_table.proofs.Shared.CallEnds.{HoldsWhereDone, call_ends}

abbrev IsWhole : Reply → List Effect → Type 0
IsWhole reply es = CanBeMadeWhole es

whole_where_done : (op : Op) (fresh : ℕ) → HoldsWhereDone IsWhole op fresh
whole_where_done (Create p) fresh = λ d. inl (refl, tt)
whole_where_done (Mkdir p) fresh = λ d. inl (refl, tt)
whole_where_done (Read p offset most) fresh = λ bytes. inr (inl tt)
whole_where_done (WriteCall p offset new) fresh = grind arith
whole_where_done (Truncate p size) fresh = λ i. inr (inl tt)
whole_where_done (Rename p q) fresh = (
  inr (inl tt),
  λ d e i. inr (inr (record { before = Unlink d (last_name p) ∷ []; last = Link e (last_name q) i; are = refl; take_away = (tt, tt); links = refl })),
  λ d e i g. inr (inr (record {
    before = Unlink e (last_name q) ∷ Free g ∷ Unlink d (last_name p) ∷ [];
    last = Link e (last_name q) i;
    are = refl;
    take_away =
        grind arith;
    links = refl;
  })),
)
whole_where_done (UnlinkCall p) fresh = λ d i. inr (inl (tt, tt))
whole_where_done (Rmdir p) fresh = λ d i. inr (inl (tt, tt))
whole_where_done (ListCall p) fresh = λ names. inr (inl tt)
whole_where_done (Stat p) fresh = λ content. inr (inl tt)
whole_where_done Fsync fresh = inr (inl tt)
whole_where_done Dsync fresh = inr (inl tt)

pub effects_whole : (v : Values) (op : Op) (fresh : ℕ) → CanBeMadeWhole (step v op fresh).effects
effects_whole v op fresh = call_ends v IsWhole (λ e. inr (inl tt)) op fresh (whole_where_done op fresh)
