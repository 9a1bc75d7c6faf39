-- Steps that keep all areas: the world that such a step leads to, with the areas that were there before.
use Rattle.assise_model_events.proofs.Common.{ℕ, arith, Mode, NumberedCall, Crashes, MakesCall, Opens, RaisesGoals, Delivers, World, end_of_log, Grants, Leases}

abbrev pub with_old_areas : World → World → World
with_old_areas w u = record u { area = w.area }

pub old_opens : (w u : World) (n : ℕ) → Opens w n u → Opens w n (with_old_areas w u)
old_opens w u n e = grind arith

pub old_call : (w u : World) (x : NumberedCall) → MakesCall w x u → MakesCall w x (with_old_areas w u)
unfolding end_of_log
old_call w u x e = grind arith

pub old_raises : (w u : World) (k : ℕ → ℕ) → RaisesGoals w k u → RaisesGoals w k (with_old_areas w u)
old_raises w u k e = grind arith

pub old_crash : (w u : World) (c : ℕ) → Crashes w c u → Crashes w c (with_old_areas w u)
old_crash w u c e = grind arith

pub old_delivers : (w u : World) (n c k : ℕ) → Delivers w n c k u → Delivers w n c k (with_old_areas w u)
old_delivers w u n c k e = grind arith

pub old_grants : (w u : World) (l k : Leases) (c i : ℕ) (mode : Mode) → Grants w l c i mode u k → Grants w l c i mode (with_old_areas w u) k
old_grants w u l k c i mode e = grind arith
