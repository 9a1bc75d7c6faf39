use Rattle.assise_renewal.proofs.Common.{subst, machine, IsLedBy, IsOfFirst}
use Rattle.assise_renewal.proofs.Led.{led_on}
use Rattle.assise_renewal.proofs.filling.fill.Goals as goal
use Rattle.assise_renewal.proofs.filling.fill.Goals.{in-Ok+in_ok-fill_directory, in_default}

pub returns : goal.returns
returns g c =
    elim c.match-entries.branch [
      | in-Ok+in_ok-fill_directory w ↦
          led_on IsOfFirst (machine c.args.cluster.now) (machine w.fill_directory.new.cluster) (machine c.make.new.cluster) w.fill_directory.ensures
          (subst (λ cluster. IsLedBy IsOfFirst (machine cluster) (machine c.make.new.cluster)) w.cluster-is c.make.ensures)
      | in_default w ↦ subst (λ cluster. IsLedBy IsOfFirst (machine cluster) (machine c.make.new.cluster)) w.cluster-is c.make.ensures
    ]
