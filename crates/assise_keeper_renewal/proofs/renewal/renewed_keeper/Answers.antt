use Rattle.std.proofs.Common.{subst, sym}
use Rattle.assise_keeper_renewal.specs.Renewed.{IsLastRenewed}
use Rattle.assise_keeper_renewal.proofs.renewal.renewed_keeper.Goals as goal

pub returns-in-Err-clause-given_back : goal.returns-in-Err-clause-given_back
returns-in-Err-clause-given_back g c = record {
  old = c.into_state-old.result;
  kept = record { led = c.into_state-old.ensures.led; extends = c.into_state-old.ensures.extends };
  settles = c.renewed.ensures.settles;
  stays = c.renewed.ensures.stays;
}

pub returns-in-Err-new-clause-given_back : goal.returns-in-Err-new-clause-given_back
returns-in-Err-new-clause-given_back g c = record {
  old = c.into_state-old.result;
  kept = record { led = c.into_state-old.ensures.led; extends = c.into_state-old.ensures.extends };
  settles = c.renewed.ensures.settles;
  stays = c.renewed.ensures.stays;
}

pub returns-in-Ok-new-clause-renewed : goal.returns-in-Ok-new-clause-renewed
returns-in-Ok-new-clause-renewed g c =
    subst (IsLastRenewed c.args.pass c.args.sizes) (sym c.in-Ok-new.ensures.last) (record {
      old = c.into_state-old.result;
      kept = record { led = c.into_state-old.ensures.led; extends = c.into_state-old.ensures.extends };
      renewed = c.in-Ok.ensures.renewed;
    })
