use Rattle.orders.proofs.Accepted.{first_is_ready, goes_is_accepted, never_stuck}
use Rattle.orders.proofs.Rule.{accepted_goes, accepted_is_done, accepted_is_lawful, lawful_is_accepted}
use Rattle.orders.proofs.laws.rule_is_lawful.Goals as goal

pub returns : goal.returns
returns g c = record {
  accepted = λ w l. lawful_is_accepted w l;
  lawful = λ w l. accepted_is_lawful w l;
  goes = λ w l. goes_is_accepted w l;
  only = λ w l. accepted_goes w l;
  done = λ w l. accepted_is_done w l;
  stuck = λ w l. never_stuck w l;
  first = λ w l. first_is_ready w l;
}
