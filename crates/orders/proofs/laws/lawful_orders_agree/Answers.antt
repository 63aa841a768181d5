use Rattle.orders.proofs.Exchanges.{exchange}
use Rattle.orders.proofs.Lawfuls.{exchanged_is_lawful, lawful_is_exchanged, lawful_orders_agree}
use Rattle.orders.proofs.laws.lawful_orders_agree.Goals as goal

pub returns : goal.returns
returns g c = record {
  exchange = λ w l. exchange w l;
  lawful = λ w l. exchanged_is_lawful w l;
  exchanged = λ w l. lawful_is_exchanged w l;
  agree = λ w l. lawful_orders_agree w l;
}
