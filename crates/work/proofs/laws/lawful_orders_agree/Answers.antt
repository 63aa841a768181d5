use Rattle.orders.proofs.Exchanges.{exchange}
use Rattle.orders.proofs.Lawfuls.{exchanged_is_lawful, lawful_is_exchanged, lawful_orders_agree}
use Rattle.steps.proofs.Locals.{filings_are_local}
use Rattle.steps.specs.Acting.{acts}
use Rattle.work.proofs.laws.lawful_orders_agree.Goals as goal

pub returns : goal.returns
returns c = record {
  exchange = λ P. exchange (acts P) (filings_are_local P);
  lawful = λ P. exchanged_is_lawful (acts P) (filings_are_local P);
  exchanged = λ P. lawful_is_exchanged (acts P) (filings_are_local P);
  agree = λ P. lawful_orders_agree (acts P) (filings_are_local P);
}
