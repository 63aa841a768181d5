use Rattle.orders.proofs.Decided.{only_done_counts}
use Rattle.orders.proofs.History.{worked_in_order}
use Rattle.orders.proofs.Reached.{order_of_work_unseen, untouched_is_final}
use Rattle.orders.proofs.laws.order_of_work_unseen.Goals as goal

pub returns : goal.returns
returns g c = record { as_filed = λ w l. order_of_work_unseen w l; decided = λ w l. only_done_counts w l; in_order = λ w l. worked_in_order w l; settled = λ w l. untouched_is_final w l }
