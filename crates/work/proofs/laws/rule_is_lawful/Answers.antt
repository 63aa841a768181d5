use Rattle.orders.proofs.Rule.{accepted_is_lawful, lawful_is_accepted}
use Rattle.steps.proofs.Locals.{filings_are_local}
use Rattle.steps.specs.Acting.{acts}
use Rattle.work.proofs.laws.rule_is_lawful.Goals as goal

pub returns : goal.returns
returns c = record { accepted = λ P. lawful_is_accepted (acts P) (filings_are_local P); lawful = λ P. accepted_is_lawful (acts P) (filings_are_local P) }
