-- `month_calls::days_shown` meets its contract. Assumes nothing.
use Rattle.month_calls.proofs.Answered.{line-begun, lists-kept}
use borrow.Author.Rules.{rules}
use Rattle.month_calls.proofs.days_shown.Goals as goal

pub returns : goal.returns
returns c = record { line = search line-begun; intervals = search rules; kept = search lists-kept }
