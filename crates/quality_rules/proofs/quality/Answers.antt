-- `quality_rules::quality` meets its contract. Assumes nothing.
use Rattle.std.proofs.Common.{◌∙◌}
use Rattle.format.proofs.Quality.{method-fits, quality-none, quality-alone, quality-long, quality-other, quality-is, quality-bad}
use Rattle.quality_rules.proofs.quality.Goals as goal

pub returns-then-n-eq0 : goal.returns-then-n-eq0
returns-then-n-eq0 c = search (quality-none, quality-alone, quality-long, quality-other, quality-is, quality-bad)

pub returns-then-n-eq1 : goal.returns-then-n-eq1
returns-then-n-eq1 c = search (quality-none, quality-alone, quality-long, quality-other, quality-is, quality-bad)

pub returns-then-stands_alone : goal.returns-then-stands_alone
returns-then-stands_alone c = search (quality-none, quality-alone, quality-long, quality-other, quality-is, quality-bad)

pub overflow_cast-result : goal.overflow_cast-result
overflow_cast-result c = search (method-fits, c.in_ok-m.was)

pub returns-then-takes_method : goal.returns-then-takes_method
returns-then-takes_method c = search (quality-is, c.in_ok-m.was)

pub returns-in_err-m : goal.returns-in_err-m
returns-in_err-m c = c.from_residual.ensures ∙ search (quality-bad, c.in_err-m.was)

pub returns : goal.returns
returns c = search (quality-none, quality-alone, quality-long, quality-other, quality-is, quality-bad)
